use Rattle.orders.proofs.ReplyLaws.{both}
use Rattle.orders.proofs.reply.put_report.Goals as goal

pub returns-in-Ok : goal.returns-in-Ok
returns-in-Ok c = rw c.in-Ok.is
    (both c.put_number-a.ensures (both c.put_number-b.ensures (both c.put_number-c.ensures (both c.put_wide-d.ensures c.put_feed.ensures))))

pub returns-in-Err : goal.returns-in-Err
returns-in-Err c = rw c.in-Err.is (rw c.from.ensures at c.put_short.ensures)
