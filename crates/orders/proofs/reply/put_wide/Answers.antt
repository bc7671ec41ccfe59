use Rattle.orders.proofs.ReplyLaws.{both, halves}
use Rattle.orders.proofs.reply.put_wide.Goals as goal

pub returns : goal.returns
returns c = rw (halves c.args.n) (both c.put_number-a.ensures c.put_number.ensures)
