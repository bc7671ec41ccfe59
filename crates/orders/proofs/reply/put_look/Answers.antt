use Rattle.orders.proofs.ReplyLaws.{both}
use Rattle.orders.proofs.reply.put_look.Goals as goal

pub returns-in-Some : goal.returns-in-Some
returns-in-Some c = rw (c.in-Ok.is, c.in-Some.is) c.put_found.ensures

pub returns-in-None : goal.returns-in-None
returns-in-None c = rw (c.in-Ok.is, c.in-None.is) (both (rw c.from.ensures at c.put_number-a.ensures) c.put_short.ensures)

pub returns-in-Err : goal.returns-in-Err
returns-in-Err c = rw c.in-Err.is (rw c.from-in-Err.ensures at c.put_short-in-Err.ensures)
