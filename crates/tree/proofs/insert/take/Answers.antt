use Rattle.tree.proofs.InsertCodeLaws.{takes_least, takes_none}
use Rattle.tree.proofs.insert.take.Goals as goal

pub returns-in_err-number : goal.returns-in_err-number
returns-in_err-number c = rw c.from_residual.ensures (takes_none c.args.free.now c.in_err-number.ensures)

pub returns : goal.returns
returns c = takes_least c.args.free.now _ c.in_ok-number.number c.in_ok-number.ensures c.take_out.ensures
