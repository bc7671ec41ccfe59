use Rattle.views.proofs.NodeLaws.{pulled}
use native.Mathlib.Omega.{arith}
use Rattle.views.proofs.node.remove_at.Goals as goal

pub returns : goal.returns
returns c = pulled c.args.len c.args.p c.args.a.now _ (omega arith) (omega arith) c.copy_within.ensures.after
