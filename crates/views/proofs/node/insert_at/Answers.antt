use Rattle.std.proofs.Common.{ap}
use mathlib.Core.List.{List}
use Prim.Native.Nat.{ℕ}
use lib.ListN.{set}
use Rattle.views.proofs.NodeLaws.{pushed}
use native.Mathlib.Omega.{arith}
use Rattle.views.proofs.node.insert_at.Goals as goal

pub returns : goal.returns
returns c = pushed c.args.len c.args.p c.args.x c.args.a.now _ (omega arith) (omega arith) (ap (λ (r : List ℕ). set r c.args.p c.args.x) c.copy_within.ensures.after)
