use mathlib.Core.Path.{sym}
use mathlib.Core.Bool.{true}
use Prim.Native.Nat.{◌/◌}
use native.Mathlib.Omega.{arith}
use lib.Seq.{set_out}
use Rattle.plan.proofs.survey.mark_page.Goals as goal

pub returns-else-b-lt32 : goal.returns-else-b-lt32
returns-else-b-lt32 c = sym (set_out c.args.marks.now (c.args.page / c.args.geometry.pages) true (omega arith))
