use mathlib.Core.Path.{◌≡◌}
use Prim.Native.Nat.{◌≤◌}
use lib.ListN.{length, take}
use Rattle.lists.specs.Lists.{filter}
use Rattle.plan.specs.SurveyCode.{is_unmarked}
use Rattle.plan.proofs.survey.list_unused.Given as goal

abbrev pub invariant-loop-b : goal.invariant-loop-b
invariant-loop-b l = (l.n ≤ length l.yielded) × (take l.n l.ring ≡ filter (is_unmarked l.marks) l.yielded)
