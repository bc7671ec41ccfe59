use mathlib.Core.Path.{◌≡◌}
use mathlib.Core.List.{foldl}
use Prim.Native.Nat.{◌-◌, ◌≤◌}
use lib.ListN.{length}
use Rattle.lists.specs.Lists.{flat}
use Rattle.views.specs.Stored.{stored_list}
use Rattle.journal.specs.Plan.{count_from}
use Rattle.plan.specs.SurveyCode.{mark}
use Rattle.plan.proofs.survey.mark_lists.Given as goal

abbrev pub invariant-loop-n : goal.invariant-loop-n
invariant-loop-n l = (l.n ≤ l.limit) × (length l.marks ≡ length l.initial.marks)
    × (foldl (mark l.geometry) l.marks (flat (stored_list l.lens l.slots) (count_from l.n (l.limit - l.n))) ≡ foldl (mark l.geometry) l.initial.marks (flat (stored_list l.lens l.slots) (count_from 0 l.limit)))
