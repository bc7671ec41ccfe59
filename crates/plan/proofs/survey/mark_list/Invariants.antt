use mathlib.Core.Path.{◌≡◌}
use mathlib.Core.List.{foldl}
use Prim.Native.Nat.{◌≤◌}
use lib.ListN.{length, drop}
use Rattle.views.specs.Stored.{stored_list}
use Rattle.plan.specs.SurveyCode.{mark}
use Rattle.plan.proofs.survey.mark_list.Given as goal

abbrev pub invariant-loop-i : goal.invariant-loop-i
invariant-loop-i l = (l.i ≤ l.used) × (length l.marks ≡ length l.initial.marks)
    × (foldl (mark l.geometry) l.marks (drop l.i (stored_list l.lens l.slots l.node)) ≡ foldl (mark l.geometry) l.initial.marks (stored_list l.lens l.slots l.node))
