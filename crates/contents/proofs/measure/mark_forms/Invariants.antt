use Prim.Native.Nat.{ℕ}
use lib.ListN.{get_or, length}
use Rattle.lists.specs.Lists.{bit}
use Rattle.views.specs.Stored.{stored_list}
use Rattle.contents.specs.ContentsCode.{FillsArray, is_forced_by}
use Rattle.contents.proofs.measure.mark_forms.Given as goal

abbrev pub invariant-loop-number : goal.invariant-loop-number
invariant-loop-number l = FillsArray l.number (λ (m : ℕ). bit (is_forced_by (get_or l.initial.forms m 0) (get_or l.parts m 0) (get_or l.wholes m 0) (length (stored_list l.nodes.lens.now l.nodes.slots.now m)))) l.initial.forms l.forms
