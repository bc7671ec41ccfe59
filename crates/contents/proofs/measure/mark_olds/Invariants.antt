use Prim.Native.Nat.{ℕ}
use Rattle.lists.specs.Lists.{bit}
use Rattle.views.specs.Stored.{stored_list}
use Rattle.contents.specs.ContentsCode.{FillsArray, in_oldest}
use Rattle.contents.proofs.measure.mark_olds.Given as goal

abbrev pub invariant-loop-n : goal.invariant-loop-n
invariant-loop-n l = FillsArray l.n (λ (m : ℕ). bit (in_oldest l.nodes.geometry l.oldest (stored_list l.nodes.lens.now l.nodes.slots.now m))) l.initial.olds l.olds
