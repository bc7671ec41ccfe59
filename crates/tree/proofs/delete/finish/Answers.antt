use mathlib.Core.Path.{◌≡◌, sym, ◌∙◌}
use mathlib.Core.Bool.{false, ◌&&◌}
use lib.Dec.{ltb}
use lib.ListN.{length}
use Rattle.views.specs.NodeCode.{entries_of}
use Rattle.tree.proofs.DeleteTopLaws.{finishes_two, finishes_wide, finishes_collapse}
use Rattle.tree.proofs.delete.finish.Goals as goal
use Rattle.tree.proofs.delete.finish.Goals.{else-root-eq2-via-then-root-eq2+else-is_thin, else-root-eq2-via-else-root-eq2}

pub returns-then-is_thin : goal.returns-then-is_thin
returns-then-is_thin c = finishes_two c.args.nodes.geometry c.args.nodes.image.now c.args.nodes.lens.now c.args.nodes.slots.now c.args.nodes.limit c.requires.0 c.args.level c.args.key (entries_of c.args.root) c.args.r c.args.buffer.now c.args.free.now _ _ c.merge_or_share.result
    (sym c.is_thin.ensures ∙ c.if-is_thin.true) c.merge_or_share.ensures

pub returns-then-f-ne1 : goal.returns-then-f-ne1
returns-then-f-ne1 c = let no : length (entries_of c.args.root) ≡ 2 → (c.args.r.lost && ltb c.args.r.len 8) ≡ false
    = λ q. elim c.else-root-eq2.branch [ else-root-eq2-via-then-root-eq2+else-is_thin w ↦ sym w.is_thin.ensures ∙ w.if-is_thin.false | else-root-eq2-via-else-root-eq2 w ↦ absurd (w.if-root-eq2.false (sym c.requires.2 ∙ q)) ] in
    finishes_wide c.args.nodes.geometry c.args.nodes.image.now c.args.nodes.lens.now c.args.nodes.slots.now c.args.nodes.limit c.requires.0 c.args.level c.args.key (entries_of c.args.root) c.args.r c.args.buffer.now c.args.free.now _ _ c.mend-f.result c.mend-f.ensures no c.if-f-ne1.true

pub returns : goal.returns
returns c = let no : length (entries_of c.args.root) ≡ 2 → (c.args.r.lost && ltb c.args.r.len 8) ≡ false
    = λ q. elim c.else-root-eq2.branch [ else-root-eq2-via-then-root-eq2+else-is_thin w ↦ sym w.is_thin.ensures ∙ w.if-is_thin.false | else-root-eq2-via-else-root-eq2 w ↦ absurd (w.if-root-eq2.false (sym c.requires.2 ∙ q)) ] in
    finishes_collapse c.args.nodes.geometry c.args.nodes.image.now c.args.nodes.lens.now c.args.nodes.slots.now c.args.nodes.limit c.requires.0 c.args.level c.args.key (entries_of c.args.root) c.args.r c.args.buffer.now c.args.free.now _ _ c.mend-f.result c.mend-f.ensures no _ _ c.collapse.result c.collapse.ensures
