use mathlib.Core.Path.{refl}
use Prim.Native.Nat.{◌<◌}
use Rattle.chip.specs.Geometry.{geometry_of}
use Rattle.chip.proofs.Sizes.{blocks_whole, nand_fits}
use Rattle.tree.specs.Step6.{top}
use Rattle.store.specs.Parts.{joined, with_free}
use Rattle.store.proofs.AnswerLaws.{passed_up}
use Rattle.store.proofs.LookLaws.{look_refused, look_answer}
use borrow.Author.Rules.{rules}
use Rattle.store.proofs.find.look_up_lent.Goals as goal

pub nodes_of-nodes-requires : goal.nodes_of-nodes-requires
nodes_of-nodes-requires c = let a = (rw c.in_ok-admit.was at c.admit.ensures) in a.chip refl

pub returns-in_err-admit : goal.returns-in_err-admit
returns-in_err-admit c free erases = let s = joined (with_free c.args.numbers free) c.args.buffer.now c.args.lens.now c.args.slots.now erases in
    let a = (rw c.in_err-admit.was at c.admit.ensures) in
    rw (passed_up c.from_residual.result c.in_err-admit.field-0.0 c.from_residual.ensures.1) (look_refused c.args.key s c.args.image.now _ a.number)

pub returns : goal.returns
returns c free erases =
    let low : c.args.key < top = search rules in
    let s = joined (with_free c.args.numbers free) c.args.buffer.now c.args.lens.now c.args.slots.now erases in
    let a = (rw c.in_ok-admit.was at c.admit.ensures) in
    let w = c.nodes_of-nodes.ensures in
    look_answer c.args.key s c.args.image.now a.number c.find-looked.result (rw (w.0, w.1, w.2, w.3, w.4) at c.find-looked.ensures) low
