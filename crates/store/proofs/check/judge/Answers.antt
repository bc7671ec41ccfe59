use mathlib.Core.Path.{ap}
use mathlib.Core.Bool.{true, false}
use borrow.Author.Tests.{not-true, not-false}
use Rattle.tree.specs.CheckCode.{is_grown, is_found_thin}
use Rattle.store.specs.CheckCode.{unread, no_tree}
use Rattle.store.proofs.CheckLaws.{judged_layout, judged_shape, judged_tree}
use Rattle.store.proofs.check.judge.Goals as goal

pub read_nodes-well-requires : goal.read_nodes-well-requires
read_nodes-well-requires c = c.requires

pub returns-then-not-well : goal.returns-then-not-well
returns-then-not-well c = λ v xs st ek.
    unread (judged_layout c.args.geometry c.args.image.now _ _ c.args.limit c.requires.4 v xs st c.read_nodes-well.result (c.read_nodes-well.ensures v xs st ek)
    (not-true _ c.if-not-well.true-raw))

pub returns-in-NoTree : goal.returns-in-NoTree
returns-in-NoTree c = λ v xs st ek. let p =
    judged_shape c.args.geometry c.args.image.now _ _ c.args.limit c.requires.4 v xs st c.read_nodes-well.result (c.read_nodes-well.ensures v xs st ek)
    (not-false _ c.if-not-well.false-raw) _ c.check_tree-growth.result c.check_tree-growth.ensures (ap is_grown c.in-NoTree.is) in
    no_tree p.0 p.1

pub returns-in-Thin : goal.returns-in-Thin
returns-in-Thin c = λ v xs st ek.
    judged_tree c.args.geometry c.args.image.now _ _ c.args.limit c.requires.4 v xs st c.read_nodes-well.result (c.read_nodes-well.ensures v xs st ek)
    (not-false _ c.if-not-well.false-raw) _ c.check_tree-growth.result c.check_tree-growth.ensures true (ap is_grown c.in-Thin.is) (ap is_found_thin c.in-Thin.is) _
    c.gather.ensures

pub returns-in-Thick : goal.returns-in-Thick
returns-in-Thick c = λ v xs st ek.
    judged_tree c.args.geometry c.args.image.now _ _ c.args.limit c.requires.4 v xs st c.read_nodes-well.result (c.read_nodes-well.ensures v xs st ek)
    (not-false _ c.if-not-well.false-raw) _ c.check_tree-growth.result c.check_tree-growth.ensures false (ap is_grown c.in-Thick.is) (ap is_found_thin c.in-Thick.is) _
    c.gather.ensures
