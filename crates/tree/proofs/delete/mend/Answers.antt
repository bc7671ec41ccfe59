use Rattle.views.specs.NodeCode.{entries_of}
use Rattle.tree.proofs.DeleteCodeLaws.{mends_thin, mends_kept}
use Rattle.tree.proofs.delete.mend.Goals as goal

pub returns-then-is_thin : goal.returns-then-is_thin
returns-then-is_thin c = mends_thin c.args.nodes.geometry c.args.nodes.image.now c.args.nodes.lens.now c.args.nodes.slots.now c.args.nodes.limit c.requires.0 c.args.node c.args.key (entries_of c.args.n) c.args.r c.args.buffer.now c.args.free.now
    c.is_thin.result _ _ c.settle.result c.is_thin.ensures c.if-is_thin.true c.settle.ensures

pub returns : goal.returns
returns c = mends_kept c.args.nodes.geometry c.args.nodes.image.now c.args.nodes.lens.now c.args.nodes.slots.now c.args.nodes.limit c.requires.0 c.args.node c.args.key (entries_of c.args.n) c.args.r c.args.buffer.now c.args.free.now
    c.is_thin.result c.args.n.len c.keep.result c.requires.1 c.requires.2 c.is_thin.ensures c.if-is_thin.false c.keep.ensures
