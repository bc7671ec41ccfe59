use Rattle.views.specs.NodeCode.{entries_of}
use Rattle.tree.proofs.DeleteCodeLaws.{settles_alone, settles_pair}
use Rattle.tree.proofs.delete.settle.Goals as goal

pub returns-then-len-lt2 : goal.returns-then-len-lt2
returns-then-len-lt2 c = settles_alone c.args.nodes.geometry c.args.nodes.image.now c.args.nodes.lens.now c.args.nodes.slots.now c.args.nodes.limit c.requires.0 c.args.node c.args.key c.args.count (entries_of c.args.n) c.args.buffer.now c.args.free.now
    c.args.n.len c.keep.result c.requires.1 c.requires.2 c.if-len-lt2.true c.keep.ensures

pub returns : goal.returns
returns c = settles_pair c.args.nodes.geometry c.args.nodes.image.now c.args.nodes.lens.now c.args.nodes.slots.now c.args.nodes.limit c.requires.0 c.args.node c.args.key c.args.count (entries_of c.args.n) c.args.buffer.now c.args.free.now
    c.left_index-i.result c.args.n.len (entries_of c.node_at-x.result) (entries_of c.node_at-y.result) c.pair_at-pair.result _ _ c.balance.result
    c.requires.2 c.left_index-i.ensures.0 c.pair_at-pair.ensures c.node_at-x.ensures.entries c.node_at-y.ensures.entries c.balance.ensures
