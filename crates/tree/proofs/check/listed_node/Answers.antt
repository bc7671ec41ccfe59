use Rattle.views.specs.FoldCode.{view_of}
use Rattle.tree.proofs.CheckLaws.{listed_shown}
use Rattle.tree.proofs.check.listed_node.Goals as goal

pub returns : goal.returns
returns c = listed_shown c.args.nodes.geometry c.args.nodes.image.now c.args.nodes.lens.now c.args.nodes.slots.now c.args.nodes.limit c.args.number (view_of c.list_view.result) c.node_or_empty.result
    c.list_view.ensures.is c.node_or_empty.ensures
