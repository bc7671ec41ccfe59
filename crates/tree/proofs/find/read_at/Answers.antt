use mathlib.Core.Path.{refl}
use Rattle.chip.specs.Chip.{pages_of}
use Rattle.views.specs.FoldCode.{view_of}
use Rattle.tree.proofs.FindLaws.{reads_shown}
use Rattle.tree.proofs.find.read_at.Goals as goal

pub returns : goal.returns
returns c = reads_shown c.args.nodes.geometry c.args.nodes.limit (pages_of c.args.nodes.geometry c.args.nodes.image.now) c.args.nodes.lens.now c.args.nodes.slots.now c.args.count c.args.buffer.now c.args.number
    (view_of c.read_node-r.result.folded) c.read_node-r.result c.node_or_empty.result c.read_node-r.ensures refl c.node_or_empty.ensures
