use native.Mathlib.Omega.{arith}
use Rattle.chip.specs.Chip.{pages_of}
use Rattle.views.specs.Stored.{length_of}
use Rattle.tree.specs.Shown.{shown}
use Rattle.tree.proofs.FindLaws.{root_low, from_root}
use Rattle.tree.proofs.find.find.Goals as goal

pub find_at-requires : goal.find_at-requires
find_at-requires c = let h = root_low c.args.nodes.geometry c.args.nodes.limit (pages_of c.args.nodes.geometry c.args.nodes.image.now) c.args.nodes.lens.now c.args.nodes.slots.now c.args.count c.args.buffer.now in
    (omega (arith, c.read_at-root.ensures.node.level), c.read_at-root.ensures)

pub returns : goal.returns
returns c = from_root (length_of c.args.nodes.geometry c.args.nodes.limit (pages_of c.args.nodes.geometry c.args.nodes.image.now) c.args.nodes.lens.now c.args.nodes.slots.now) c.args.key
    (shown c.args.nodes.geometry c.args.nodes.limit (pages_of c.args.nodes.geometry c.args.nodes.image.now) c.args.nodes.lens.now c.args.nodes.slots.now c.args.count c.args.buffer.now)
    c.read_at-root.result.node.level c.find_at.result c.read_at-root.ensures.node.level
    (root_low c.args.nodes.geometry c.args.nodes.limit (pages_of c.args.nodes.geometry c.args.nodes.image.now) c.args.nodes.lens.now c.args.nodes.slots.now c.args.count c.args.buffer.now) c.find_at.ensures
