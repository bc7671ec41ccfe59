use Rattle.tree.specs.CheckCode.{pages_table}
use Rattle.tree.proofs.CheckLaws.{walk_as, tree_counts, no_tree}
use Rattle.tree.proofs.check.check_tree.Goals as goal

pub returns-then-visit : goal.returns-then-visit
returns-then-visit c = tree_counts (pages_table c.args.nodes.geometry c.args.nodes.image.now c.args.nodes.lens.now c.args.nodes.slots.now c.args.nodes.limit) c.listed_node-n.result.level _ _ c.listed_node-n.ensures.level c.clear.ensures
    c.all_once.result c.growth_of.result c.growth_of.ensures.0 c.growth_of.ensures.1 (walk_as c.if-visit.true c.visit.ensures) c.all_once.ensures

pub returns-else-visit : goal.returns-else-visit
returns-else-visit c = no_tree (pages_table c.args.nodes.geometry c.args.nodes.image.now c.args.nodes.lens.now c.args.nodes.slots.now c.args.nodes.limit) c.listed_node-n.result.level _ _ c.listed_node-n.ensures.level c.clear.ensures (walk_as c.if-visit.false c.visit.ensures)
