use mathlib.Core.Path.{ap₂}
use lib.ListN.{drop}
use Rattle.views.specs.Nodes.{view}
use Rattle.views.specs.NodeCode.{entries_in}
use Rattle.renewal.proofs.NodesLaws.{puts_as}
use Rattle.renewal.proofs.nodes.put_node.Goals as goal

pub returns : goal.returns
returns c = puts_as c.args.number _ (view c.args.level (entries_in c.args.q (drop c.args.from c.args.keys.now) (drop c.args.from c.args.values.now))) c.args.sizes.now c.args.units.now _ _
    (ap₂ view c.node_of-node.ensures.0.same c.node_of-node.ensures.0.is) c.put_view.ensures
