use Rattle.renewal.proofs.NodesLaws.{puts_as}
use Rattle.renewal.proofs.nodes.vacate_one.Goals as goal

pub returns : goal.returns
returns c = puts_as c.args.number _ _ c.args.sizes.now c.args.units.now _ _ c.vacant-f.ensures.is c.put_view.ensures
