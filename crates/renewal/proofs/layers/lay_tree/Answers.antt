use Rattle.views.specs.NodeCode.{entries_in}
use Rattle.renewal.proofs.LayersLaws.{lays_tree}
use Rattle.renewal.proofs.layers.lay_tree.Goals as goal

pub returns : goal.returns
returns c = λ t h. lays_tree c.args.limit t (entries_in c.args.count c.args.keys.now c.args.values.now) c.args.lens.now c.args.slots.now _ _ _ _ _ c.vacate.ensures c.put_levels.ensures h
