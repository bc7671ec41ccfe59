use mathlib.Core.Path.{refl}
use Rattle.views.specs.FoldCode.{view_of}
use Rattle.renewal.proofs.NodesLaws.{puts_view}
use Rattle.renewal.proofs.nodes.put_view.Goals as goal

pub returns : goal.returns
returns c = puts_view c.args.number (view_of c.args.f) c.args.sizes.now c.args.units.now _ _ c.keep_view-size.result c.requires.1 c.requires.2 c.requires.3 c.keep_view-size.ensures refl
