use Rattle.views.specs.FoldCode.{view_in}
use Rattle.views.proofs.FoldLaws.{spoilt}
use Rattle.views.proofs.ViewSteps.{renamed, page_few, page_many}
use Rattle.views.proofs.view.page_view.Goals as goal

pub returns-then-units-geometry : goal.returns-then-units-geometry
returns-then-units-geometry c = renamed c.fold_units.result _ _ _ _ c.fold_units.ensures
    (page_few c.args.geometry c.requires.4 c.args.limit c.args.node (view_in c.args.s c.args.keys.now c.args.values.now) c.args.page.now c.read_half-units.result c.read_half-units.ensures.0 c.requires.3 c.if-units-geometry.true)

pub returns-else-units-geometry : goal.returns-else-units-geometry
returns-else-units-geometry c = spoilt c.spoil.result c.args.keys.now c.args.values.now _ c.requires.0 c.requires.1 c.spoil.ensures
    (page_many c.args.geometry c.requires.4 c.args.limit c.args.node (view_in c.args.s c.args.keys.now c.args.values.now) c.args.page.now c.read_half-units.result c.read_half-units.ensures.0 c.if-units-geometry.false)
