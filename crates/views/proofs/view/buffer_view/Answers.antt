use Rattle.views.specs.FoldCode.{view_in}
use Rattle.views.proofs.FoldLaws.{spoilt}
use Rattle.views.proofs.ViewSteps.{renamed, buffer_few, buffer_many}
use Rattle.views.proofs.view.buffer_view.Goals as goal

pub returns-then-count-le960 : goal.returns-then-count-le960
returns-then-count-le960 c = renamed c.fold_units.result _ _ _ _ c.fold_units.ensures (buffer_few c.args.limit c.args.node c.args.count c.args.buffer.now (view_in c.args.s c.args.keys.now c.args.values.now) c.if-count-le960.true)

pub returns-else-count-le960 : goal.returns-else-count-le960
returns-else-count-le960 c = spoilt c.spoil.result c.args.keys.now c.args.values.now _ c.requires.0 c.requires.1 c.spoil.ensures
    (buffer_many c.args.limit c.args.node c.args.count c.args.buffer.now (view_in c.args.s c.args.keys.now c.args.values.now) c.if-count-le960.false)
