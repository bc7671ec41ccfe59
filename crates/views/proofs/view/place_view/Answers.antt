use mathlib.Core.Path.{sym}
use Rattle.views.specs.FoldCode.{view_in}
use Rattle.views.proofs.ViewSteps.{renamed, place_on, place_off}
use Rattle.views.proofs.view.place_view.Goals as goal

pub returns-then-p-image : goal.returns-then-p-image
returns-then-p-image c = renamed c.page_view.result _ _ _ _ c.page_view.ensures (place_on c.args.nodes.geometry c.args.nodes.limit c.args.number (view_in c.args.s c.args.keys.now c.args.values.now) c.args.nodes.image.now c.args.at c.if-p-image.true)

pub returns-else-p-image : goal.returns-else-p-image
returns-else-p-image c = record {
  is = sym (place_off c.args.nodes.geometry c.args.nodes.limit c.args.number (view_in c.args.s c.args.keys.now c.args.values.now) c.args.nodes.image.now c.args.at c.if-p-image.false);
  room = c.requires.2;
  keys = c.requires.0;
  values = c.requires.1;
}
