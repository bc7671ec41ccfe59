use Rattle.views.proofs.ViewSteps.{handed}
use Rattle.views.proofs.view.list_view.Goals as goal

pub returns : goal.returns
returns c = handed c.slots_view-s.result _ _ _ c.whole.result c.slots_view-s.ensures c.whole.ensures
