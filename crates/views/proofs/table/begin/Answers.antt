use Rattle.views.proofs.StoreLaws.{begun}
use Rattle.views.proofs.table.begin.Goals as goal

pub returns : goal.returns
returns c = begun c.args.lens.now c.args.slots.now c.args.n c.args.page c.requires.0 c.requires.1 c.requires.2
