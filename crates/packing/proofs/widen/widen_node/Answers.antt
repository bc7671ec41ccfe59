use Rattle.std.proofs.Common.{refl}
use Rattle.packing.proofs.FillArrays.{widens_in}
use Rattle.packing.proofs.widen.widen_node.Goals as goal

pub returns-then-more-rooms : goal.returns-then-more-rooms
returns-then-more-rooms c =
    widens_in c.args.n c.args.count c.args.rooms.now c.args.targets.now c.args.forms.now c.requires.4 c.requires.2 c.requires.3 c.args.wholes.now c.args.parts.now c.if-page-count.true c.if-forms-n-ne1.true _ refl c.if-more-rooms.true (c.requires.5 c.if-forms-n-ne1.true)
