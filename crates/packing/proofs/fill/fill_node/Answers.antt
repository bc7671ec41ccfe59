use Rattle.std.proofs.Common.{arith}
use Rattle.packing.proofs.FillArrays.{fills_full, fills_in}
use Rattle.packing.proofs.fill.fill_node.Goals as goal

pub returns-in-Some : goal.returns-in-Some
returns-in-Some c =
    fills_in c.args.n c.args.count c.args.rooms.now c.args.targets.now c.args.forms.now c.requires.3 c.requires.1 c.requires.2 c.args.wholes.now c.if-targets-n-ne-NONE.false (omega (arith, c.if-size-eq0.false)) c.in-Some.page c.in-Some.ensures

pub returns-in_default : goal.returns-in_default
returns-in_default c =
    fills_full c.args.n c.args.count c.args.rooms.now c.args.targets.now c.args.forms.now c.requires.3 c.requires.1 c.requires.2 c.args.wholes.now c.if-targets-n-ne-NONE.false (omega (arith, c.if-size-eq0.false)) c.in_default.ensures
