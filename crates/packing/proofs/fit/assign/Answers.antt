use Rattle.std.proofs.Common.{arith}
use Rattle.packing.proofs.PackingArrays.{assign_old, assign_new}
use Rattle.packing.proofs.fit.assign.Goals as goal

pub returns-in-Some : goal.returns-in-Some
returns-in-Some c =
    assign_old c.args.units c.args.n c.args.size c.args.count c.args.rooms.now c.args.targets.now c.in-Some.page (omega (arith, c.requires.1)) c.in-Some.ensures

pub returns-in-None : goal.returns-in-None
returns-in-None c =
    assign_new c.args.units c.args.n c.args.size c.args.count c.args.rooms.now c.args.targets.now _ c.saturating_sub.ensures c.requires.1 c.in-None.ensures
