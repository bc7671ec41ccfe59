use Rattle.std.proofs.Common.{arith}
use Rattle.execution.proofs.GatherLaws.{push_full, push_large, push_other, push_units}
use Rattle.execution.proofs.gather.push_node.Goals as goal

pub overflow_cast-size : goal.overflow_cast-size
overflow_cast-size c = omega (arith, c.type_inv.sizes c.args.n)

pub returns-then-targets-n : goal.returns-then-targets-n
returns-then-targets-n c = push_other c.args.room c.args.targets.now c.args.sizes.now c.args.units.now c.args.page c.args.n c.args.k c.args.out.now (omega (arith, c.requires)) c.requires.7 c.if-targets-n.true

pub returns-then-size-gt17 : goal.returns-then-size-gt17
returns-then-size-gt17 c = push_large c.args.room c.args.targets.now c.args.sizes.now c.args.units.now c.args.page c.args.n c.args.k c.args.out.now (omega (arith, c.requires)) c.if-targets-n.false c.requires.4 c.requires.7
    c.if-size-gt17.true

pub returns-then-k-size : goal.returns-then-k-size
returns-then-k-size c = push_full c.args.room c.args.targets.now c.args.sizes.now c.args.units.now c.args.page c.args.n c.args.k c.args.out.now (omega (arith, c.requires)) c.if-targets-n.false c.requires.4 c.requires.7
    c.if-k-size.true

pub returns : goal.returns
returns c = push_units c.args.room c.args.targets.now c.args.sizes.now c.args.units.now c.args.page c.args.n c.args.k c.args.out.now (omega (arith, c.requires)) c.if-targets-n.false c.requires.4 _
    c.requires.5 c.if-k-size.false c.copy_units.ensures
