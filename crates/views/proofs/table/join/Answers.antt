use native.Mathlib.Omega.{arith}
use Rattle.views.proofs.StoreLaws.{joined_empty, joined_long, joined_same, joined_new, joined_fifth}
use Rattle.views.proofs.table.join.Goals as goal

pub overflow_cast-len : goal.overflow_cast-len
overflow_cast-len c = omega (arith, c.type_inv.slots c.args.n, c.type_inv.lens c.args.n)

pub returns-then-len-eq0 : goal.returns-then-len-eq0
returns-then-len-eq0 c = joined_empty c.args.lens.now c.args.slots.now c.args.n c.args.page c.requires.0 c.requires.1 c.requires.2 _ _ c.if-len-eq0.true c.begin.ensures

pub returns-then-slots-free : goal.returns-then-slots-free
returns-then-slots-free c = joined_same c.args.lens.now c.args.slots.now c.args.n c.args.page c.requires.0 c.requires.1 c.requires.2 c.if-len-eq0.false c.if-len-lt5.true c.if-slots-free.true

pub returns-then-len-lt4 : goal.returns-then-len-lt4
returns-then-len-lt4 c = joined_new c.args.lens.now c.args.slots.now c.args.n c.args.page c.requires.0 c.requires.1 c.requires.2 c.if-len-eq0.false c.if-len-lt5.true c.if-slots-free.false c.if-len-lt4.true

pub returns-else-len-lt4 : goal.returns-else-len-lt4
returns-else-len-lt4 c = joined_fifth c.args.lens.now c.args.slots.now c.args.n c.args.page c.requires.0 c.requires.1 c.requires.2 c.if-len-eq0.false c.if-len-lt5.true c.if-slots-free.false c.if-len-lt4.false

pub returns-else-len-lt5 : goal.returns-else-len-lt5
returns-else-len-lt5 c = joined_long c.args.lens.now c.args.slots.now c.args.n c.args.page c.requires.0 c.requires.1 c.requires.2 c.if-len-lt5.false
