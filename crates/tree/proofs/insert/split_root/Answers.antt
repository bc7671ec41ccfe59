use mathlib.Core.Path.{◌≡◌}
use native.Mathlib.Omega.{arith}
use lib.ListN.{length}
use Rattle.views.specs.NodeCode.{entries_of}
use Rattle.tree.specs.Tree.{Table, least, least2}
use Rattle.tree.specs.Insert.{stop, raise}
use Rattle.tree.specs.InsertUnits.{raise_units}
use Rattle.tree.proofs.InsertUnits.{raise_length}
use Rattle.tree.proofs.InsertCodeLaws.{entries_17, none_first, none_second, makes_none, makes_raise}
use borrow.Author.Rules.{rules}
use Rattle.tree.proofs.insert.split_root.Goals as goal

pub returns-then-count-gt938 : goal.returns-then-count-gt938
returns-then-count-gt938 c = let es = entries_of c.args.n in
    let lk : length c.args.n.keys ≡ 17 = search rules in
    let lv : length c.args.n.values ≡ 17 = search rules in
    makes_none 0 2 (λ (t : Table). raise_units c.args.level (least t) (least2 t) es) (λ (t : Table). stop (raise c.args.level (least t) (least2 t) es t)) c.args.count c.args.buffer.now c.args.free.now _
    c.stop.result c.requires.0 c.stop.ensures
    (λ t _ _ _ _ room. omega (arith, c.if-count-gt938.true, raise_length c.args.level (least t) (least2 t) es (entries_17 c.args.n c.requires.1 lk lv)))

pub returns-in_default : goal.returns-in_default
returns-in_default c = let es = entries_of c.args.n in
    makes_none 0 2 (λ (t : Table). raise_units c.args.level (least t) (least2 t) es) (λ (t : Table). stop (raise c.args.level (least t) (least2 t) es t)) c.args.count c.args.buffer.now c.args.free.now _
    c.stop-in_default.result c.requires.0 c.stop-in_default.ensures
    (λ t e few _ h _. none_first c.args.free.now _ c.in_default.ensures t e few (omega arith))

pub returns-in_default-take : goal.returns-in_default-take
returns-in_default-take c = let es = entries_of c.args.n in
    makes_none 0 2 (λ (t : Table). raise_units c.args.level (least t) (least2 t) es) (λ (t : Table). stop (raise c.args.level (least t) (least2 t) es t)) c.args.count c.args.buffer.now c.args.free.now _
    c.stop-in_default-take.result c.requires.0 c.stop-in_default-take.ensures
    (λ t e few _ h _. none_second c.args.free.now _ _ _ c.in-Some.ensures c.in_default-take.ensures t e few h)

pub raise-used-requires : goal.raise-used-requires
raise-used-requires c = (c.requires.1, omega (arith, c.in-Some.ensures.few, c.in-Some-take.ensures.few), omega (arith, c.in-Some.ensures.few, c.in-Some-take.ensures.few), c.requires.2, omega (arith, c.if-count-gt938.false))

pub returns : goal.returns
returns c = makes_raise c.args.level (entries_of c.args.n) c.args.count c.args.buffer.now c.args.free.now _ _ c.stop-2.result c.in-Some.low c.in-Some-take.high c.raise-used.result _
    c.in-Some.ensures c.in-Some-take.ensures c.raise-used.ensures.0 (omega (arith, c.raise-used.ensures.1, c.if-count-gt938.false)) c.stop-2.ensures
