use mathlib.Core.Path.{◌≡◌, refl}
use native.Mathlib.Omega.{arith}
use lib.ListN.{length, drop}
use Rattle.views.specs.NodeCode.{entries_of}
use Rattle.tree.specs.Tree.{Table, first_key, least}
use Rattle.tree.specs.Insert.{gains, halve}
use Rattle.tree.specs.InsertUnits.{halve_units}
use Rattle.tree.proofs.Least.{there_length}
use Rattle.tree.proofs.InsertUnits.{halve_length}
use Rattle.tree.proofs.InsertCodeLaws.{entries_17, none_first, makes_none, makes_halve}
use borrow.Author.Rules.{rules}
use Rattle.tree.proofs.insert.split.Goals as goal
use Rattle.tree.proofs.insert.split.Goals.{then-node-ge65536-via-then-node-ge65536, then-node-ge65536-via-else-node-ge65536+then-count-gt941}

pub returns-then-node-ge65536 : goal.returns-then-node-ge65536
returns-then-node-ge65536 c = let es = entries_of c.args.n in
    let lk : length c.args.n.keys ≡ 17 = search rules in
    let lv : length c.args.n.values ≡ 17 = search rules in
    makes_none c.args.node 1 (λ (t : Table). halve_units c.args.level c.args.node (least t) es) (λ (t : Table). gains (first_key 0 (drop 9 es)) (least t) (halve c.args.level c.args.node (least t) es t)) c.args.count c.args.buffer.now c.args.free.now _
    c.stop.result c.requires.0 c.stop.ensures
    (λ t _ few on _ room.
    let size = halve_length c.args.level c.args.node (least t) es (entries_17 c.args.n c.requires.1 lk lv) in
    elim c.then-node-ge65536.branch [
      | then-node-ge65536-via-then-node-ge65536 w ↦ omega (arith, there_length t c.args.node on)
      | then-node-ge65536-via-else-node-ge65536+then-count-gt941 w ↦ omega (arith, size)
    ])

pub returns-in_default : goal.returns-in_default
returns-in_default c = let es = entries_of c.args.n in
    makes_none c.args.node 1 (λ (t : Table). halve_units c.args.level c.args.node (least t) es) (λ (t : Table). gains (first_key 0 (drop 9 es)) (least t) (halve c.args.level c.args.node (least t) es t)) c.args.count c.args.buffer.now c.args.free.now _
    c.stop-in_default.result c.requires.0 c.stop-in_default.ensures
    (λ t e few _ h _. none_first c.args.free.now _ c.in_default.ensures t e few (omega arith))

pub halve-used-requires : goal.halve-used-requires
halve-used-requires c = (c.requires.1, omega (arith, c.if-node-ge65536.false), omega (arith, c.in-Some.ensures.few), omega (arith, c.if-count-gt941.false))

pub returns : goal.returns
returns c = makes_halve c.args.level (entries_of c.args.n) c.args.count c.args.buffer.now c.args.free.now _ _ _ c.args.node c.in-Some.number c.halve-used.result c.in-Some.ensures
    c.halve-used.ensures.0 (omega (arith, c.halve-used.ensures.1, c.if-count-gt941.false)) refl _ refl c.middle-key.ensures
