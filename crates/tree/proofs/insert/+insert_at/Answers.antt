use mathlib.Core.Path.{◌≡◌}
use native.Mathlib.Omega.{arith}
use lib.ListN.{length}
use Rattle.views.specs.NodeCode.{entries_of}
use Rattle.tree.proofs.InsertCodeLaws.{needs_low}
use Rattle.tree.proofs.InsertTreeLaws.{rises_leaf, rises_refused, rises_pass}
use Prim.Native.Nat.{suc, ◌-◌}
use Rattle.tree.proofs.insert.+insert_at.Goals as goal

pub returns-then-level-eq0 : goal.returns-then-level-eq0
returns-then-level-eq0 t c = rises_leaf c.args.nodes.geometry c.args.nodes.image.now c.args.nodes.lens.now c.args.nodes.slots.now c.args.nodes.limit c.requires.0 c.args.key c.args.value c.args.count c.args.buffer.now c.args.free.now c.args.spot.need c.args.spot.node _ _ c.gain_leaf.result
    c.args.spot.level (entries_of c.args.n) c.if-level-eq0.true c.requires.4.entries c.gain_leaf.ensures

pub insert_at-requires : goal.insert_at-requires
insert_at-requires t c = let z : c.args.spot.level ≡ suc (c.args.spot.level - 1) = omega (arith, c.if-level-eq0.false) in (
  omega (arith, c.if-level-eq0.false),
  (
    c.requires.0,
    c.requires.1,
    omega (arith, c.requires.2),
    omega (arith, c.needs_above.ensures, needs_low c.args.spot.need c.args.spot.level (c.args.spot.level - 1) c.args.spot.node (suc (length (entries_of c.args.n))) z c.requires.2 c.requires.3),
    c.node_at-m.ensures,
  ),
)

pub returns : goal.returns
returns t c = rises_pass c.args.nodes.geometry c.args.nodes.image.now c.args.nodes.lens.now c.args.nodes.slots.now c.args.nodes.limit c.requires.0 c.args.key c.args.value c.args.count c.args.buffer.now c.args.free.now c.args.spot.need c.args.spot.level (c.args.spot.level - 1) c.args.spot.node
    c.child-below.result c.needs_above.result (entries_of c.args.n) _ _ _ _ c.in_ok-r.r c.pass_up.result (omega (arith, c.if-level-eq0.false)) c.requires.4.entries c.child-below.ensures
    c.needs_above.ensures c.in_ok-r.ensures c.pass_up.ensures

pub returns-in_err-r : goal.returns-in_err-r
returns-in_err-r t c = rw c.from_residual.ensures (rises_refused c.args.nodes.geometry c.args.nodes.image.now c.args.nodes.lens.now c.args.nodes.slots.now c.args.nodes.limit c.requires.0 c.args.key c.args.value c.args.count c.args.buffer.now c.args.free.now c.args.spot.need c.args.spot.level (c.args.spot.level - 1) c.args.spot.node
    c.child-below.result c.needs_above.result (entries_of c.args.n) _ _ (omega (arith, c.if-level-eq0.false)) c.requires.4.entries c.child-below.ensures
    c.needs_above.ensures c.in_err-r.ensures)
