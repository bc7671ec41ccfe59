use native.Mathlib.Omega.{arith}
use Rattle.views.specs.NodeCode.{entries_of}
use Rattle.tree.proofs.DeleteCodeLaws.{falls_leaf, falls_absent, falls_up}
use Prim.Native.Nat.{◌-◌}
use Rattle.tree.proofs.delete.+delete_at.Goals as goal

pub returns-then-level-eq0 : goal.returns-then-level-eq0
returns-then-level-eq0 t c = falls_leaf c.args.nodes.geometry c.args.nodes.image.now c.args.nodes.lens.now c.args.nodes.slots.now c.args.nodes.limit c.requires.0 c.args.level c.args.node c.args.key c.args.count (entries_of c.args.n) c.args.buffer.now c.args.free.now _ c.delete_leaf.result
    c.if-level-eq0.true c.requires.2.entries c.delete_leaf.ensures

pub returns-in_err-r : goal.returns-in_err-r
returns-in_err-r t c = rw c.from_residual.ensures (falls_absent c.args.nodes.geometry c.args.nodes.image.now c.args.nodes.lens.now c.args.nodes.slots.now c.args.nodes.limit c.requires.0 c.args.level (c.args.level - 1) c.args.node c.child-below.result c.args.key c.args.count (entries_of c.args.n) c.args.buffer.now c.args.free.now _ _
    (omega (arith, c.if-level-eq0.false)) c.child-below.ensures c.requires.2.entries c.in_err-r.ensures)

pub returns : goal.returns
returns t c = falls_up c.args.nodes.geometry c.args.nodes.image.now c.args.nodes.lens.now c.args.nodes.slots.now c.args.nodes.limit c.requires.0 c.args.level (c.args.level - 1) c.args.node c.child-below.result c.args.key c.args.count (entries_of c.args.n) c.args.buffer.now c.args.free.now _ _
    (omega (arith, c.if-level-eq0.false)) c.child-below.ensures c.requires.2.entries c.in_ok-r.r c.in_ok-r.ensures _ _ c.mend.result c.mend.ensures
