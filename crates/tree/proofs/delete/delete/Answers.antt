use Rattle.std.specs.Prelude.{Some, None}
use mathlib.Core.Path.{refl, sym, ◌∙◌}
use Prim.Native.Nat.{◌-◌, ◌<◌}
use native.Mathlib.Omega.{arith}
use Rattle.views.specs.NodeCode.{entries_of}
use Rattle.tree.specs.Step6.{top}
use Rattle.tree.proofs.DeleteCodeLaws.{falls_leaf}
use Rattle.tree.proofs.DeleteTopLaws.{deletes_leaf, deletes_leaf_absent, deletes_absent, deletes_done}
use borrow.Author.Rules.{rules}
use Rattle.tree.proofs.delete.delete.Goals as goal

pub returns-then-level-eq0 : goal.returns-then-level-eq0
returns-then-level-eq0 c = let hk : c.args.key < top = search rules in
    deletes_leaf c.args.nodes.geometry c.args.nodes.image.now c.args.nodes.lens.now c.args.nodes.slots.now c.args.nodes.limit c.requires.0 c.args.key c.args.count c.args.buffer.now c.args.free.now hk _ c.in_ok-leaf.leaf (sym c.node_at-root.ensures.level ∙ c.if-level-eq0.true)
    (falls_leaf c.args.nodes.geometry c.args.nodes.image.now c.args.nodes.lens.now c.args.nodes.slots.now c.args.nodes.limit c.requires.0 0 0 c.args.key c.args.count (entries_of c.node_at-root.result) c.args.buffer.now c.args.free.now _ (Some c.in_ok-leaf.leaf)
    refl c.node_at-root.ensures.entries c.in_ok-leaf.ensures)

pub returns-in_err-leaf : goal.returns-in_err-leaf
returns-in_err-leaf c = let hk : c.args.key < top = search rules in
    rw c.from_residual.ensures (deletes_leaf_absent c.args.nodes.geometry c.args.nodes.image.now c.args.nodes.lens.now c.args.nodes.slots.now c.args.nodes.limit c.requires.0 c.args.key c.args.count c.args.buffer.now c.args.free.now hk _ (sym c.node_at-root.ensures.level ∙ c.if-level-eq0.true)
    (falls_leaf c.args.nodes.geometry c.args.nodes.image.now c.args.nodes.lens.now c.args.nodes.slots.now c.args.nodes.limit c.requires.0 0 0 c.args.key c.args.count (entries_of c.node_at-root.result) c.args.buffer.now c.args.free.now _ None
    refl c.node_at-root.ensures.entries c.in_err-leaf.ensures))

pub returns-in_err-r : goal.returns-in_err-r
returns-in_err-r c = let hk : c.args.key < top = search rules in
    rw c.from_residual-in_err-r.ensures (deletes_absent c.args.nodes.geometry c.args.nodes.image.now c.args.nodes.lens.now c.args.nodes.slots.now c.args.nodes.limit c.requires.0 c.args.key c.args.count c.args.buffer.now c.args.free.now hk (c.node_at-root.result.level - 1) c.child-below.result (entries_of c.node_at-root.result) _ _ (omega (arith, c.node_at-root.ensures.level, c.if-level-eq0.false))
    c.child-below.ensures c.node_at-root.ensures.entries c.in_err-r.ensures)

pub returns : goal.returns
returns c = let hk : c.args.key < top = search rules in
    deletes_done c.args.nodes.geometry c.args.nodes.image.now c.args.nodes.lens.now c.args.nodes.slots.now c.args.nodes.limit c.requires.0 c.args.key c.args.count c.args.buffer.now c.args.free.now hk (c.node_at-root.result.level - 1) c.child-below.result (entries_of c.node_at-root.result) _ _ (omega (arith, c.node_at-root.ensures.level, c.if-level-eq0.false))
    c.child-below.ensures c.node_at-root.ensures.entries c.in_ok-r.r c.in_ok-r.ensures
    c.node_at-root.result.level _ _ c.finish.result (omega (arith, c.if-level-eq0.false)) c.finish.ensures
