use mathlib.Core.Path.{sym, ◌∙◌}
use native.Mathlib.Omega.{arith}
use Rattle.views.specs.NodeCode.{entries_of}
use Rattle.tree.proofs.DeleteTopLaws.{collapses_leaf, collapses_wide, collapses_unable, collapses_over, over_few}
use Prim.Native.Nat.{◌-◌}
use Rattle.tree.proofs.delete.+collapse.Goals as goal
use Rattle.tree.proofs.delete.+collapse.Goals.{then-count-m-gt960-via-then-count-m-gt960, then-count-m-gt960-via-else-count-m-gt960+then-c-ge65536}

pub returns-then-level-eq0 : goal.returns-then-level-eq0
returns-then-level-eq0 t c = collapses_leaf c.args.nodes.geometry c.args.nodes.image.now c.args.nodes.lens.now c.args.nodes.slots.now c.args.nodes.limit c.requires.0 c.args.level c.args.count c.args.buffer.now c.args.free.now c.requires.1 c.if-level-eq0.true

pub returns-then-root-ne1 : goal.returns-then-root-ne1
returns-then-root-ne1 t c = collapses_wide c.args.nodes.geometry c.args.nodes.image.now c.args.nodes.lens.now c.args.nodes.slots.now c.args.nodes.limit c.requires.0 c.args.level c.args.count c.args.buffer.now c.args.free.now c.requires.1 (entries_of c.node_at-root.result) c.node_at-root.ensures.entries
    (λ q. c.if-root-ne1.true (sym c.node_at-root.ensures.len ∙ q))

pub returns-then-count-m-gt960 : goal.returns-then-count-m-gt960
returns-then-count-m-gt960 t c = collapses_unable c.args.nodes.geometry c.args.nodes.image.now c.args.nodes.lens.now c.args.nodes.slots.now c.args.nodes.limit c.requires.0 c.args.level c.args.count c.args.buffer.now c.args.free.now c.requires.1 (entries_of c.node_at-root.result) c.node_at-root.ensures.entries
    (c.args.level - 1) c.child-c.result c.node_at-m.result.level (entries_of c.node_at-m.result) (omega (arith, c.if-level-eq0.false)) (c.node_at-root.ensures.len ∙ c.if-root-ne1.false) c.child-c.ensures
    c.node_at-m.ensures.entries
    (elim c.then-count-m-gt960.branch [
      | then-count-m-gt960-via-then-count-m-gt960 w ↦ λ p q. omega (arith, c.node_at-m.ensures.len)
      | then-count-m-gt960-via-else-count-m-gt960+then-c-ge65536 w ↦ λ p q. omega arith
    ])

pub collapse-requires : goal.collapse-requires
collapse-requires t c = (
  omega (arith, c.if-level-eq0.false),
  (
    c.requires.0,
    over_few c.node_at-m.result.level c.child-c.result c.args.count c.take_over-used.result (entries_of c.node_at-m.result) c.args.buffer.now _ c.take_over-used.ensures.0
        (omega (arith, c.node_at-m.ensures.len, c.if-count-m-gt960.false)),
  ),
)

pub returns : goal.returns
returns t c = collapses_over c.args.nodes.geometry c.args.nodes.image.now c.args.nodes.lens.now c.args.nodes.slots.now c.args.nodes.limit c.requires.0 c.args.level c.args.count c.args.buffer.now c.args.free.now c.requires.1 (entries_of c.node_at-root.result) c.node_at-root.ensures.entries
    (c.args.level - 1) c.child-c.result c.node_at-m.result.level (entries_of c.node_at-m.result) (omega (arith, c.if-level-eq0.false)) (c.node_at-root.ensures.len ∙ c.if-root-ne1.false) c.child-c.ensures
    c.node_at-m.ensures.entries
    c.take_over-used.result c.collapse.result _ _ _ _ c.node_at-m.ensures.level (omega (arith, c.node_at-m.ensures.len, c.if-count-m-gt960.false)) c.take_over-used.ensures c.collapse.ensures
