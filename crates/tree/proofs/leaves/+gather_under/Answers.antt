use mathlib.Core.Path.{◌≡◌}
use native.Mathlib.Omega.{arith}
use Rattle.views.specs.NodeCode.{entries_of}
use Rattle.tree.specs.CheckCode.{pages_table}
use Rattle.tree.proofs.RecordsLaws.{entries_room, gathers_none, under_step, gathers_leaf, gathers_branch}
use borrow.Author.Rules.{rules}
use Prim.Native.Nat.{suc, ◌-◌}
use Rattle.tree.proofs.leaves.+gather_under.Goals as goal

pub returns-then-level-eq0 : goal.returns-then-level-eq0
returns-then-level-eq0 t c = gathers_leaf c.args.level c.args.number (pages_table c.args.nodes.geometry c.args.nodes.image.now c.args.nodes.lens.now c.args.nodes.slots.now c.args.nodes.limit) (entries_of c.listed_node-n.result) c.listed_node-n.ensures.entries
    c.args.count c.append.result c.args.keys.now c.args.values.now _ _ c.if-level-eq0.true c.append.ensures

pub loop-i-init : goal.loop-i-init
loop-i-init t c = (omega arith, search rules, search rules, gathers_none c.args.count c.args.keys.now c.args.values.now (omega arith))

pub loop-i-preserved : goal.loop-i-preserved
loop-i-preserved t c = let l = entries_room c.listed_node-n.result.len c.listed_node-n.result.keys c.listed_node-n.result.values c.listed_node-n.ensures.len in (
  c.gather_under-r.ensures.few,
  omega (arith, c.gather_under-r.ensures.keys),
  omega (arith, c.gather_under-r.ensures.values),
  under_step c.loop-i.i c.args.count c.listed_node-n.result.keys c.listed_node-n.result.values c.args.keys.now c.args.values.now (omega (arith, l.0, c.loop-i-test.true)) (omega (arith, l.1, c.loop-i-test.true)) (c.args.level - 1)
      (pages_table c.args.nodes.geometry c.args.nodes.image.now c.args.nodes.lens.now c.args.nodes.slots.now c.args.nodes.limit) c.loop-i.r c.gather_under-r.result c.loop-i.keys c.loop-i.values _ _ c.loop-i.invariant.3 c.gather_under-r.ensures,
)

pub returns : goal.returns
returns t c = let e : c.loop-i.i ≡ c.listed_node-n.result.len = omega arith in
    let z : c.args.level ≡ suc (c.args.level - 1) = omega arith in
    gathers_branch c.args.level c.args.number (pages_table c.args.nodes.geometry c.args.nodes.image.now c.args.nodes.lens.now c.args.nodes.slots.now c.args.nodes.limit) (entries_of c.listed_node-n.result) c.listed_node-n.ensures.entries
    c.args.count c.loop-i.r c.args.keys.now c.args.values.now c.loop-i.keys c.loop-i.values (c.args.level - 1) z (rw e at c.loop-i.invariant.3)
