use mathlib.Core.Path.{◌≡◌, refl, ◌∙◌}
use Prim.Native.Nat.{ℕ, ◌+◌, ◌/◌, ◌%◌, min}
use native.Mathlib.Omega.{arith}
use Rattle.views.specs.NodeCode.{entries_in}
use Rattle.tree.specs.Rebuild.{nodes_for}
use Rattle.renewal.proofs.LayersLaws.{putting_start, part_within, node_fits, above_fits, putting_step, putting_done}
use Rattle.renewal.proofs.layers.put_level.Goals as goal

-- the library's quotient rounded up is that of the tree
whole : (n : ℕ) → n / 16 + min 1 (n % 16) ≡ nodes_for n
whole n = omega arith

pub loop-i-init : goal.loop-i-init
loop-i-init c = putting_start c.args.level c.args.first c.args.count _ c.args.sizes.now c.args.units.now c.args.lows.now c.args.numbers.now c.requires.0 c.requires.7 c.requires.8 c.requires.5 c.requires.6

pub overflow_sub-q : goal.overflow_sub-q
overflow_sub-q c = omega (arith, c.loop-i.invariant.within)

pub put_node-requires : goal.put_node-requires
put_node-requires c = let e = c.div_ceil-nodes.ensures ∙ whole c.args.count in
    rw e (node_fits c.args.level c.args.first c.args.count _ c.args.sizes.now c.args.units.now c.loop-i.i c.loop-i.from _ c.loop-i.sizes c.loop-i.units c.loop-i.lows c.loop-i.numbers
    c.loop-i.invariant (rw e at c.loop-i-test.true) refl c.args.keys.now c.args.values.now c.requires.1 c.requires.2 c.requires.3 c.requires.4)

pub put_above-requires : goal.put_above-requires
put_above-requires c = let e = c.div_ceil-nodes.ensures ∙ whole c.args.count in
    above_fits c.args.level c.args.first c.args.count _ c.args.sizes.now c.args.units.now c.loop-i.i c.loop-i.from _ c.loop-i.sizes c.loop-i.units c.loop-i.lows c.loop-i.numbers
    c.loop-i.invariant (rw e at c.loop-i-test.true) refl c.args.keys.now c.requires.1 c.requires.4

pub overflow_add-from : goal.overflow_add-from
overflow_add-from c = let e = c.div_ceil-nodes.ensures ∙ whole c.args.count in
    rw e (omega (
      arith,
      c.requires.3,
      part_within c.args.level c.args.first c.args.count _ c.args.sizes.now c.args.units.now c.loop-i.i c.loop-i.from _ c.loop-i.sizes c.loop-i.units c.loop-i.lows
          c.loop-i.numbers c.loop-i.invariant (rw e at c.loop-i-test.true) refl,
    ))

pub loop-i-preserved : goal.loop-i-preserved
loop-i-preserved c = let e = c.div_ceil-nodes.ensures ∙ whole c.args.count in
    rw e (putting_step c.args.level c.args.first c.args.count (entries_in c.args.count c.args.keys.now c.args.values.now) c.args.sizes.now c.args.units.now
    c.args.keys.now c.args.values.now c.requires.1 c.requires.2 refl c.loop-i.i c.loop-i.from c.loop-i.sizes c.loop-i.units c.loop-i.lows c.loop-i.numbers _ _ _ _
    c.requires.4 (rw e at c.loop-i-test.true) c.loop-i.invariant (rw e at c.put_node.ensures) c.put_above.ensures.0 c.put_above.ensures.1)

pub returns : goal.returns
returns c = let e = c.div_ceil-nodes.ensures ∙ whole c.args.count in
    putting_done c.args.level c.args.first c.args.count _ c.args.sizes.now c.args.units.now c.loop-i.i c.loop-i.from _ c.loop-i.sizes c.loop-i.units c.loop-i.lows c.loop-i.numbers
    (rw e at c.loop-i-test.false) e c.loop-i.invariant
