use mathlib.Core.Path.{refl}
use native.Mathlib.Omega.{arith}
use Prim.Native.Nat.{◌-◌, ◌≤◌}
use Rattle.views.specs.NodeCode.{entries_in}
use Rattle.renewal.proofs.NodesLaws.{length_entries_in}
use Rattle.renewal.proofs.LayersLaws.{level_step, levels_few, levels_up}
use Rattle.renewal.proofs.layers.+put_levels.Goals as goal

pub returns-then-count-le16 : goal.returns-then-count-le16
returns-then-count-le16 t c =
    let es = entries_in c.args.count c.args.keys.now c.args.values.now in
    let n = length_entries_in c.args.count c.args.keys.now c.args.values.now c.requires.2 c.requires.3 in
    levels_few (2 - c.args.level) c.args.level c.args.first es c.args.sizes.now c.args.units.now _ _ (omega (arith, n, c.if-count-le16.true)) c.requires.4 (omega (arith, c.requires.5)) c.put_node.ensures

pub put_level-nodes-requires : goal.put_level-nodes-requires
put_level-nodes-requires t c =
    let step = level_step c.args.level c.args.count c.args.first _ c.requires.0 c.if-count-le16.false c.requires.1 c.requires.5 refl in
    (c.if-count-le16.false, c.requires.2, c.requires.3, step.3, step.4, refl, refl, c.requires.6, c.requires.7)

pub overflow_add-first : goal.overflow_add-first
overflow_add-first t c =
    let step = level_step c.args.level c.args.count c.args.first c.put_level-nodes.result c.requires.0 c.if-count-le16.false c.requires.1 c.requires.5 c.put_level-nodes.ensures.count in
    omega (arith, step.2)

pub put_levels-requires : goal.put_levels-requires
put_levels-requires t c =
    let step = level_step c.args.level c.args.count c.args.first c.put_level-nodes.result c.requires.0 c.if-count-le16.false c.requires.1 c.requires.5 c.put_level-nodes.ensures.count in
    let few : c.put_level-nodes.result ≤ 256 = omega (arith, step.2) in (
      omega (arith, c.decreases, step.0),
      (
        omega (arith, step.0),
        step.1,
        omega (arith, few, c.put_level-nodes.ensures.keys),
        omega (arith, few, c.put_level-nodes.ensures.values),
        omega (arith, c.requires.4),
        step.2,
        c.put_level-nodes.ensures.turns.numbers,
        c.put_level-nodes.ensures.turns.size,
      ),
    )

pub returns : goal.returns
returns t c =
    let step = level_step c.args.level c.args.count c.args.first c.put_level-nodes.result c.requires.0 c.if-count-le16.false c.requires.1 c.requires.5 c.put_level-nodes.ensures.count in
    levels_up c.args.level c.args.first c.args.count c.put_level-nodes.result _ (entries_in c.args.count c.args.keys.now c.args.values.now) c.args.sizes.now c.args.units.now _ _ _ _ _ _ step.0
    (length_entries_in c.args.count c.args.keys.now c.args.values.now c.requires.2 c.requires.3) c.if-count-le16.false c.put_level-nodes.ensures c.put_levels.ensures
