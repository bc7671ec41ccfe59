use native.Mathlib.Omega.{arith}
use Rattle.renewal.proofs.NodesLaws.{vacant_start, vacant_next, vacant_done}
use Rattle.renewal.proofs.nodes.vacate.Goals as goal

pub loop-n-init : goal.loop-n-init
loop-n-init c = vacant_start _ _ _ _ c.requires.3 c.requires.4

pub vacate_one-requires : goal.vacate_one-requires
vacate_one-requires c = (c.requires.0, c.requires.1, omega arith, c.loop-n.invariant.numbers, c.loop-n.invariant.bytes)

pub loop-n-preserved : goal.loop-n-preserved
loop-n-preserved c = vacant_next c.loop-n.n c.args.lens.now c.args.slots.now c.loop-n.sizes c.loop-n.units _ _ c.loop-n.invariant c.vacate_one.ensures

pub returns : goal.returns
returns c = vacant_done c.loop-n.n c.args.limit c.args.lens.now c.args.slots.now c.loop-n.sizes c.loop-n.units c.loop-n.auto.n-end c.loop-n-test.false c.loop-n.invariant
