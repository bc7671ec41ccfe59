use mathlib.Core.Path.{◌∙◌}
use Prim.Native.Nat.{◌+◌, ◌*◌}
use native.Mathlib.Omega.{arith}
use Rattle.views.proofs.NodeLaws.{length_entries}
use Rattle.views.proofs.BufferLaws.{length_put, pushing_next, pushing_done}
use Rattle.views.proofs.units.put_entries.Goals as goal

pub loop-i-preserved : goal.loop-i-preserved
loop-i-preserved c = (
  length_put c.loop-i.units _ (12 * (c.args.at + c.loop-i.i)) _ (omega arith) c.put_unit.ensures ∙ c.loop-i.invariant.0,
  pushing_next c.args.number c.args.at c.args.units.now c.args.node c.loop-i.i c.loop-i.units _ c.loop-i.invariant.1 (omega arith) (omega (arith, c.loop-i.invariant.2)) (omega (arith, c.loop-i.invariant.3))
      (omega arith) c.put_unit.ensures,
  c.loop-i.invariant.2,
  c.loop-i.invariant.3,
)

pub returns : goal.returns
returns c = (
  pushing_done c.args.number c.args.at c.args.units.now c.args.node c.loop-i.i c.loop-i.units c.loop-i.invariant.1 (omega arith) (omega (arith, c.loop-i.invariant.2)),
  length_entries c.args.node c.loop-i.invariant.2 c.loop-i.invariant.3 (omega arith),
)
