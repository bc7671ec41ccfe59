use Prim.Native.Nat.{◌+◌}
use Rattle.views.specs.FoldCode.{view_in}
use Rattle.views.proofs.FoldLaws.{spoilt, left_start, left_next, left_skip, stopped, ended}
use Rattle.views.proofs.fold.fold_units.Goals as goal

pub loop-i-init : goal.loop-i-init
loop-i-init c = let w = view_in c.args.s c.args.keys.now c.args.values.now in (
  c.skip-i.ensures.high,
  c.requires.0,
  c.requires.1,
  c.requires.2,
  left_skip c.args.limit c.args.node c.args.count c.args.units.now w 0 c.skip-i.result w (left_start c.args.limit c.args.node c.args.count c.args.units.now w) c.skip-i.ensures,
)

pub returns-in_default : goal.returns-in_default
returns-in_default c = spoilt c.spoil.result c.loop-i.keys c.loop-i.values _ c.loop-i.invariant.1 c.loop-i.invariant.2 c.spoil.ensures
    (stopped c.args.limit c.args.node c.args.count c.args.units.now (view_in c.args.s c.args.keys.now c.args.values.now) c.loop-i.i (view_in c.loop-i.g c.loop-i.keys c.loop-i.values)
    c.decode_unit.result c.loop-i.invariant.4 c.loop-i-test.true c.decode_unit.ensures c.in_default.is)

pub loop-i-preserved : goal.loop-i-preserved
loop-i-preserved c = (
  c.skip-i-in-loop-i.ensures.high,
  c.turn-g.ensures.keys,
  c.turn-g.ensures.values,
  c.turn-g.ensures.room,
  left_skip c.args.limit c.args.node c.args.count c.args.units.now (view_in c.args.s c.args.keys.now c.args.values.now) (c.loop-i.i + 1) c.skip-i-in-loop-i.result _
      (left_next c.args.limit c.args.node c.args.count c.args.units.now (view_in c.args.s c.args.keys.now c.args.values.now) c.loop-i.i (view_in c.loop-i.g c.loop-i.keys c.loop-i.values)
      c.decode_unit.result c.loop-i.invariant.4 c.loop-i-test.true c.decode_unit.ensures _ _ c.in-Some.is c.turn-g.ensures.is) c.skip-i-in-loop-i.ensures,
)

pub returns : goal.returns
returns c = record {
  is = ended c.args.limit c.args.node c.args.count c.args.units.now (view_in c.args.s c.args.keys.now c.args.values.now) c.loop-i.i (view_in c.loop-i.g c.loop-i.keys c.loop-i.values)
      c.loop-i.invariant.4 c.loop-i-test.false;
  room = c.loop-i.invariant.3;
  keys = c.loop-i.invariant.1;
  values = c.loop-i.invariant.2;
}
