use mathlib.Core.Path.{refl}
use native.Mathlib.Omega.{arith}
use borrow.Author.Rules.{rules}
use Rattle.chip.specs.Chip.{pages_of}
use Rattle.views.specs.FoldCode.{view_in}
use Rattle.views.proofs.ViewSteps.{list_length, slot_next, slots_done}
use Rattle.views.proofs.view.slots_view.Goals as goal

pub loop-i-init : goal.loop-i-init
loop-i-init c = (omega arith, c.requires.0, c.requires.1, omega arith, refl)

pub slot-at-requires : goal.slot-at-requires
slot-at-requires c = let l = list_length c.args.nodes.lens.now c.args.nodes.slots.now c.args.number in
    (search rules, omega (arith, c.used_slots-used.ensures.0, l), omega (arith, c.used_slots-used.ensures.1))

pub loop-i-preserved : goal.loop-i-preserved
loop-i-preserved c = (
  omega arith,
  c.place_view-s.ensures.keys,
  c.place_view-s.ensures.values,
  c.place_view-s.ensures.room,
  slot_next c.args.nodes.lens.now c.args.nodes.slots.now c.args.number c.args.nodes.geometry c.args.nodes.limit (pages_of c.args.nodes.geometry c.args.nodes.image.now) c.loop-i.i
      (view_in c.loop-i.s c.loop-i.keys c.loop-i.values) (omega (arith, c.used_slots-used.ensures.0, c.loop-i-test.true)) c.loop-i.invariant.4
      c.slot-at.result c.slot-at.ensures _ c.place_view-s.ensures.is,
)

pub returns : goal.returns
returns c = record {
  is = slots_done c.args.nodes.lens.now c.args.nodes.slots.now c.args.number c.args.nodes.geometry c.args.nodes.limit (pages_of c.args.nodes.geometry c.args.nodes.image.now) c.loop-i.i
      (view_in c.loop-i.s c.loop-i.keys c.loop-i.values) (omega (arith, c.used_slots-used.ensures.0, c.loop-i-test.false)) c.loop-i.invariant.4;
  room = c.loop-i.invariant.3;
  keys = c.loop-i.invariant.1;
  values = c.loop-i.invariant.2;
}
