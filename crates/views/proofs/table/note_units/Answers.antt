use mathlib.Core.Path.{sym, ◌∙◌}
use native.Mathlib.Omega.{arith}
use Rattle.pages.proofs.UnitLaws.{told}
use Rattle.views.proofs.TableLaws.{noting_start, noting_next, noting_stop, noting_end}
use Rattle.views.proofs.table.note_units.Goals as goal

pub loop-i-init : goal.loop-i-init
loop-i-init c = (omega arith, noting_start c.args.limit c.args.count c.args.place c.args.units.now c.args.lens.now c.args.slots.now)

pub note-requires : goal.note-requires
note-requires c = let w = (told c.args.limit _ _ (sym c.decode_unit.ensures ∙ c.in-Some.is)).below in
    omega arith

pub returns-in_default : goal.returns-in_default
returns-in_default c = noting_stop c.args.limit c.args.count c.args.place c.args.units.now c.args.lens.now c.args.slots.now c.loop-i.i c.loop-i.lens c.loop-i.slots
    c.decode_unit.result c.loop-i-test.true c.loop-i.invariant.1 c.decode_unit.ensures c.in_default.is

pub loop-i-preserved : goal.loop-i-preserved
loop-i-preserved c = (
  omega arith,
  noting_next c.args.limit c.args.count c.args.place c.args.units.now c.args.lens.now c.args.slots.now c.loop-i.i c.loop-i.lens c.loop-i.slots
      c.decode_unit.result c.loop-i-test.true c.loop-i.invariant.1 c.decode_unit.ensures _ _ _ c.in-Some.is c.note.ensures,
)

pub returns : goal.returns
returns c = noting_end c.args.limit c.args.count c.args.place c.args.units.now c.args.lens.now c.args.slots.now c.loop-i.i c.loop-i.lens c.loop-i.slots c.loop-i-test.false c.loop-i.invariant.1
