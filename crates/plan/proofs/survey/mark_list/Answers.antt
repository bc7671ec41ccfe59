use mathlib.Core.Path.{refl, sym, ap, ◌∙◌}
use mathlib.Core.Bool.{Bool}
use mathlib.Core.List.{List, foldl}
use Prim.Native.Nat.{◌+◌, ◌*◌}
use native.Mathlib.Omega.{arith}
use lib.ListN.{length, drop, length-set}
use Rattle.views.specs.Stored.{stored_list}
use Rattle.plan.specs.SurveyCode.{mark}
use Rattle.plan.proofs.MarkLaws.{slot_next, slots_done}
use Rattle.plan.proofs.survey.mark_list.Goals as goal

pub loop-i-init : goal.loop-i-init
loop-i-init c = (omega arith, refl, refl)

pub overflow_cast-slots : goal.overflow_cast-slots
overflow_cast-slots c = record { fits = omega (arith, c.type_inv.slots (4 * c.args.node + c.loop-i.i)) }

pub loop-i-preserved : goal.loop-i-preserved
loop-i-preserved c = let s = stored_list c.args.lens.now c.args.slots.now c.args.node in (
  omega arith,
  ap length c.mark_page.ensures ∙ simp length-set c.loop-i.invariant.1,
  ap (λ (m : List Bool). foldl (mark c.args.geometry) m (drop (c.loop-i.i + 1) s)) c.mark_page.ensures
      ∙ slot_next c.args.geometry c.args.lens.now c.args.slots.now c.args.node c.used_slots-used.result (sym c.used_slots-used.ensures.0) c.requires.1 c.requires.2 c.loop-i.i c.loop-i.marks _ c.loop-i-test.true c.loop-i.invariant.2,
)

pub returns : goal.returns
returns c = slots_done c.args.geometry c.args.lens.now c.args.slots.now c.args.node c.used_slots-used.result (sym c.used_slots-used.ensures.0) c.requires.1 c.requires.2 c.loop-i.i c.loop-i.marks _ c.loop-i-test.false c.loop-i.invariant.2
