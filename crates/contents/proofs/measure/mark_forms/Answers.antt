use mathlib.Core.Path.{refl, ap, ap₂, ◌∙◌}
use Prim.Native.Nat.{ℕ}
use native.Mathlib.Omega.{arith}
use lib.ListN.{get_or}
use Rattle.lists.specs.Lists.{bit}
use Rattle.contents.specs.ContentsCode.{is_forced_by}
use Rattle.contents.proofs.MeasureLaws.{fills_next}
use Rattle.contents.proofs.measure.mark_forms.Goals as goal

pub loop-number-preserved : goal.loop-number-preserved
loop-number-preserved c =
    let n = c.loop-number.number in
    fills_next n _ _ c.args.forms.now c.loop-number.forms _ c.loop-number.invariant (omega (arith, c.requires.3)) refl
    (c.from.ensures ∙ ap bit (c.is_forced-forced.ensures
    ∙ ap₂ (λ (r k : ℕ). is_forced_by r (get_or c.args.parts.now n 0) (get_or c.args.wholes.now n 0) k) (c.loop-number.invariant.rest n (omega arith)) c.used_slots-pages.ensures.0))
