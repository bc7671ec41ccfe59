use mathlib.Core.Path.{refl}
use native.Mathlib.Omega.{arith}
use lib.ListN.{length, take, get_or}
use lib.Seq.{length-take-le}
use Rattle.chip.specs.Chip.{pages_of}
use Rattle.plan.specs.SurveyCode.{Pushes}
use Rattle.plan.proofs.MarkLaws.{pushes_then, pushes_else}
use Rattle.plan.proofs.PlaceLaws.{all_at, erase_next, erase_done}
use Rattle.chip.proofs.Sizes.{block_on_chip}
use Rattle.plan.proofs.places.lay_erases.Goals as goal
use Rattle.plan.proofs.places.lay_erases.Goals.{then-is_erased, else-is_erased}

pub loop-b-init : goal.loop-b-init
loop-b-init c = (omega arith, c.told-erased, refl)

pub is_erased-requires : goal.is_erased-requires
is_erased-requires c = let on = all_at (take c.args.width c.args.ring.now) c.loop-b.b-index c.loop-b-test.true c.requires.2.range in
    (block_on_chip c.args.geometry c.requires.3 c.args.blocks _ (length c.args.image.now) c.requires.0 on.0, c.requires.3)

pub loop-b-preserved : goal.loop-b-preserved
loop-b-preserved c =
    let pushes : Pushes c.is_erased.result (get_or (take c.args.width c.args.ring.now) c.loop-b.b-index 0) c.loop-b.erased c.if-is_erased.erased c.loop-b.n c.if-is_erased.n =
    elim c.if-is_erased.branch [
      | then-is_erased w ↦ pushes_then (omega arith) w.if-is_erased.true w.erased-is w.n-is
      | else-is_erased w ↦ pushes_else w.if-is_erased.false w.erased-is w.n-is
    ] in (
      omega (arith, pushes.high),
      c.if-is_erased.array_long,
      rw c.saturating_sub-left.ensures
          (erase_next c.args.geometry (pages_of c.args.geometry c.args.image.now) (take c.args.width c.args.ring.now) c.loop-b.b-index c.loop-b.left c.loop-b.n c.if-is_erased.n c.loop-b.erased _ _
          (omega arith) c.loop-b.invariant.2 c.is_erased.result c.is_erased.ensures pushes.list),
    )

pub returns : goal.returns
returns c = (erase_done c.args.geometry (pages_of c.args.geometry c.args.image.now) (take c.args.width c.args.ring.now) c.loop-b.b-index c.loop-b.left (take c.loop-b.n c.loop-b.erased) _ (omega arith) c.loop-b.invariant.2, omega arith, length-take-le c.loop-b.n c.loop-b.erased (omega arith))
