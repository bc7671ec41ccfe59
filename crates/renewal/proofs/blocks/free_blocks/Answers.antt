use mathlib.Core.Path.{sym, ◌∙◌}
use native.Mathlib.Omega.{arith}
use lib.ListN.{length}
use Rattle.chip.specs.Chip.{pages_of}
use Rattle.chip.proofs.Sizes.{block_on_chip}
use Rattle.journal.specs.Plan.{wholly_free}
use Rattle.plan.specs.SurveyCode.{Pushes}
use Rattle.plan.proofs.MarkLaws.{push_next, pushes_then, pushes_else}
use Rattle.renewal.proofs.BlocksLaws.{found_free, free_start}
use Rattle.renewal.proofs.blocks.free_blocks.Goals as goal
use Rattle.renewal.proofs.blocks.free_blocks.Goals.{then-is_wholly_free, else-is_wholly_free}

pub loop-b-init : goal.loop-b-init
loop-b-init c = (omega arith, c.told-ring, free_start c.args.geometry c.args.blocks (pages_of c.args.geometry c.args.image.now))

pub is_wholly_free-requires : goal.is_wholly_free-requires
is_wholly_free-requires c = (block_on_chip c.args.geometry c.requires.2 c.args.blocks c.loop-b.b (length c.args.image.now) c.requires.0 c.loop-b-test.true, c.requires.2)

pub loop-b-preserved : goal.loop-b-preserved
loop-b-preserved c =
    let pushes : Pushes (wholly_free c.args.geometry (pages_of c.args.geometry c.args.image.now) c.loop-b.b) c.loop-b.b c.loop-b.ring c.if-is_wholly_free.ring c.loop-b.n c.if-is_wholly_free.n =
    elim c.if-is_wholly_free.branch [
      | then-is_wholly_free w ↦ pushes_then (omega arith) (sym c.is_wholly_free.ensures ∙ w.if-is_wholly_free.true) w.ring-is w.n-is
      | else-is_wholly_free w ↦ pushes_else (sym c.is_wholly_free.ensures ∙ w.if-is_wholly_free.false) w.ring-is w.n-is
    ] in (
      omega (arith, pushes.high),
      c.if-is_wholly_free.array_long,
      push_next (wholly_free c.args.geometry (pages_of c.args.geometry c.args.image.now)) c.loop-b.b c.args.blocks c.loop-b.n c.if-is_wholly_free.n c.loop-b.ring _ _ c.loop-b-test.true c.loop-b.invariant.2 pushes.list,
    )

pub returns : goal.returns
returns c = found_free c.args.geometry c.args.blocks c.loop-b.b c.loop-b.n (pages_of c.args.geometry c.args.image.now) c.loop-b.ring c.requires.1 c.loop-b.invariant.1 c.loop-b.invariant.0 (omega arith) c.loop-b-test.false c.loop-b.invariant.2
