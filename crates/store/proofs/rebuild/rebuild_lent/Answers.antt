use mathlib.Core.Path.{◌≡◌}
use Prim.Native.Nat.{ℕ, ◌<◌}
use native.Mathlib.Omega.{arith}
use lib.ListN.{length, get_or}
use Rattle.chip.proofs.Sizes.{nand_fits}
use Rattle.chip.specs.Geometry.{geometry_of, page_size}
use Rattle.store.specs.AdmitCode.{ChipOf}
use Rattle.store.specs.PrepareCode.{IsReady}
use Rattle.store.specs.Parts.{joined}
use Rattle.store.proofs.RebuildReady.{rebuildable}
use Rattle.store.proofs.SizeLaws.{sized_chip}
use Rattle.store.proofs.Rebuilding.{size_rebuilds, quiet_rebuilds, off_rebuilds, ready_rebuilds}
use borrow.Author.Rules.{rules}
use Rattle.store.proofs.rebuild.rebuild_lent.Goals as goal

pub sized-requires : goal.sized-requires
sized-requires c = c.geometry_of-geometry.ensures.1

pub returns-in_default : goal.returns-in_default
returns-in_default c buffer =
    let bytes : (j : ℕ) → get_or c.args.image.now j 0 < 256 = (λ j. omega (arith, c.type_inv.image j)) in
    let s = joined c.args.numbers buffer c.args.lens.now c.args.slots.now c.args.erases.now in
    rw c.quiet.ensures (size_rebuilds c.args.nand c.args.allowance c.args.torn.now s c.args.image.now bytes (rw (c.in_default.is, c.geometry_of-geometry.ensures.0) at c.sized.ensures))

pub prepare-requires : goal.prepare-requires
prepare-requires c =
    let sizes : (ChipOf (geometry_of c.args.nand) c.in-Some.blocks (length c.args.image.now) × (length c.args.torn.now ≡ page_size (geometry_of c.args.nand))) = sized_chip (geometry_of c.args.nand) _ _ _ (rw (c.in-Some.is, c.geometry_of-geometry.ensures.0) at c.sized.ensures) in
    rw c.geometry_of-geometry.ensures.0 (sizes.0, nand_fits c.args.nand)

pub renew-reached-requires : goal.renew-reached-requires
renew-reached-requires c =
    let sizes : (ChipOf (geometry_of c.args.nand) c.in-Some.blocks (length c.args.image.now) × (length c.args.torn.now ≡ page_size (geometry_of c.args.nand))) = sized_chip (geometry_of c.args.nand) _ _ _ (rw (c.in-Some.is, c.geometry_of-geometry.ensures.0) at c.sized.ensures) in
    let bytes : (j : ℕ) → get_or c.args.image.now j 0 < 256 = (λ j. omega (arith, c.slice_known-1.given j)) in
    let ready : (IsReady (geometry_of c.args.nand) c.args.image.now c.prepare.new.lens c.prepare.new.slots c.prepare.new.ring c.in-Ok.ready.commit c.in-Ok.ready.void) = (rw (c.in-Ok.is, c.geometry_of-geometry.ensures.0) at c.prepare.ensures) in
    rw c.geometry_of-geometry.ensures.0 (
      sizes.0.size,
      sizes.1,
      ready.left,
      nand_fits c.args.nand,
      rebuildable (geometry_of c.args.nand) (nand_fits c.args.nand) c.args.image.now c.args.torn.now bytes c.in-Some.blocks sizes.0 sizes.1 _ _ _ _ _ ready,
    )

pub overflow_add-after : goal.overflow_add-after
overflow_add-after c =
    let ready : (IsReady (geometry_of c.args.nand) c.args.image.now c.prepare.new.lens c.prepare.new.slots c.prepare.new.ring c.in-Ok.ready.commit c.in-Ok.ready.void) = (rw (c.in-Ok.is, c.geometry_of-geometry.ensures.0) at c.prepare.ensures) in
    record { fits = omega (arith, ready.left) }

pub returns-in-Last : goal.returns-in-Last
returns-in-Last c buffer =
    let sizes : (ChipOf (geometry_of c.args.nand) c.in-Some.blocks (length c.args.image.now) × (length c.args.torn.now ≡ page_size (geometry_of c.args.nand))) = sized_chip (geometry_of c.args.nand) _ _ _ (rw (c.in-Some.is, c.geometry_of-geometry.ensures.0) at c.sized.ensures) in
    let bytes : (j : ℕ) → get_or c.args.image.now j 0 < 256 = (λ j. omega (arith, c.slice_known-1.given j)) in
    let s = joined c.args.numbers buffer c.args.lens.now c.args.slots.now c.args.erases.now in
    rw c.quiet-in-Last.ensures
    (quiet_rebuilds c.args.nand c.args.allowance c.args.torn.now s c.args.image.now bytes c.in-Some.blocks sizes.0 sizes.1 c.in-Err.refusal
    (rw (c.in-Err.is, c.geometry_of-geometry.ensures.0) at c.prepare.ensures) c.in-Last.is)

pub returns-in_default-refusal : goal.returns-in_default-refusal
returns-in_default-refusal c buffer =
    let sizes : (ChipOf (geometry_of c.args.nand) c.in-Some.blocks (length c.args.image.now) × (length c.args.torn.now ≡ page_size (geometry_of c.args.nand))) = sized_chip (geometry_of c.args.nand) _ _ _ (rw (c.in-Some.is, c.geometry_of-geometry.ensures.0) at c.sized.ensures) in
    let bytes : (j : ℕ) → get_or c.args.image.now j 0 < 256 = (λ j. omega (arith, c.slice_known-1.given j)) in
    let s = joined c.args.numbers buffer c.args.lens.now c.args.slots.now c.args.erases.now in
    rw c.refused.ensures
    (off_rebuilds c.args.nand c.args.allowance c.args.torn.now s c.args.image.now bytes c.in-Some.blocks sizes.0 sizes.1 c.in-Err.refusal
    (rw (c.in-Err.is, c.geometry_of-geometry.ensures.0) at c.prepare.ensures) c.in_default-refusal.not-Last c.in_default-refusal.not-Nodes)

pub returns-in-Ok : goal.returns-in-Ok
returns-in-Ok c buffer =
    let sizes : (ChipOf (geometry_of c.args.nand) c.in-Some.blocks (length c.args.image.now) × (length c.args.torn.now ≡ page_size (geometry_of c.args.nand))) = sized_chip (geometry_of c.args.nand) _ _ _ (rw (c.in-Some.is, c.geometry_of-geometry.ensures.0) at c.sized.ensures) in
    let bytes : (j : ℕ) → get_or c.args.image.now j 0 < 256 = (λ j. omega (arith, c.slice_known-1.given j)) in
    let low : c.args.allowance < 4294967296 = search rules in
    let ready : (IsReady (geometry_of c.args.nand) c.args.image.now c.prepare.new.lens c.prepare.new.slots c.prepare.new.ring c.in-Ok.ready.commit c.in-Ok.ready.void) = (rw (c.in-Ok.is, c.geometry_of-geometry.ensures.0) at c.prepare.ensures) in
    let s = joined c.args.numbers buffer c.args.lens.now c.args.slots.now c.args.erases.now in
    ready_rebuilds c.args.nand c.args.allowance c.args.torn.now s c.args.image.now bytes c.in-Some.blocks sizes.0 sizes.1
    c.prepare.new.lens c.prepare.new.slots c.prepare.new.ring c.in-Ok.ready.commit c.in-Ok.ready.void ready
    c.renew-reached.new.image low c.begin-start.result c.renew-reached.result c.begin-start.ensures _ _ _ (rw c.geometry_of-geometry.ensures.0 at c.renew-reached.ensures)
    (λ j. omega (arith, c.slice_known-in-Ok-1.given j)) buffer _ (c.ended.ensures buffer)
