use mathlib.Core.Path.{◌≡◌}
use Prim.Native.Nat.{ℕ, ◌<◌}
use native.Mathlib.Omega.{arith}
use lib.ListN.{length, get_or}
use Rattle.chip.proofs.Sizes.{blocks_whole, nand_fits}
use Rattle.chip.specs.Geometry.{geometry_of, page_size}
use Rattle.store.specs.AdmitCode.{ChipOf}
use Rattle.store.specs.CheckCode.{Read}
use Rattle.store.specs.Parts.{joined}
use Rattle.store.proofs.SizeLaws.{sized_chip}
use Rattle.store.proofs.Mounting.{size_mounts, unread_mounts, thin_mounts, marked_mounts}
use borrow.Author.Rules.{rules}
use Rattle.store.proofs.mount.mount_lent.Goals as goal

pub sized-requires : goal.sized-requires
sized-requires c = c.geometry_of-geometry.ensures.1

pub returns-in_default : goal.returns-in_default
returns-in_default c buffer =
    let bytes : (j : ℕ) → get_or c.args.image.now j 0 < 256 = (λ j. omega (arith, c.type_inv.image j)) in
    let s = joined c.args.numbers buffer c.args.lens.now c.args.slots.now c.args.erases.now in
    rw c.quiet.ensures (size_mounts c.args.nand c.args.allowance c.args.torn.now s c.args.image.now bytes (rw (c.in_default.is, c.geometry_of-geometry.ensures.0) at c.sized.ensures))

pub check-requires : goal.check-requires
check-requires c =
    let sizes : (ChipOf (geometry_of c.args.nand) c.in-Some.blocks (length c.args.image.now) × (length c.args.torn.now ≡ page_size (geometry_of c.args.nand))) = sized_chip (geometry_of c.args.nand) _ _ _ (rw (c.in-Some.is, c.geometry_of-geometry.ensures.0) at c.sized.ensures) in
    rw c.geometry_of-geometry.ensures.0 (sizes.0, nand_fits c.args.nand)

pub returns-in-Err : goal.returns-in-Err
returns-in-Err c buffer =
    let sizes : (ChipOf (geometry_of c.args.nand) c.in-Some.blocks (length c.args.image.now) × (length c.args.torn.now ≡ page_size (geometry_of c.args.nand))) = sized_chip (geometry_of c.args.nand) _ _ _ (rw (c.in-Some.is, c.geometry_of-geometry.ensures.0) at c.sized.ensures) in
    let bytes : (j : ℕ) → get_or c.args.image.now j 0 < 256 = (λ j. omega (arith, c.slice_known-1.given j)) in
    let s = joined c.args.numbers buffer c.args.lens.now c.args.slots.now c.args.erases.now in
    rw c.refused.ensures
    (unread_mounts c.args.nand c.args.allowance c.args.torn.now s c.args.image.now bytes c.in-Some.blocks sizes.0 sizes.1 c.in-Err.refusal
    (rw (c.in-Err.is, c.geometry_of-geometry.ensures.0) at c.check.ensures))

pub returns-then-meaning : goal.returns-then-meaning
returns-then-meaning c buffer =
    let sizes : (ChipOf (geometry_of c.args.nand) c.in-Some.blocks (length c.args.image.now) × (length c.args.torn.now ≡ page_size (geometry_of c.args.nand))) = sized_chip (geometry_of c.args.nand) _ _ _ (rw (c.in-Some.is, c.geometry_of-geometry.ensures.0) at c.sized.ensures) in
    let bytes : (j : ℕ) → get_or c.args.image.now j 0 < 256 = (λ j. omega (arith, c.slice_known-1.given j)) in
    let m : (Read (geometry_of c.args.nand) c.args.image.now c.check.new.lens c.check.new.slots c.check.new.free c.in-Ok.meaning.commit c.in-Ok.meaning.void c.in-Ok.meaning.thin) = (rw (c.in-Ok.is, c.geometry_of-geometry.ensures.0) at c.check.ensures) in
    let s = joined c.args.numbers buffer c.args.lens.now c.args.slots.now c.args.erases.now in
    rw c.refused-then-meaning.ensures
    (thin_mounts c.args.nand c.args.allowance c.args.torn.now s c.args.image.now bytes c.in-Some.blocks sizes.0 sizes.1
    c.check.new.lens c.check.new.slots c.check.new.free c.in-Ok.meaning.commit c.in-Ok.meaning.void (rw c.if-meaning.true at m))

pub retire-reached-requires : goal.retire-reached-requires
retire-reached-requires c =
    let sizes : (ChipOf (geometry_of c.args.nand) c.in-Some.blocks (length c.args.image.now) × (length c.args.torn.now ≡ page_size (geometry_of c.args.nand))) = sized_chip (geometry_of c.args.nand) _ _ _ (rw (c.in-Some.is, c.geometry_of-geometry.ensures.0) at c.sized.ensures) in
    rw c.geometry_of-geometry.ensures.0 (blocks_whole (geometry_of c.args.nand) _ _ sizes.0.size, sizes.1, nand_fits c.args.nand)

pub returns-else-meaning : goal.returns-else-meaning
returns-else-meaning c buffer =
    let sizes : (ChipOf (geometry_of c.args.nand) c.in-Some.blocks (length c.args.image.now) × (length c.args.torn.now ≡ page_size (geometry_of c.args.nand))) = sized_chip (geometry_of c.args.nand) _ _ _ (rw (c.in-Some.is, c.geometry_of-geometry.ensures.0) at c.sized.ensures) in
    let bytes : (j : ℕ) → get_or c.args.image.now j 0 < 256 = (λ j. omega (arith, c.slice_known-1.given j)) in
    let low : c.args.allowance < 4294967296 = search rules in
    let m : (Read (geometry_of c.args.nand) c.args.image.now c.check.new.lens c.check.new.slots c.check.new.free c.in-Ok.meaning.commit c.in-Ok.meaning.void c.in-Ok.meaning.thin) = (rw (c.in-Ok.is, c.geometry_of-geometry.ensures.0) at c.check.ensures) in
    let s = joined c.args.numbers buffer c.args.lens.now c.args.slots.now c.args.erases.now in
    marked_mounts c.args.nand c.args.allowance c.args.torn.now s c.args.image.now bytes c.in-Some.blocks sizes.0 sizes.1
    c.check.new.lens c.check.new.slots c.check.new.free c.in-Ok.meaning.commit c.in-Ok.meaning.void (rw c.if-meaning.false at m)
    c.retire-reached.new.image low c.begin-start.result c.retire-reached.result
    c.begin-start.ensures (rw c.geometry_of-geometry.ensures.0 at c.retire-reached.ensures) (λ j. omega (arith, c.type_inv.image j)) buffer _ (c.ended.ensures buffer)
