use mathlib.Core.Path.{refl}
use Prim.Native.Nat.{◌<◌}
use Rattle.std.specs.Prelude.{Some}
use native.Mathlib.Omega.{arith}
use lib.ListN.{length}
use Rattle.chip.specs.Geometry.{geometry_of}
use Rattle.store.specs.AdmitCode.{Sized}
use Rattle.store.specs.Parts.{joined}
use Rattle.store.proofs.FormatState.{format_size, format_ended}
use borrow.Author.Rules.{rules}
use Rattle.store.proofs.format.format_lent.Goals as goal

pub sized-requires : goal.sized-requires
sized-requires c = c.geometry_of-geometry.ensures.1

pub returns-in_default : goal.returns-in_default
returns-in_default c buffer =
    let s = joined c.args.numbers buffer c.args.lens.now c.args.slots.now c.args.erases.now in
    rw c.quiet.ensures (format_size c.args.nand c.args.allowance c.args.torn.now s c.args.image.now (rw (c.in_default.is, c.geometry_of-geometry.ensures.0) at c.sized.ensures))

pub format-reached-requires : goal.format-reached-requires
format-reached-requires c =
    let k : (Sized c.geometry_of-geometry.result (length c.args.image.now) (length c.args.torn.now) (Some c.in-Some.blocks)) = (rw c.in-Some.is at c.sized.ensures) in
    let chip = k.chip _ refl in
    (chip.size, omega (arith, chip.least), k.torn _ refl, c.geometry_of-geometry.ensures.1)

pub overflow_mul-blocks : goal.overflow_mul-blocks
overflow_mul-blocks c = let k = (rw c.in-Some.is at c.sized.ensures) in omega (arith, (k.chip _ refl).most)

pub overflow_cast-blocks : goal.overflow_cast-blocks
overflow_cast-blocks c = let k = (rw c.in-Some.is at c.sized.ensures) in omega (arith, (k.chip _ refl).most)

pub returns : goal.returns
returns c buffer =
    let low : c.args.allowance < 4294967296 = search rules in
    let sizes : (Sized (geometry_of c.args.nand) (length c.args.image.now) (length c.args.torn.now) (Some c.in-Some.blocks)) = (rw (c.in-Some.is, c.geometry_of-geometry.ensures.0) at c.sized.ensures) in
    let s = joined c.args.numbers buffer c.args.lens.now c.args.slots.now c.args.erases.now in
    format_ended c.args.nand c.args.allowance c.args.torn.now s c.args.image.now _ c.in-Some.blocks sizes low c.begin-start.result c.format-reached.result
    c.begin-start.ensures (rw c.geometry_of-geometry.ensures.0 at c.format-reached.ensures)
    (λ j. omega (arith, c.type_inv.image j)) _ c.gather.ensures buffer _ (c.ended.ensures buffer)
