use Prim.Native.Nat.{ℕ, ◌<◌}
use native.Mathlib.Omega.{arith}
use lib.ListN.{length, get_or}
use Rattle.chip.specs.Geometry.{geometry_of, page_size}
use Rattle.chip.proofs.Sizes.{nand_fits}
use Rattle.store.specs.Parts.{joined, with_free}
use Rattle.store.proofs.CommitTests.{Planning, planning}
use Rattle.store.proofs.ForecastState.{forecast_stuck, forecast_done}
use borrow.Author.Rules.{rules}
use Rattle.store.proofs.forecast.forecast_pending.Goals as goal

pub forecast-cost-requires : goal.forecast-cost-requires
forecast-cost-requires c =
    let past : (Planning c.args.numbers (length c.args.image.now) (page_size (geometry_of c.args.numbers.nand))) = let h : c.args.numbers.commit < 4294967296 = search rules in planning c.args.numbers (length c.args.image.now) (page_size (geometry_of c.args.numbers.nand)) h c.requires in
    let g = past in rw c.basis_of-basis.ensures (g.chip.size, g.chip.least, g.chip.most, g.fits, nand_fits c.args.numbers.nand)

pub returns-in_default : goal.returns-in_default
returns-in_default c free erases =
    let past : (Planning c.args.numbers (length c.args.image.now) (page_size (geometry_of c.args.numbers.nand))) = let h : c.args.numbers.commit < 4294967296 = search rules in planning c.args.numbers (length c.args.image.now) (page_size (geometry_of c.args.numbers.nand)) h c.requires in
    let bytes : (j : ℕ) → get_or c.args.image.now j 0 < 256 = (λ j. omega (arith, c.type_inv.image j)) in
    let g = past in
    let s = joined (with_free c.args.numbers free) c.args.buffer.now c.args.lens.now c.args.slots.now erases in
    forecast_stuck s c.args.image.now g.first g.pending g.number g.fits bytes c.forecast-cost.result (rw c.basis_of-basis.ensures at c.forecast-cost.ensures) c.in_default.is

pub returns : goal.returns
returns c free erases =
    let past : (Planning c.args.numbers (length c.args.image.now) (page_size (geometry_of c.args.numbers.nand))) = let h : c.args.numbers.commit < 4294967296 = search rules in planning c.args.numbers (length c.args.image.now) (page_size (geometry_of c.args.numbers.nand)) h c.requires in
    let bytes : (j : ℕ) → get_or c.args.image.now j 0 < 256 = (λ j. omega (arith, c.type_inv.image j)) in
    let g = past in
    let s = joined (with_free c.args.numbers free) c.args.buffer.now c.args.lens.now c.args.slots.now erases in
    forecast_done s c.args.image.now g.first g.pending g.number g.fits bytes c.forecast-cost.result (rw c.basis_of-basis.ensures at c.forecast-cost.ensures) _ c.in-Some.is
