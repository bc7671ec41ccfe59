use mathlib.Core.Path.{refl}
use Rattle.std.specs.Prelude.{Err}
use Prim.Native.Nat.{◌+◌, ◌*◌, ◌-◌, ◌<◌, ◌≤◌}
use native.Mathlib.Nat.{add-sub_cancel_left, mul-le-mul}
use native.Mathlib.Omega.{arith}
use lib.ListN.{length}
use Rattle.chip.specs.Geometry.{Geometry, Fits, large, geometry_of, block_size}
use Rattle.chip.proofs.Sizes.{block_end, block_most}
use Rattle.store.specs.AdmitCode.{ChipOf}
use Rattle.store.specs.Parts.{joined, with_free}
use Rattle.store.proofs.AdmitLaws.{number_some}
use Rattle.store.proofs.AnswerLaws.{passed_up}
use Rattle.store.proofs.ReportLaws.{report_first, report_absent, report_free}
use borrow.Author.Rules.{rules}
use Rattle.store.proofs.report.block_report_lent.Goals as goal

pub returns-in_err-admit : goal.returns-in_err-admit
returns-in_err-admit c free buffer lens slots = let s = joined (with_free c.args.numbers free) buffer lens slots c.args.erases.now in
    let a = (rw c.in_err-admit.was at c.admit.ensures) in
    rw (passed_up c.from_residual.result c.in_err-admit.field-0.0 c.from_residual.ensures.1) (report_first c.args.at s c.args.image.now (Err _) (number_some _) a.number)

pub returns-then-b-numbers : goal.returns-then-b-numbers
returns-then-b-numbers c free buffer lens slots = let s = joined (with_free c.args.numbers free) buffer lens slots c.args.erases.now in
    let a = (rw c.in_ok-admit.was at c.admit.ensures) in
    report_absent c.args.at s c.args.image.now a.number (omega (arith, c.if-b-numbers.true))

pub overflow_add-size : goal.overflow_add-size
overflow_add-size c =
    let read : Geometry = c.geometry_of-geometry.result in
    let fit : Fits read = c.geometry_of-geometry.ensures.1 in
    record { fits = omega (arith, fit.area_most, fit.spare_most) }

pub overflow_mul-size : goal.overflow_mul-size
overflow_mul-size c =
    let read : Geometry = c.geometry_of-geometry.result in
    let fit : Fits read = c.geometry_of-geometry.ensures.1 in
    record { fits = omega (arith, block_most read fit) }

pub overflow_mul-a : goal.overflow_mul-a
overflow_mul-a c =
    let read : Geometry = c.geometry_of-geometry.result in
    let fit : Fits read = c.geometry_of-geometry.ensures.1 in
    let on_chip : (ChipOf read c.args.numbers.blocks (length c.args.image.now) × (c.args.at < c.args.numbers.blocks)) = (rw c.geometry_of-geometry.ensures.0 (let a = (rw c.in_ok-admit.was at c.admit.ensures) in a.chip refl), omega (arith, c.if-b-numbers.false)) in
    let low : (c.args.at * block_size read + block_size read ≤ 32 * block_size large) = let w = on_chip in let m : 32 * block_size read ≤ 32 * block_size large = mul-le-mul (let z : 32 ≤ 32 = omega arith in z) (block_most read fit) in omega (arith, block_end read c.args.at 32 (omega (arith, w.0.most, w.1)), m) in
    record { fits = omega (arith, low) }

pub overflow_add-e : goal.overflow_add-e
overflow_add-e c =
    let read : Geometry = c.geometry_of-geometry.result in
    let fit : Fits read = c.geometry_of-geometry.ensures.1 in
    let on_chip : (ChipOf read c.args.numbers.blocks (length c.args.image.now) × (c.args.at < c.args.numbers.blocks)) = (rw c.geometry_of-geometry.ensures.0 (let a = (rw c.in_ok-admit.was at c.admit.ensures) in a.chip refl), omega (arith, c.if-b-numbers.false)) in
    let low : (c.args.at * block_size read + block_size read ≤ 32 * block_size large) = let w = on_chip in let m : 32 * block_size read ≤ 32 * block_size large = mul-le-mul (let z : 32 ≤ 32 = omega arith in z) (block_most read fit) in omega (arith, block_end read c.args.at 32 (omega (arith, w.0.most, w.1)), m) in
    record { fits = omega (arith, low) }

pub slice_bounds-free_pages-end : goal.slice_bounds-free_pages-end
slice_bounds-free_pages-end c =
    let read : Geometry = c.geometry_of-geometry.result in
    let on_chip : (ChipOf read c.args.numbers.blocks (length c.args.image.now) × (c.args.at < c.args.numbers.blocks)) = (rw c.geometry_of-geometry.ensures.0 (let a = (rw c.in_ok-admit.was at c.admit.ensures) in a.chip refl), omega (arith, c.if-b-numbers.false)) in
    let ends : (c.args.at * block_size read + block_size read ≤ length c.args.image.now) = let w = on_chip in omega (arith, w.0.size, block_end read _ _ w.1) in
    omega (arith, ends)

pub free_pages-found-requires : goal.free_pages-found-requires
free_pages-found-requires c =
    let read : Geometry = c.geometry_of-geometry.result in
    let fit : Fits read = c.geometry_of-geometry.ensures.1 in
    (search rules, fit)

pub bounds-erases-b : goal.bounds-erases-b
bounds-erases-b c =
    let read : Geometry = c.geometry_of-geometry.result in
    let on_chip : (ChipOf read c.args.numbers.blocks (length c.args.image.now) × (c.args.at < c.args.numbers.blocks)) = (rw c.geometry_of-geometry.ensures.0 (let a = (rw c.in_ok-admit.was at c.admit.ensures) in a.chip refl), omega (arith, c.if-b-numbers.false)) in
    let w = on_chip in omega (arith, w.0.most, w.1)

pub returns : goal.returns
returns c free buffer lens slots =
    let read : Geometry = c.geometry_of-geometry.result in
    let on_chip : (ChipOf read c.args.numbers.blocks (length c.args.image.now) × (c.args.at < c.args.numbers.blocks)) = (rw c.geometry_of-geometry.ensures.0 (let a = (rw c.in_ok-admit.was at c.admit.ensures) in a.chip refl), omega (arith, c.if-b-numbers.false)) in
    let g = geometry_of c.args.numbers.nand in
    let s = joined (with_free c.args.numbers free) buffer lens slots c.args.erases.now in
    let h = (rw c.geometry_of-geometry.ensures.0 at c.free_pages-found.ensures) in
    report_free c.args.at s c.args.image.now (let a = (rw c.in_ok-admit.was at c.admit.ensures) in a.number)
    on_chip.1 (let a = (rw c.in_ok-admit.was at c.admit.ensures) in a.chip refl).size _ _ _ (c.args.at * block_size g + block_size g - c.args.at * block_size g) (add-sub_cancel_left (c.args.at * block_size g) (block_size g))
    h.0 h.1 refl
