use Prim.Native.Nat.{◌+◌, ◌*◌, ◌≤◌}
use native.Mathlib.Omega.{arith}
use lib.ListN.{length}
use Rattle.chip.specs.Geometry.{page_size}
use Rattle.chip.proofs.Sizes.{page_end}
use Rattle.views.proofs.TableLaws.{place_off, place_many, place_noted}
use Rattle.views.proofs.table.note_at.Goals as goal

pub returns-then-p-image : goal.returns-then-p-image
returns-then-p-image c = place_off c.args.geometry c.args.image.now c.args.place c.args.limit c.if-p-image.true

pub overflow_mul-a : goal.overflow_mul-a
overflow_mul-a c =
    let ends : c.args.place * page_size c.args.geometry + page_size c.args.geometry ≤ length c.args.image.now = page_end c.args.geometry (length c.args.image.now) c.args.place c.if-p-image.false in
    omega (arith, ends)

pub overflow_add-e : goal.overflow_add-e
overflow_add-e c =
    let ends : c.args.place * page_size c.args.geometry + page_size c.args.geometry ≤ length c.args.image.now = page_end c.args.geometry (length c.args.image.now) c.args.place c.if-p-image.false in
    omega (arith, ends)

pub slice_bounds-read_half-end : goal.slice_bounds-read_half-end
slice_bounds-read_half-end c =
    let ends : c.args.place * page_size c.args.geometry + page_size c.args.geometry ≤ length c.args.image.now = page_end c.args.geometry (length c.args.image.now) c.args.place c.if-p-image.false in
    omega (arith, ends)

pub returns-then-geometry-units : goal.returns-then-geometry-units
returns-then-geometry-units c = place_many c.args.geometry c.args.image.now c.args.place c.args.limit c.if-p-image.false c.read_half-units.result c.read_half-units.ensures.0 c.if-geometry-units.true

pub slice_bounds-note_page-end : goal.slice_bounds-note_page-end
slice_bounds-note_page-end c =
    let ends : c.args.place * page_size c.args.geometry + page_size c.args.geometry ≤ length c.args.image.now = page_end c.args.geometry (length c.args.image.now) c.args.place c.if-p-image.false in
    omega (arith, ends)

pub returns : goal.returns
returns c = place_noted c.args.geometry c.args.image.now c.args.place c.args.limit c.if-p-image.false c.read_half-units.result c.read_half-units.ensures.0 c.args.lens.now c.args.slots.now _ _ _
    c.if-geometry-units.false c.note_page.ensures
