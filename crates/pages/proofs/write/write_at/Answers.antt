use mathlib.Core.Path.{refl}
use Prim.Native.Nat.{◌+◌, ◌*◌, ◌/◌, ◌≤◌}
use native.Mathlib.Omega.{arith}
use lib.ListN.{length}
use Rattle.lists.specs.Lists.{part}
use Rattle.lists.proofs.Parts.{length_part}
use Rattle.chip.specs.Geometry.{page_size}
use Rattle.chip.proofs.Sizes.{page_end, whole_pages}
use Rattle.chip.proofs.ImageLaws.{page_lent}
use Rattle.pages.specs.WriteCode.{written}
use Rattle.pages.proofs.WriteLaws.{length_written, written_ran}
use Rattle.pages.proofs.write.write_at.Goals as goal

pub overflow_mul-a : goal.overflow_mul-a
overflow_mul-a c =
    let ends : c.args.at * page_size c.args.geometry + page_size c.args.geometry ≤ length c.args.image.now = page_end c.args.geometry (length c.args.image.now) c.args.at c.requires.0 in
    omega (arith, ends)

pub overflow_add-e : goal.overflow_add-e
overflow_add-e c =
    let ends : c.args.at * page_size c.args.geometry + page_size c.args.geometry ≤ length c.args.image.now = page_end c.args.geometry (length c.args.image.now) c.args.at c.requires.0 in
    omega (arith, ends)

pub slice_bounds-write_page-end : goal.slice_bounds-write_page-end
slice_bounds-write_page-end c =
    let ends : c.args.at * page_size c.args.geometry + page_size c.args.geometry ≤ length c.args.image.now = page_end c.args.geometry (length c.args.image.now) c.args.at c.requires.0 in
    omega (arith, ends)

pub returns : goal.returns
returns c =
    let ends : c.args.at * page_size c.args.geometry + page_size c.args.geometry ≤ length c.args.image.now = page_end c.args.geometry (length c.args.image.now) c.args.at c.requires.0 in
    let x = part (c.args.at * page_size c.args.geometry) (page_size c.args.geometry) c.args.image.now in
    let put = page_lent c.args.geometry c.args.image.now (length c.args.image.now / page_size c.args.geometry) refl (whole_pages c.args.geometry (length c.args.image.now) c.requires.1) c.args.at (written c.args.geometry c.args.torn.now c.args.bytes.now c.args.progress.left) c.requires.0
    (length_written c.args.geometry c.args.torn.now c.args.bytes.now c.requires.2 c.requires.3 c.args.progress.left x (length_part c.args.image.now (c.args.at * page_size c.args.geometry) (page_size c.args.geometry) ends)) _ c.write_page.ensures.page in
    written_ran c.args.geometry c.args.torn.now c.args.bytes.now c.args.at c.args.progress c.write_page.result c.args.image.now _ c.write_page.ensures.power c.write_page.ensures.told put.0 put.1
