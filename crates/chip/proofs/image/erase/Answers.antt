use Rattle.std.proofs.Common.{ℕ, ◌+◌, ◌-◌, ◌*◌, ◌/◌, ◌≤◌, length, refl, arith, rules}
use Rattle.chip.specs.Geometry.{page_size, block_size}
use Rattle.chip.proofs.ImageLaws.{block_stepped}
use Rattle.chip.proofs.Sizes.{block_within, whole_pages}
use Rattle.chip.proofs.image.erase.Goals as goal

pub overflow_mul-a : goal.overflow_mul-a
overflow_mul-a c =
    let ends : c.args.at * block_size c.args.geometry + block_size c.args.geometry ≤ length c.args.image.now = block_within c.args.geometry (length c.args.image.now) c.args.at c.requires.0 in
    search (ends, rules)

pub overflow_add-e : goal.overflow_add-e
overflow_add-e c =
    let ends : c.args.at * block_size c.args.geometry + block_size c.args.geometry ≤ length c.args.image.now = block_within c.args.geometry (length c.args.image.now) c.args.at c.requires.0 in
    search (ends, rules)

pub slice_bounds-erase-end : goal.slice_bounds-erase-end
slice_bounds-erase-end c =
    let ends : c.args.at * block_size c.args.geometry + block_size c.args.geometry ≤ length c.args.image.now = block_within c.args.geometry (length c.args.image.now) c.args.at c.requires.0 in
    search (ends, rules)

pub returns : goal.returns
returns c = let n : ℕ = length c.args.image.now / page_size c.args.geometry in
    block_stepped c.args.geometry c.args.image.now n refl (whole_pages c.args.geometry (length c.args.image.now) c.requires.1) c.args.at (n - (c.args.at * c.args.geometry.pages + c.args.geometry.pages)) (omega (arith, c.requires.0))
    c.args.torn.now c.requires.2 c.args.progress c.after.result c.erase-told.result _ c.after.ensures c.erase-told.ensures
