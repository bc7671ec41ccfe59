use Prim.Native.Nat.{◌+◌, ◌*◌, ◌≤◌}
use mathlib.Core.Path.{◌∙◌}
use lib.ListN.{length}
use Rattle.chip.specs.Geometry.{block_size}
use Rattle.chip.proofs.Sizes.{block_most, block_within}
use Rattle.plan.proofs.PlaceLaws.{block_free}
use borrow.Author.Rules.{rules}
use Rattle.plan.proofs.places.is_wholly_free.Goals as goal

pub overflow_mul-size : goal.overflow_mul-size
overflow_mul-size c = search (block_most c.args.geometry c.requires.1, rules)

pub overflow_mul-a : goal.overflow_mul-a
overflow_mul-a c =
    let ends : c.args.at * block_size c.args.geometry + block_size c.args.geometry ≤ length c.args.image.now = block_within c.args.geometry (length c.args.image.now) c.args.at c.requires.0 in
    search (ends, rules)

pub overflow_add-e : goal.overflow_add-e
overflow_add-e c =
    let ends : c.args.at * block_size c.args.geometry + block_size c.args.geometry ≤ length c.args.image.now = block_within c.args.geometry (length c.args.image.now) c.args.at c.requires.0 in
    search (ends, rules)

pub slice_bounds-is_free-end : goal.slice_bounds-is_free-end
slice_bounds-is_free-end c =
    let ends : c.args.at * block_size c.args.geometry + block_size c.args.geometry ≤ length c.args.image.now = block_within c.args.geometry (length c.args.image.now) c.args.at c.requires.0 in
    search (ends, rules)

pub returns : goal.returns
returns c = c.is_free.ensures ∙ block_free c.args.geometry c.requires.1 c.args.image.now c.args.at c.requires.0
