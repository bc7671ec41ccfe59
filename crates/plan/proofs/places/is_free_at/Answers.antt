use mathlib.Core.Path.{◌∙◌}
use Prim.Native.Nat.{◌+◌, ◌*◌, ◌≤◌}
use lib.ListN.{length}
use Rattle.chip.specs.Geometry.{page_size}
use Rattle.chip.proofs.Sizes.{page_end}
use Rattle.plan.proofs.PlaceLaws.{free_is}
use borrow.Author.Rules.{rules}
use Rattle.plan.proofs.places.is_free_at.Goals as goal

pub overflow_mul-a : goal.overflow_mul-a
overflow_mul-a c =
    let ends : c.args.at * page_size c.args.geometry + page_size c.args.geometry ≤ length c.args.image.now = page_end c.args.geometry (length c.args.image.now) c.args.at c.requires.0 in
    search (ends, rules)

pub overflow_add-e : goal.overflow_add-e
overflow_add-e c =
    let ends : c.args.at * page_size c.args.geometry + page_size c.args.geometry ≤ length c.args.image.now = page_end c.args.geometry (length c.args.image.now) c.args.at c.requires.0 in
    search (ends, rules)

pub slice_bounds-is_free-end : goal.slice_bounds-is_free-end
slice_bounds-is_free-end c =
    let ends : c.args.at * page_size c.args.geometry + page_size c.args.geometry ≤ length c.args.image.now = page_end c.args.geometry (length c.args.image.now) c.args.at c.requires.0 in
    search (ends, rules)

pub returns : goal.returns
returns c = c.is_free.ensures ∙ free_is c.args.geometry c.args.image.now c.args.at c.requires.0
