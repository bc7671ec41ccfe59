use Prim.Native.Nat.{◌+◌, ◌*◌, ◌/◌, ◌%◌, ◌<◌, ◌≤◌}
use native.Mathlib.Nat.{mod-lt}
use lib.ListN.{get_or}
use Rattle.chip.specs.Geometry.{most_pages}
use Rattle.chip.proofs.Sizes.{block_low, pages_pos}
use borrow.Author.Rules.{rules}
use Rattle.plan.proofs.places.page_of.Goals as goal

pub overflow_mul-result : goal.overflow_mul-result
overflow_mul-result c =
    let low : get_or c.args.ring.now (c.args.j / c.args.geometry.pages) 0 * c.args.geometry.pages + c.args.geometry.pages ≤ most_pages = block_low c.args.geometry c.requires.3 (get_or c.args.ring.now (c.args.j / c.args.geometry.pages) 0) c.requires.2 in
    search (low, rules)

pub overflow_add-result : goal.overflow_add-result
overflow_add-result c =
    let low : get_or c.args.ring.now (c.args.j / c.args.geometry.pages) 0 * c.args.geometry.pages + c.args.geometry.pages ≤ most_pages = block_low c.args.geometry c.requires.3 (get_or c.args.ring.now (c.args.j / c.args.geometry.pages) 0) c.requires.2 in
    let within : c.args.j % c.args.geometry.pages < c.args.geometry.pages = mod-lt c.args.j (pages_pos c.args.geometry c.requires.3) in
    search (low, within, rules)

pub overflow_cast-result : goal.overflow_cast-result
overflow_cast-result c =
    let low : get_or c.args.ring.now (c.args.j / c.args.geometry.pages) 0 * c.args.geometry.pages + c.args.geometry.pages ≤ most_pages = block_low c.args.geometry c.requires.3 (get_or c.args.ring.now (c.args.j / c.args.geometry.pages) 0) c.requires.2 in
    let within : c.args.j % c.args.geometry.pages < c.args.geometry.pages = mod-lt c.args.j (pages_pos c.args.geometry c.requires.3) in
    search (low, within, rules)
