use mathlib.Core.Path.{sym}
use Prim.Native.Nat.{◌*◌, ◌≤◌}
use native.Mathlib.Omega.{arith}
use lib.ListN.{length}
use Rattle.chip.proofs.Sizes.{pages_most_lem}
use Rattle.chip.specs.Geometry.{most_pages}
use Rattle.chip.specs.Chip.{pages_of}
use Rattle.plan.specs.PlacesCode.{free_pages}
use Rattle.plan.proofs.PlaceLaws.{enough_found, found_low}
use borrow.Author.Rules.{rules}
use Rattle.plan.proofs.places.has_places.Goals as goal

pub overflow_mul-others : goal.overflow_mul-others
overflow_mul-others c =
    let few : c.args.width * c.args.geometry.pages ≤ most_pages = pages_most_lem c.args.geometry c.requires.3 c.args.width c.requires.2 in
    search (few, rules)

pub overflow_add-result : goal.overflow_add-result
overflow_add-result c =
    let few : c.args.width * c.args.geometry.pages ≤ most_pages = pages_most_lem c.args.geometry c.requires.3 c.args.width c.requires.2 in
    search (few, c.put_free-n.ensures.1, rules)

pub returns : goal.returns
returns c = let ps = pages_of c.args.geometry c.args.image.now in
    let m = found_low c.args.geometry c.args.head c.saturating_sub-more.result c.put_free-n.result ps _ (omega (arith, c.put_free-n.ensures.1, c.put_free-n.ensures.3, c.requires.3.pages_most)) c.put_free-n.ensures.0 in
    enough_found c.args.need (c.args.width * c.args.geometry.pages) c.put_free-n.result (length (free_pages c.args.geometry ps c.args.head)) m.1 (rw (sym c.saturating_sub-more.ensures) m.2)
