use mathlib.Core.Path.{◌∙◌}
use native.Mathlib.Omega.{arith}
use lib.ListN.{length}
use Rattle.chip.specs.Chip.{pages_of}
use Rattle.plan.proofs.PlaceLaws.{lower, most_places, need_fits, lays}
use Rattle.chip.proofs.Sizes.{block_on_chip}
use borrow.Author.Rules.{rules}
use Rattle.plan.proofs.places.lay_places.Goals as goal

pub put_free-n-requires : goal.put_free-n-requires
put_free-n-requires c = (
  block_on_chip c.args.geometry c.requires.7 c.args.blocks c.args.head (length c.args.image.now) c.requires.0 c.requires.2,
  lower c.args.head c.args.blocks 32 c.requires.2 c.requires.1,
  omega (arith, c.told-places, c.requires.7.pages_most),
  c.requires.7,
)

pub put_rest-requires : goal.put_rest-requires
put_rest-requires c = let most = most_places c.args.geometry c.requires.7 c.put_free-n.result c.put_free-n.ensures.1 in
    let size = c.put_free-n.ensures.3 ∙ c.told-places in (
      c.told-ring,
      size,
      c.requires.1,
      c.requires.3,
      most,
      c.requires.4,
      need_fits c.args.geometry c.args.head c.args.width c.args.need c.put_free-n.result (pages_of c.args.geometry c.args.image.now) c.args.ring.now _ (rw size most) c.put_free-n.ensures.0 c.requires.5,
      c.requires.6,
      c.requires.7,
    )

pub overflow_sub-result : goal.overflow_sub-result
overflow_sub-result c = search (rules, c.put_free-n.ensures.2)

pub returns : goal.returns
returns c = let most = most_places c.args.geometry c.requires.7 c.put_free-n.result c.put_free-n.ensures.1 in
    let size = c.put_free-n.ensures.3 ∙ c.told-places in
    lays c.args.geometry c.args.head c.args.width c.args.need c.put_free-n.result (pages_of c.args.geometry c.args.image.now) c.args.ring.now _ (rw size most) c.put_free-n.ensures.0
    c.args.blocks _ c.requires.2 c.requires.6 c.put_rest.ensures.0
