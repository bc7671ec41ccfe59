use mathlib.Core.Path.{refl, ◌∙◌}
use mathlib.Core.List.{◌++◌}
use Prim.Native.Nat.{◌-◌}
use native.Mathlib.Omega.{arith}
use lib.ListN.{take, length-set}
use Rattle.lists.specs.Lists.{flat}
use Rattle.journal.specs.Plan.{pages_in}
use Rattle.plan.proofs.PlaceLaws.{ring_block, rest_start, rest_next, rest_done}
use Rattle.chip.proofs.Sizes.{pages_pos}
use Rattle.plan.proofs.places.put_rest.Goals as goal

pub loop-i-init : goal.loop-i-init
loop-i-init c = (omega arith, refl, rest_start c.args.geometry (pages_pos c.args.geometry c.requires.8) c.args.width c.args.n c.args.ring.now c.args.places.now c.requires.0 c.requires.3 (omega arith))

pub page_of-requires : goal.page_of-requires
page_of-requires c = let on = ring_block c.args.geometry (pages_pos c.args.geometry c.requires.8) c.args.blocks c.args.head c.args.width c.args.ring.now c.requires.0 c.requires.3 c.requires.2 c.requires.7 (c.loop-i.i - c.args.n) (omega arith) in
    (c.requires.0, on.0, on.1, c.requires.8)

pub loop-i-preserved : goal.loop-i-preserved
loop-i-preserved c = (
  omega arith,
  simp length-set c.loop-i.invariant.1,
  rest_next c.args.geometry (pages_pos c.args.geometry c.requires.8) c.args.width c.args.n c.args.ring.now c.args.places.now c.requires.0 c.requires.3 (omega arith) c.loop-i.i c.loop-i.places c.page_of.result
      c.loop-i.invariant.0 (omega arith) (omega arith) c.loop-i.invariant.2 c.page_of.ensures,
)

pub returns : goal.returns
returns c = (
  rest_done c.args.need c.loop-i.i c.loop-i.places (take c.args.n c.args.places.now ++ flat (pages_in c.args.geometry) (take c.args.width c.args.ring.now)) c.loop-i-test.false c.loop-i.invariant.2,
  c.loop-i.invariant.1 ∙ c.requires.1,
)
