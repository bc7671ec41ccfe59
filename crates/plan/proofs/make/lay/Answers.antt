use mathlib.Core.Path.{refl}
use Prim.Native.Nat.{◌+◌}
use native.Mathlib.Nat.{le_trans}
use lib.ListN.{take}
use Rattle.chip.specs.Chip.{pages_of}
use Rattle.plan.proofs.ChooseLaws.{enough_places}
use Rattle.plan.proofs.PlaceLaws.{erases_are}
use Rattle.chip.proofs.Sizes.{pages_pos}
use Rattle.plan.proofs.make.lay.Goals as goal

pub returns : goal.returns
returns c = let ps = pages_of c.args.geometry c.args.image.now in
    let x = erases_are c.args.geometry (pages_pos c.args.geometry c.requires.8) c.args.blocks c.args.ground.head c.args.ground.unused (c.args.pages + 1) c.lay_places-reach.result c.lay_erases-erases.result ps c.args.ring.now _ c.requires.6 c.lay_places-reach.ensures.reach c.lay_erases-erases.ensures.0 in
    let enough = enough_places c.args.geometry ps c.args.ground.head (take c.args.ground.unused c.args.ring.now) c.args.pages c.args.ground.unused c.requires.7 c.requires.5 in
    record { pages = refl; places = c.lay_places-reach.ensures.list; enough = enough; on = c.lay_places-reach.ensures.on; most = le_trans c.lay_erases-erases.ensures.1 c.requires.3; many = c.lay_erases-erases.ensures.2; erased = x.0; within = x.1 }
