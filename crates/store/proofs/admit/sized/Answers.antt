use Rattle.store.proofs.SizeLaws.{sized_none, sized_found}
use Rattle.store.proofs.admit.sized.Goals as goal

pub returns-then-torn-geometry : goal.returns-then-torn-geometry
returns-then-torn-geometry c = sized_none c.args.geometry c.args.len c.args.torn c.if-torn-geometry.true

pub blocks_of-requires : goal.blocks_of-requires
blocks_of-requires c = c.requires

pub returns : goal.returns
returns c = sized_found c.args.geometry c.args.len c.args.torn _ c.if-torn-geometry.false c.blocks_of.ensures
