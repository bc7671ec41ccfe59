use native.Mathlib.Omega.{arith}
use lib.ListN.{length}
use Rattle.chip.proofs.Sizes.{blocks_whole}
use Rattle.renewal.proofs.MakeLaws.{laid_anew, records_fit}
use Rattle.renewal.proofs.make.lay_anew.Goals as goal

pub invariant_of-nodes : goal.invariant_of-nodes
invariant_of-nodes c = record { fits = c.requires.2; whole = blocks_whole c.args.geometry (length c.args.image.now) c.args.blocks c.requires.0 }

pub lay_tree-requires : goal.lay_tree-requires
lay_tree-requires c = (c.gather-count.ensures.few, omega (arith, c.requires.1), records_fit c.requires.1 c.requires.3 c.requires.4 c.gather-count.ensures)

pub returns : goal.returns
returns c = laid_anew c.requires.1 c.requires.3 c.requires.4 c.gather-count.ensures (c.lay_tree.ensures _ c.requires.5)
