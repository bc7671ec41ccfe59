use mathlib.Core.Path.{◌∙◌}
use native.Mathlib.Omega.{arith}
use Rattle.chip.proofs.Sizes.{block_on_chip, blocks_whole}
use Rattle.journal.proofs.FormatCode.{first_written}
use borrow.Author.Rules.{rules}
use Rattle.journal.proofs.format.format.Goals as goal

pub write_first-requires : goal.write_first-requires
write_first-requires c = let same = c.erase_all-erased.ensures.size ∙ c.requires.0 in
    (omega (arith, block_on_chip c.args.geometry c.requires.3 c.args.blocks 0 _ same c.requires.1, c.requires.3.many), blocks_whole c.args.geometry _ c.args.blocks same, search rules, c.requires.2, c.requires.3)

pub returns : goal.returns
returns c = first_written c.args.geometry c.args.torn.now c.args.blocks c.args.progress c.erase_all-erased.result c.write_first.result c.args.image.now _ _
    c.erase_all-erased.ensures c.write_first.ensures
