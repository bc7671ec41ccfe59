use Rattle.chip.specs.Geometry.{page_size}
use Rattle.chip.specs.Page.{torn_page}
use Rattle.chip.proofs.PageLaws.{length_torn}
use Rattle.chip.proofs.BlockLaws.{fill_start, fill_more}
use Rattle.chip.proofs.block.fill_torn.Goals as goal

pub loop-i-init : goal.loop-i-init
loop-i-init c = fill_start (torn_page c.args.geometry c.args.torn.now) c.args.block.now (page_size c.args.geometry)

pub loop-i-preserved : goal.loop-i-preserved
loop-i-preserved c =
    fill_more (torn_page c.args.geometry c.args.torn.now) c.args.block.now c.loop-i.block c.put_torn.new.page c.loop-i.i (page_size c.args.geometry)
    (length_torn c.args.geometry c.args.torn.now c.requires.1) c.loop-i.invariant c.put_torn.ensures
