use Rattle.std.proofs.Common.{◌≡◌, ◌*◌, length, take, ◌∙◌}
use lib.Seq.{take_all}
use Rattle.chip.specs.Geometry.{block_size}
use Rattle.chip.proofs.Sizes.{block_on_chip, blocks_whole}
use Rattle.plan.proofs.PlaceLaws.{all_at}
use Rattle.chip.proofs.Runs.{ran_none}
use Rattle.execution.proofs.EraseLaws.{erased_more}
use Rattle.execution.proofs.erase.erase_blocks.Goals as goal

pub loop-b-init : goal.loop-b-init
loop-b-init c = ran_none c.args.geometry c.args.torn.now c.args.progress c.args.image.now

pub erase-reached-requires : goal.erase-reached-requires
erase-reached-requires c =
    let on = all_at (take c.args.count c.args.erased.now) c.loop-b.b-index c.loop-b-test.true c.requires.3 in
    let same : length c.loop-b.image ≡ c.args.blocks * block_size c.args.geometry = c.loop-b.auto.image ∙ c.requires.0 in
    (block_on_chip c.args.geometry c.requires.4 c.args.blocks _ _ same on, blocks_whole c.args.geometry _ c.args.blocks same, c.requires.2, c.requires.4)

pub loop-b-preserved : goal.loop-b-preserved
loop-b-preserved c = erased_more c.args.geometry c.args.torn.now (take c.args.count c.args.erased.now) c.loop-b.b-index c.args.progress c.loop-b.reached c.erase-reached.result c.args.image.now c.loop-b.image _ c.loop-b-test.true c.loop-b.invariant c.erase-reached.ensures

pub returns : goal.returns
returns c = rw (take_all c.loop-b.b-index (take c.args.count c.args.erased.now) c.loop-b-test.false) at c.loop-b.invariant
