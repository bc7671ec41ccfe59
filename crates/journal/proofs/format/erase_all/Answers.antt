use Rattle.std.proofs.Common.{◌≡◌, ◌*◌, length, ◌∙◌, arith}
use Rattle.chip.specs.Geometry.{block_size}
use Rattle.chip.proofs.Runs.{ran_none}
use Rattle.chip.proofs.Sizes.{block_on_chip, blocks_whole}
use Rattle.journal.proofs.FormatCode.{erased_more}
use Rattle.journal.proofs.format.erase_all.Goals as goal

pub loop-b-init : goal.loop-b-init
loop-b-init c = ran_none c.args.geometry c.args.torn.now c.args.progress c.args.image.now

pub erase-reached-requires : goal.erase-reached-requires
erase-reached-requires c = let n = length c.loop-b.image in
    let same : n ≡ c.args.blocks * block_size c.args.geometry = c.loop-b.invariant.size ∙ c.requires.0 in
    (block_on_chip c.args.geometry c.requires.2 c.args.blocks c.loop-b.b n same (omega arith), blocks_whole c.args.geometry n c.args.blocks same, c.requires.1, c.requires.2)

pub loop-b-preserved : goal.loop-b-preserved
loop-b-preserved c = erased_more c.args.geometry c.args.torn.now c.loop-b.b c.args.progress c.loop-b.reached c.erase-reached.result c.args.image.now c.loop-b.image _ c.loop-b.invariant c.erase-reached.ensures

pub returns : goal.returns
returns c = let z : c.loop-b.b ≡ c.args.blocks = omega arith in
    rw z at c.loop-b.invariant
