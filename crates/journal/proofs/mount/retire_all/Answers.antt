use Rattle.std.proofs.Common.{◌<◌, ◌/◌, length, arith}
use Rattle.chip.specs.Geometry.{page_size}
use Rattle.chip.proofs.ImageLaws.{length_pages}
use Rattle.chip.proofs.Runs.{ran_none}
use Rattle.journal.proofs.MountCode.{retire_more, retire_done}
use Rattle.journal.proofs.mount.retire_all.Goals as goal

pub loop-at-init : goal.loop-at-init
loop-at-init c = ran_none c.args.geometry c.args.torn.now c.args.progress c.args.image.now

pub retire_at-reached-requires : goal.retire_at-reached-requires
retire_at-reached-requires c = let h : c.loop-at.at < length c.args.image.now / page_size c.args.geometry = omega arith in
    (rw c.loop-at.invariant.size h, rw c.loop-at.invariant.size c.requires.0, c.requires.1, c.requires.2)

pub loop-at-preserved : goal.loop-at-preserved
loop-at-preserved c =
    retire_more c.args.geometry c.args.torn.now c.args.commit c.loop-at.at c.args.progress c.loop-at.reached c.retire_at-reached.result c.args.image.now c.loop-at.image _ (omega (arith, length_pages c.args.geometry c.args.image.now)) c.loop-at.invariant c.retire_at-reached.ensures

pub returns : goal.returns
returns c = retire_done c.args.geometry c.args.torn.now c.args.commit c.loop-at.at c.args.progress c.loop-at.reached c.args.image.now c.loop-at.image (omega (arith, length_pages c.args.geometry c.args.image.now)) c.loop-at.invariant
