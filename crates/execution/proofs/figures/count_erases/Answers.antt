use Rattle.std.proofs.Common.{◌<◌, map, length, get_or, take, sym, arith}
use lib.Seq.{take_all}
use Rattle.plan.proofs.PlaceLaws.{all_at}
use Rattle.chip.specs.Chip.{erase}
use Rattle.chip.proofs.EraseLaws.{figures_none, length_figures}
use Rattle.execution.proofs.EraseLaws.{counted_more}
use Rattle.execution.proofs.figures.count_erases.Goals as goal

pub loop-b-init : goal.loop-b-init
loop-b-init c = sym (figures_none c.args.erases.now (λ j. omega (arith, c.fits-erases j)))

pub count_erase-requires : goal.count_erase-requires
count_erase-requires c =
    let listed-first : get_or (take c.args.count c.args.erased.now) c.loop-b.b-index 0 < 32 = all_at (take c.args.count c.args.erased.now) c.loop-b.b-index c.loop-b-test.true c.requires.1 in
    let listed : get_or (take c.args.count c.args.erased.now) c.loop-b.b-index 0 < length c.loop-b.erases = rw c.loop-b.invariant (omega (arith, listed-first, c.told-erases, length_figures (map erase (take c.loop-b.b-index (take c.args.count c.args.erased.now))) c.args.erases.now)) in
    listed

pub loop-b-preserved : goal.loop-b-preserved
loop-b-preserved c =
    let listed : get_or (take c.args.count c.args.erased.now) c.loop-b.b-index 0 < 32 = all_at (take c.args.count c.args.erased.now) c.loop-b.b-index c.loop-b-test.true c.requires.1 in
    counted_more (take c.args.count c.args.erased.now) c.args.erases.now c.loop-b.b-index c.loop-b.erases _ c.loop-b-test.true (omega (arith, listed, c.told-erases)) c.loop-b.invariant c.count_erase.ensures

pub returns : goal.returns
returns c = rw (take_all c.loop-b.b-index (take c.args.count c.args.erased.now) c.loop-b-test.false) at c.loop-b.invariant
