use mathlib.Core.Path.{refl, ◌∙◌}
use native.Mathlib.Omega.{arith}
use Rattle.numbers.specs.NumberSet.{words_of}
use Rattle.chip.specs.SetCode.{set_of}
use Rattle.numbers.proofs.Gathered.{gather_put, gather_skip, gather_end}
use Rattle.numbers.proofs.set.gather.Goals as goal
use Rattle.numbers.proofs.set.gather.Goals.{then-counts-n-eq0, else-counts-n-eq0}

pub loop-n-init : goal.loop-n-init
unfolding words_of set_of
loop-n-init c = refl

pub loop-n-preserved : goal.loop-n-preserved
loop-n-preserved c =
    elim c.if-counts-n-eq0.branch [
      | then-counts-n-eq0 w ↦ w.set-is ∙ gather_put c.args.counts.now c.loop-n.set c.loop-n.n c.loop-n.invariant w.put_in.new.set (omega arith) w.if-counts-n-eq0.true w.put_in.ensures
      | else-counts-n-eq0 w ↦ w.set-is ∙ gather_skip c.args.counts.now c.loop-n.set c.loop-n.n c.loop-n.invariant w.if-counts-n-eq0.false
    ]

pub returns : goal.returns
returns c = gather_end c.args.counts.now c.loop-n.set c.loop-n.n c.loop-n.invariant c.args.limit (omega arith) (omega arith)
