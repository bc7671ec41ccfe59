use Rattle.probe.proofs.BytesLaws.{carry_some_none, carry_some_then, part_then, on_err}
use Rattle.probe.proofs.take_all.Goals as goal

pub loop-init : goal.loop-init
loop-init g c = carry_some_none _ _

pub returns-in_err-turn-clause-err : goal.returns-in_err-turn-clause-err
returns-in_err-turn-clause-err g c = on_err c.from_residual.result (part_then _ _ _ _ _ _ c.loop.invariant c.in_err-turn.ensures.err)

pub loop-preserved : goal.loop-preserved
loop-preserved g c = carry_some_then _ _ _ _ _ _ c.loop.invariant c.in_ok-turn.ensures.ok

pub returns-then-branch-eq0-clause-ok : goal.returns-then-branch-eq0-clause-ok
returns-then-branch-eq0-clause-ok g c = carry_some_then _ _ _ _ _ _ c.loop.invariant c.in_ok-turn.ensures.ok
