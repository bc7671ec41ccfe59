use Rattle.bench.proofs.InputLaws.{some_none, some_then, part_then, on_err}
use Rattle.bench.proofs.take_all.Goals as goal

pub loop-init : goal.loop-init
loop-init g c = some_none c.args.torn.now c.args.bench.now.line c.args.bench.now.state c.args.image.now

pub returns-in_err-turn-clause-err : goal.returns-in_err-turn-clause-err
returns-in_err-turn-clause-err g c =
    on_err c.from_residual.result
    (part_then c.args.torn.now _ _ _ c.loop.bench.line c.loop.bench.state c.loop.image _ c.loop.invariant c.in_err-turn.ensures.err)

pub loop-preserved : goal.loop-preserved
loop-preserved g c = some_then c.args.torn.now _ _ _ c.loop.bench.line c.loop.bench.state c.loop.image _ _ _ c.loop.invariant c.in_ok-turn.ensures.ok

pub returns-then-branch-eq0-clause-ok : goal.returns-then-branch-eq0-clause-ok
returns-then-branch-eq0-clause-ok g c =
    some_then c.args.torn.now _ _ _ c.loop.bench.line c.loop.bench.state c.loop.image _ _ _ c.loop.invariant c.in_ok-turn.ensures.ok
