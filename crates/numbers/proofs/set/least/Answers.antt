use native.Mathlib.Omega.{arith}
use Rattle.numbers.proofs.Words.{passed_more, passed_found, passed_all}
use Rattle.numbers.proofs.set.least.Goals as goal

pub returns-then-word-ne0 : goal.returns-then-word-ne0
returns-then-word-ne0 c = passed_found c.args.set.now c.loop-w.w c.loop-w.invariant (omega arith) (omega arith) c.if-word-ne0.true

pub loop-w-preserved : goal.loop-w-preserved
loop-w-preserved c = passed_more c.args.set.now c.loop-w.w c.loop-w.invariant (omega arith) c.if-word-ne0.false

pub returns : goal.returns
returns c = passed_all c.args.set.now c.loop-w.w c.loop-w.invariant (omega arith)
