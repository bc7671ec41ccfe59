use native.Mathlib.Omega.{arith}
use Rattle.numbers.proofs.Words.{counted}
use Rattle.numbers.proofs.set.count.Goals as goal

pub returns : goal.returns
returns c = counted c.args.set.now (omega arith) (omega arith) (omega arith) (omega arith)
