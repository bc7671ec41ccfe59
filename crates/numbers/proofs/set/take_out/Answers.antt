use native.Mathlib.Omega.{arith}
use Rattle.numbers.proofs.Words.{take_word}
use Rattle.numbers.proofs.set.take_out.Goals as goal

pub returns-then-n-lt256 : goal.returns-then-n-lt256
returns-then-n-lt256 c = take_word c.args.set.now c.args.n (omega arith) (omega arith)
