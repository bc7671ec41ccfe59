use native.Mathlib.Omega.{arith}
use Rattle.numbers.proofs.Words.{put_word}
use Rattle.numbers.proofs.set.put_in.Goals as goal

pub returns-then-n-lt256 : goal.returns-then-n-lt256
returns-then-n-lt256 c = put_word c.args.set.now c.args.n (omega arith)
