use Rattle.numbers.proofs.Words.{Passed}
use Rattle.numbers.proofs.set.least.Given as goal

abbrev pub invariant-loop-w : goal.invariant-loop-w
invariant-loop-w l = Passed l.set l.w
