use mathlib.Core.Path.{◌≡◌}
use Rattle.numbers.specs.NumberSet.{words_of, uncounted}
use Rattle.numbers.proofs.set.gather.Given as goal

abbrev pub invariant-loop-n : goal.invariant-loop-n
invariant-loop-n l = l.set ≡ words_of (uncounted l.n l.counts)
