use Rattle.execution.proofs.GatherLaws.{Gathering}
use Rattle.execution.proofs.gather.gather.Given as goal

abbrev pub invariant-loop-n : goal.invariant-loop-n
invariant-loop-n l = Gathering l.room l.limit l.targets l.sizes l.units l.page l.n l.k l.out
