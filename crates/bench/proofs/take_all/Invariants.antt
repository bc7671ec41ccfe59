use Rattle.bench.specs.Input.{TakesSome}
use Rattle.bench.proofs.take_all.Given as goal

abbrev pub invariant-loop : goal.invariant-loop
invariant-loop g l = TakesSome l.torn l.initial.bench.line l.initial.bench.state l.initial.image l.bench.line l.bench.state l.image
