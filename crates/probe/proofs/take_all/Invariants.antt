use Rattle.probe.specs.Makes.{rig, CarriesSome}
use Rattle.probe.proofs.take_all.Given as goal

abbrev pub invariant-loop : goal.invariant-loop
invariant-loop g l =
    CarriesSome l.initial.reading.line (rig l.initial.reading.probe.bed l.initial.torn l.initial.reading.probe.state l.initial.image) l.reading.line
    (rig l.reading.probe.bed l.torn l.reading.probe.state l.image)
