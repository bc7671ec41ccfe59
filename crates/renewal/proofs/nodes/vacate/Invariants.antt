use Rattle.renewal.specs.LayersCode.{HoldsVacant}
use Rattle.renewal.proofs.nodes.vacate.Given as goal

abbrev pub invariant-loop-n : goal.invariant-loop-n
invariant-loop-n l = HoldsVacant l.n l.lens l.slots l.sizes l.units
