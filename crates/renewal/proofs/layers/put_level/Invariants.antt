use Rattle.views.specs.NodeCode.{entries_in}
use Rattle.renewal.proofs.LayersLaws.{Putting}
use Rattle.renewal.proofs.layers.put_level.Given as goal

abbrev pub invariant-loop-i : goal.invariant-loop-i
invariant-loop-i l = Putting l.level l.first l.count (entries_in l.count l.keys l.values) l.initial.sizes l.initial.units l.i l.from l.sizes l.units l.lows l.numbers
