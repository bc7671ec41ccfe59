use Rattle.execution.specs.WriteCode.{Writes}
use Rattle.execution.proofs.write.write_pages.Given as goal

abbrev pub invariant-loop-index : goal.invariant-loop-index
invariant-loop-index l = Writes l.pages l.targets l.sizes l.units l.places l.torn 0 l.index l.initial.reached l.reached l.initial.image l.image l.initial.new_lens l.initial.new_slots l.new_lens l.new_slots
