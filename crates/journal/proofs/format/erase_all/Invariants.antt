use Rattle.lists.specs.Lists.{tab}
use Rattle.chip.specs.Chip.{erase}
use Rattle.chip.specs.RunCode.{Ran}
use Rattle.journal.proofs.format.erase_all.Given as goal

abbrev pub invariant-loop-b : goal.invariant-loop-b
invariant-loop-b l = Ran l.geometry l.torn (tab 0 l.b erase) l.initial.reached l.reached l.initial.image l.image
