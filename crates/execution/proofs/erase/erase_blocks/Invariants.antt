use Rattle.std.proofs.Common.{map, take}
use Rattle.chip.specs.Chip.{erase}
use Rattle.chip.specs.RunCode.{Ran}
use Rattle.execution.proofs.erase.erase_blocks.Given as goal

abbrev pub invariant-loop-b : goal.invariant-loop-b
invariant-loop-b l = Ran l.geometry l.torn (map erase (take l.b-index l.b-items)) l.initial.reached l.reached l.initial.image l.image
