use Rattle.std.proofs.Common.{◌≡◌, map, take}
use Rattle.chip.specs.Chip.{erase}
use Rattle.chip.specs.Erases.{figures_after}
use Rattle.execution.proofs.figures.count_erases.Given as goal

abbrev pub invariant-loop-b : goal.invariant-loop-b
invariant-loop-b l = (l.erases ≡ figures_after (map erase (take l.b-index l.b-items)) l.initial.erases)
