use Rattle.std.proofs.Common.{◌≡◌, ◌++◌, take, drop}
use Rattle.chip.specs.Page.{torn_page}
use Rattle.chip.proofs.block.put_torn.Given as goal

abbrev pub invariant-loop-i : goal.invariant-loop-i
invariant-loop-i l = l.page ≡ take l.i (torn_page l.geometry l.torn) ++ drop l.i l.initial.page
