use Rattle.std.proofs.Common.{◌≡◌, ◌*◌, ◌++◌, drop}
use Rattle.lists.specs.Lists.{repeat}
use Rattle.chip.specs.Page.{torn_page}
use Rattle.chip.proofs.block.fill_torn.Given as goal

abbrev pub invariant-loop-i : goal.invariant-loop-i
invariant-loop-i l = l.block ≡ repeat l.i (torn_page l.geometry l.torn) ++ drop (l.i * l.size) l.initial.block
