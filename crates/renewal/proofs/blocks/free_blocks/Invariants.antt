use mathlib.Core.Path.{◌≡◌}
use mathlib.Core.List.{◌++◌}
use Prim.Native.Nat.{◌-◌, ◌≤◌}
use lib.ListN.{length, take}
use Rattle.lists.specs.Lists.{filter}
use Rattle.chip.specs.Chip.{pages_of}
use Rattle.journal.specs.Plan.{count_from, wholly_free}
use Rattle.journal.specs.Rebuild.{free_blocks}
use Rattle.renewal.proofs.blocks.free_blocks.Given as goal

abbrev pub invariant-loop-b : goal.invariant-loop-b
invariant-loop-b l = (l.n ≤ l.b) × (length l.ring ≡ 32)
    × (take l.n l.ring ++ filter (wholly_free l.geometry (pages_of l.geometry l.image)) (count_from l.b (l.blocks - l.b)) ≡ free_blocks l.geometry l.blocks (pages_of l.geometry l.image))
