use mathlib.Core.Path.{◌≡◌}
use mathlib.Core.Bool.{true}
use Prim.Native.Nat.{ℕ, ◌<◌, ◌≤◌}
use Rattle.chip.specs.Chip.{pages_of}
use Rattle.views.specs.WellCode.{well_stored}
use Rattle.views.proofs.well.all_well.Given as goal

abbrev pub invariant-loop-n : goal.invariant-loop-n
invariant-loop-n l = (l.n ≤ l.nodes.limit)
    × ((k : ℕ) → l.n ≤ k → k < l.nodes.limit → well_stored l.nodes.geometry l.nodes.limit (pages_of l.nodes.geometry l.nodes.image.now) l.nodes.lens.now l.nodes.slots.now k ≡ true)
