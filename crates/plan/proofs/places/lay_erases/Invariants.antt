use mathlib.Core.Path.{◌≡◌}
use mathlib.Core.List.{◌++◌}
use Prim.Native.Nat.{◌≤◌}
use lib.ListN.{length, take, drop}
use Rattle.chip.specs.Chip.{pages_of}
use Rattle.plan.specs.PlacesCode.{erases_from}
use Rattle.plan.proofs.places.lay_erases.Given as goal

abbrev pub invariant-loop-b : goal.invariant-loop-b
invariant-loop-b l = (l.n ≤ l.b-index) × (length l.erased ≡ 32)
    × (take l.n l.erased ++ erases_from l.geometry (pages_of l.geometry l.image) l.left (drop l.b-index (take l.width l.ring)) ≡ erases_from l.geometry (pages_of l.geometry l.image) l.reach (take l.width l.ring))
