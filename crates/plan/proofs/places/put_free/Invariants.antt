use mathlib.Core.Path.{◌≡◌}
use mathlib.Core.List.{◌++◌}
use Prim.Native.Nat.{◌+◌, ◌-◌, ◌*◌, ◌≤◌}
use lib.ListN.{take}
use Rattle.lists.specs.Lists.{filter}
use Rattle.chip.specs.Chip.{pages_of}
use Rattle.journal.specs.Plan.{count_from, free_at}
use Rattle.plan.specs.PlacesCode.{free_pages}
use Rattle.plan.proofs.places.put_free.Given as goal

abbrev pub invariant-loop-p : goal.invariant-loop-p
invariant-loop-p l = (l.n + l.at * l.geometry.pages ≤ l.p) × (l.n ≤ l.most)
    × (take l.n l.places ++ filter (free_at (pages_of l.geometry l.image)) (count_from l.p (l.at * l.geometry.pages + l.geometry.pages - l.p)) ≡ free_pages l.geometry (pages_of l.geometry l.image) l.at)
