use mathlib.Core.Path.{◌≡◌}
use mathlib.Core.List.{◌++◌}
use Prim.Native.Nat.{◌≤◌}
use lib.ListN.{length, take}
use Rattle.lists.specs.Lists.{flat}
use Rattle.journal.specs.Plan.{pages_in}
use Rattle.plan.proofs.places.put_rest.Given as goal

abbrev pub invariant-loop-i : goal.invariant-loop-i
invariant-loop-i l = (l.n ≤ l.i) × (length l.places ≡ length l.initial.places) × (take l.i l.places ≡ take l.i (take l.n l.initial.places ++ flat (pages_in l.geometry) (take l.width l.ring)))
