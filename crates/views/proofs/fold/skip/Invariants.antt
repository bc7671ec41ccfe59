use Prim.Native.Nat.{ℕ, ◌*◌, ◌-◌, ◌<◌, ◌≤◌}
use lib.ListN.{drop, length, take}
use Rattle.views.specs.FoldCode.{IsPassed}
use Rattle.views.proofs.fold.skip.Given as goal

abbrev pub invariant-loop-i : goal.invariant-loop-i
invariant-loop-i l = (l.from ≤ l.i) × (l.i ≤ l.count) × ((k : ℕ) → l.from ≤ k → k < l.i → IsPassed l.limit l.node (take (length l.units - 12 * k) (drop (12 * k) l.units)))
