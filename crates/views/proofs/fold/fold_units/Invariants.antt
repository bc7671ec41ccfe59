use mathlib.Core.Path.{◌≡◌}
use Prim.Native.Nat.{◌-◌, ◌≤◌}
use lib.ListN.{length}
use Rattle.views.specs.FoldCode.{view_in}
use Rattle.views.proofs.FoldLaws.{Left}
use Rattle.views.proofs.fold.fold_units.Given as goal

abbrev pub invariant-loop-i : goal.invariant-loop-i
invariant-loop-i l = (l.i ≤ l.count) × (length l.keys ≡ 17) × (length l.values ≡ 17) × (l.g.len ≤ 16) × Left l.limit l.node l.count l.units (view_in l.initial.g l.initial.keys l.initial.values) l.i (view_in l.g l.keys l.values)

abbrev pub decreases-loop-i : goal.decreases-loop-i
decreases-loop-i l = l.count - l.i
