use mathlib.Core.Path.{◌≡◌}
use lib.ListN.{length}
use Rattle.views.proofs.BufferLaws.{Pushing}
use Rattle.views.proofs.units.put_entries.Given as goal

abbrev pub invariant-loop-i : goal.invariant-loop-i
invariant-loop-i l = (length l.units ≡ length l.initial.units) × Pushing l.number l.at l.initial.units l.node l.i l.units
    × (length l.node.keys ≡ 17) × (length l.node.values ≡ 17)
