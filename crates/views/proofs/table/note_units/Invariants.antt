use Prim.Native.Nat.{◌≤◌}
use Rattle.views.proofs.TableLaws.{Noting}
use Rattle.views.proofs.table.note_units.Given as goal

abbrev pub invariant-loop-i : goal.invariant-loop-i
invariant-loop-i l = (l.i ≤ l.count) × Noting l.limit l.count l.place l.units l.initial.lens l.initial.slots l.i l.lens l.slots
