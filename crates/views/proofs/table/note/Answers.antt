use mathlib.Core.Logic.{inl, inr}
use Rattle.views.proofs.table.note.Goals as goal

pub returns-in-Insert : goal.returns-in-Insert
returns-in-Insert c = elim c.in-Insert.is [ inl h ↦ rw h.2 c.join.ensures | inr h ↦ rw h.1 c.join.ensures ]

pub returns-in-Reset : goal.returns-in-Reset
returns-in-Reset c = rw c.in-Reset.is c.begin.ensures
