use borrow.Author.Tests.{eq-eqb, ne_eqb}
use Rattle.store.proofs.check.passed.Goals as goal

pub returns-then-voids-eq0 : goal.returns-then-voids-eq0
returns-then-voids-eq0 c = simp (eq-eqb _ _ c.if-voids-eq0.true, c.commit_at-commit.ensures)

pub returns-else-voids-eq0 : goal.returns-else-voids-eq0
returns-else-voids-eq0 c = simp (ne_eqb _ _ c.if-voids-eq0.false, c.commit_at-commit.ensures, c.commit_at.ensures)
