use mathlib.Core.Path.{refl}
use borrow.Author.Tests.{eq-eqb, ne_eqb}
use Rattle.exports.proofs.words.part_in.Goals as goal

pub returns-then-word-eq1 : goal.returns-then-word-eq1
returns-then-word-eq1 c = rw (eq-eqb _ 1 c.if-word-eq1.true) refl

pub returns-else-word-eq1 : goal.returns-else-word-eq1
returns-else-word-eq1 c = rw (ne_eqb _ 1 c.if-word-eq1.false) refl
