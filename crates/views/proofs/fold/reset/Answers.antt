use native.Mathlib.Omega.{arith}
use borrow.Author.Tests.{eq-eqb, ne_eqb}
use Rattle.views.proofs.fold.reset.Goals as goal

pub returns-then-value-eq255 : goal.returns-then-value-eq255
returns-then-value-eq255 c = record { is = λ ks vs. rw (eq-eqb _ 255 c.if-value-eq255.true); room = omega arith }

pub returns : goal.returns
returns c = record { is = λ ks vs. rw (ne_eqb _ 255 c.if-value-eq255.false); room = omega arith }
