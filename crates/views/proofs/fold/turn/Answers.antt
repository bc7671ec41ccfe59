use mathlib.Core.Path.{refl}
use borrow.Author.Tests.{eq-eqb, ne_eqb}
use Rattle.views.proofs.fold.turn.Goals as goal

pub returns-then-u-node : goal.returns-then-u-node
returns-then-u-node c = rw (eq-eqb _ _ c.if-u-node.true) c.apply.ensures

pub returns-else-u-node : goal.returns-else-u-node
returns-else-u-node c = rw (ne_eqb _ _ c.if-u-node.false) (record { is = refl; room = c.requires.2; keys = c.requires.0; values = c.requires.1 })
