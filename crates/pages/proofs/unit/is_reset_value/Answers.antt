use borrow.Author.Tests.{le-leb, lt-leb}
use Rattle.pages.specs.Units.{is_reset_value}
use Rattle.pages.proofs.unit.is_reset_value.Goals as goal

pub returns-then-value-le3 : goal.returns-then-value-le3
unfolding is_reset_value
returns-then-value-le3 c = search (le-leb, lt-leb)

pub returns-else-value-le3 : goal.returns-else-value-le3
unfolding is_reset_value
returns-else-value-le3 c = search (le-leb, lt-leb)
