use borrow.Author.Tests.{le-leb, lt-leb}
use Rattle.views.specs.WellCode.{well_stored}
use Rattle.views.proofs.well.is_well.Goals as goal

pub returns-then-lens-number-gt4 : goal.returns-then-lens-number-gt4
unfolding well_stored
returns-then-lens-number-gt4 c = rw (lt-leb _ _ c.if-lens-number-gt4.true)

pub returns : goal.returns
unfolding well_stored
returns c = rw (le-leb _ _ c.if-lens-number-gt4.false, ← c.list_view-f.ensures.is) c.is_whole.ensures
