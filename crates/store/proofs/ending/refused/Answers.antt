use Rattle.store.proofs.ending.refused.Goals as goal

pub returns : goal.returns
returns c = rw (c.quiet.ensures, c.turned_off-off.ensures)
