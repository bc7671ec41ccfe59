use Rattle.store.proofs.ending.cut.Goals as goal

pub returns : goal.returns
returns c = rw c.turned_off-off.ensures
