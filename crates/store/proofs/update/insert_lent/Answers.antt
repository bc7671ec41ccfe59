use Rattle.store.proofs.update.insert_lent.Goals as goal

pub returns : goal.returns
returns c erases = rw c.parts_of.ensures (c.insert_tested-given.ensures erases)
