use Rattle.store.proofs.update.delete_lent.Goals as goal

pub returns : goal.returns
returns c erases = rw c.parts_of.ensures (c.delete_tested-given.ensures erases)
