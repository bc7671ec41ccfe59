use Rattle.store.proofs.ending.quiet.Goals as goal

pub returns : goal.returns
returns c = rw c.nothing-ops.ensures
