use Rattle.store.proofs.step.updated.Goals as goal

pub returns : goal.returns
returns c = rw (c.nothing-ops.ensures, c.told-answer.ensures)
