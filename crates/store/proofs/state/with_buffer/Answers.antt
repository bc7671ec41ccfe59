use Rattle.store.proofs.state.with_buffer.Goals as goal

pub returns : goal.returns
returns c = rw c.join-s.ensures
