use Rattle.store.proofs.show.show.Goals as goal

pub show-requires : goal.show-requires
show-requires c = c.geometry_of-geometry.ensures.1

pub returns : goal.returns
returns c = (rw c.geometry_of-geometry.ensures.0 at c.show.ensures)
