use Rattle.pages.specs.Units.{encode}
use Rattle.pages.proofs.unit.encode_unit.Goals as goal

pub returns-in-Insert : goal.returns-in-Insert
unfolding encode
returns-in-Insert c = rw c.in-Insert.is c.fill.ensures

pub returns-in-Delete : goal.returns-in-Delete
unfolding encode
returns-in-Delete c = rw c.in-Delete.is c.fill-in-Delete.ensures

pub returns-in-Reset : goal.returns-in-Reset
unfolding encode
returns-in-Reset c = rw c.in-Reset.is c.fill-in-Reset.ensures
