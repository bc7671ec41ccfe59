use Rattle.views.proofs.fold.apply.Goals as goal

pub returns-in-Insert : goal.returns-in-Insert
returns-in-Insert c = rw c.in-Insert.is c.insert.ensures

pub returns-in-Delete : goal.returns-in-Delete
returns-in-Delete c = rw c.in-Delete.is c.delete.ensures

pub returns-in-Reset : goal.returns-in-Reset
returns-in-Reset c = rw c.in-Reset.is (record { is = c.reset.ensures.is c.args.keys.now c.args.values.now; room = c.reset.ensures.room; keys = c.requires.0; values = c.requires.1 })
