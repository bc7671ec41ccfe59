use Rattle.tree.proofs.insert.+insert_at.Given as goal

abbrev pub decreases-insert_at : goal.decreases-insert_at
decreases-insert_at l = l.spot.level
