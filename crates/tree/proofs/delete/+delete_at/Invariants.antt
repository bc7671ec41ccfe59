use Rattle.tree.proofs.delete.+delete_at.Given as goal

abbrev pub decreases-delete_at : goal.decreases-delete_at
decreases-delete_at l = l.level
