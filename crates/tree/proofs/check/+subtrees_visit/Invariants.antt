use Prim.Native.Nat.{◌+◌, ◌*◌, ◌-◌}
use Rattle.tree.proofs.check.+subtrees_visit.Given as goal

abbrev pub decreases-subtrees : goal.decreases-subtrees
decreases-subtrees l = 20 * l.level + (18 - l.i)

abbrev pub decreases-visit : goal.decreases-visit
decreases-visit l = 20 * l.level
