use mathlib.Core.Path.{◌≡◌}
use Rattle.tree.specs.Tree.{below}
use Rattle.tree.specs.FindCode.{entries_from}
use Rattle.tree.proofs.find.child.Given as goal

abbrev pub invariant-loop-i : goal.invariant-loop-i
invariant-loop-i l = below l.key l.found (entries_from l.n.len l.i l.n.keys l.n.values) ≡ below l.key 0 (entries_from l.n.len 0 l.n.keys l.n.values)
