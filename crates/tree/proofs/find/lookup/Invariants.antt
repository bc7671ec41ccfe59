use mathlib.Core.Path.{◌≡◌}
use Rattle.tree.specs.Tree.{lookup}
use Rattle.tree.specs.FindCode.{entries_from}
use Rattle.tree.proofs.find.lookup.Given as goal

abbrev pub invariant-loop-i : goal.invariant-loop-i
invariant-loop-i l = lookup l.key (entries_from l.n.len l.i l.n.keys l.n.values) ≡ lookup l.key (entries_from l.n.len 0 l.n.keys l.n.values)
