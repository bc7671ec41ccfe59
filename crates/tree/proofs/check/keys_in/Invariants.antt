use mathlib.Core.Path.{◌≡◌}
use Rattle.tree.specs.Step6.{keys_in}
use Rattle.tree.specs.FindCode.{entries_from}
use Rattle.tree.proofs.check.keys_in.Given as goal

abbrev pub invariant-loop-i : goal.invariant-loop-i
invariant-loop-i l = keys_in l.lo l.hi (entries_from l.n.len l.i l.n.keys l.n.values) ≡ keys_in l.lo l.hi (entries_from l.n.len 0 l.n.keys l.n.values)
