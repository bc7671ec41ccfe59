use Rattle.tree.proofs.BalanceLaws.{Passed}
use Rattle.views.specs.NodeCode.{entries_of}
use Rattle.tree.proofs.balance.left_index.Given as goal

abbrev pub invariant-loop-i : goal.invariant-loop-i
invariant-loop-i l = Passed l.key (entries_of l.n) l.i
