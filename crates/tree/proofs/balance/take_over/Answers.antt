use Prim.Native.Nat.{◌+◌}
use Rattle.tree.proofs.BalanceLaws.{over_pushes}
use native.Mathlib.Omega.{arith}
use borrow.Author.Rules.{rules}
use Rattle.tree.proofs.balance.take_over.Goals as goal

pub returns : goal.returns
returns c = (
  over_pushes c.args.c c.args.m c.put_node.ensures.2 c.args.count (c.args.count + c.put_node.result) c.args.buffer.now _ _ c.put_node.ensures.0 (omega (arith, c.put_node.ensures.1)) (search rules)
      (rw c.unit_of.ensures at c.push_unit.ensures.0) c.push_unit.ensures.1 c.requires.1,
  c.put_in.ensures,
)
