use Prim.Native.Nat.{◌+◌}
use Rattle.tree.proofs.BalanceLaws.{merge_pushes}
use native.Mathlib.Omega.{arith}
use borrow.Author.Rules.{rules}
use Rattle.tree.proofs.balance.merge.Goals as goal

pub returns : goal.returns
returns c = record {
  pushed =
      merge_pushes c.args.pair (record { level = c.args.level; len = c.args.x.len; keys = c.args.x.keys; values = c.args.x.values }) c.args.y c.put_node.ensures.2 c.put_entries.ensures.1
      c.args.count (c.args.count + c.put_node.result) c.args.buffer.now _ _ _ _ c.put_node.ensures.0 (omega (arith, c.put_node.ensures.1)) (search rules) c.put_entries.ensures.0
      (rw c.unit_of.ensures at c.push_unit.ensures.0) c.push_unit.ensures.1 (rw c.unit_of-2.ensures at c.push_unit-2.ensures.0) c.push_unit-2.ensures.1 c.requires.2;
  between = _;
  first = c.put_in.ensures;
  second = c.put_in-2.ensures;
}
