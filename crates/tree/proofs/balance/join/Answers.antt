use Rattle.tree.proofs.BalanceLaws.{join_pushes}
use Rattle.tree.proofs.balance.join.Goals as goal

pub returns : goal.returns
returns c = (
  join_pushes c.args.pair c.args.y c.put_entries.ensures.1 c.args.count c.args.buffer.now _ _ _ c.put_entries.ensures.0 (rw c.unit_of.ensures at c.push_unit.ensures.0) c.push_unit.ensures.1
      (rw c.unit_of-2.ensures at c.push_unit-2.ensures.0) c.push_unit-2.ensures.1 c.requires.1,
  c.put_in.ensures,
)
