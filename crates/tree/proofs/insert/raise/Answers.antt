use native.Mathlib.Omega.{arith}
use Prim.Native.Nat.{◌+◌}
use lib.ListN.{drop}
use Rattle.views.specs.NodeCode.{entries_of}
use Rattle.tree.specs.Tree.{first_key}
use Rattle.tree.specs.InsertCode.{root_entries}
use Rattle.tree.proofs.InsertCodeLaws.{written_node, written_raise}
use borrow.Author.Rules.{rules}
use Rattle.tree.proofs.insert.raise.Goals as goal

pub returns : goal.returns
returns c = let es = entries_of c.args.n in let used = c.halve-used.result in (
  written_raise c.args.level c.args.low c.args.high es c.args.count used (used + c.put_node.result) _ _ _
      c.halve-used.ensures.0
      (written_node 0 (c.args.level + 1) (root_entries c.args.low (first_key 0 (drop 9 es)) c.args.high) c.pair-root.result used (used + c.put_node.result) _ _
      (rw (← c.middle-key.ensures) c.pair-root.ensures.0) c.put_node.ensures.0 (omega (arith, c.put_node.ensures.1)) (search rules))
      (omega (arith, c.halve-used.ensures.1)),
  omega (arith, c.halve-used.ensures.1, c.put_node.ensures.1, c.pair-root.ensures.1),
)
