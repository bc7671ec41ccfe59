use native.Mathlib.Omega.{arith}
use Prim.Native.Nat.{◌+◌}
use lib.ListN.{take, drop}
use Rattle.views.specs.NodeCode.{entries_of}
use Rattle.tree.proofs.InsertCodeLaws.{written_node, written_halves}
use borrow.Author.Rules.{rules}
use Rattle.tree.proofs.insert.halve.Goals as goal

pub returns : goal.returns
returns c = let es = entries_of c.args.n in let used = c.args.count + c.put_node.result in (
  written_halves c.args.level c.args.low c.args.high es c.args.count used (used + c.put_node-2.result) _ _ _
      (written_node c.args.low c.args.level (take 9 es) c.lower-first.result c.args.count used _ _ c.lower-first.ensures.0 c.put_node.ensures.0 (omega (arith, c.put_node.ensures.1)) (search rules))
      (written_node c.args.high c.args.level (drop 9 es) c.upper-second.result used (used + c.put_node-2.result) _ _ c.upper-second.ensures.0 c.put_node-2.ensures.0 (omega (arith, c.put_node-2.ensures.1)) (search rules))
      (omega (arith, c.put_node.ensures.1, c.lower-first.ensures.1)),
  omega (arith, c.put_node.ensures.1, c.lower-first.ensures.1, c.put_node-2.ensures.1, c.upper-second.ensures.1),
)
