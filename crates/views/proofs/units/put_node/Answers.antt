use native.Mathlib.Omega.{arith}
use Rattle.views.proofs.BufferLaws.{pushed_node}
use borrow.Author.Rules.{rules}
use Rattle.views.proofs.units.put_node.Goals as goal

pub returns : goal.returns
returns c = (pushed_node c.args.number c.args.at c.args.units.now c.args.node _ _ (omega (arith, c.requires.2)) c.put_unit.ensures c.put_entries.ensures.0, search rules, c.put_entries.ensures.1)
