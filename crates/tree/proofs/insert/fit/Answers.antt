use native.Mathlib.Omega.{arith}
use Rattle.pages.specs.declared.unit.Update.TheVariants.{Insert}
use Rattle.views.specs.Groups.{unit_for}
use Rattle.tree.proofs.PushLaws.{written_one}
use Rattle.tree.proofs.InsertCodeLaws.{fits_none, fits_made}
use Rattle.tree.proofs.insert.fit.Goals as goal
use Rattle.tree.proofs.insert.fit.Goals.{then-count-ge960-via-then-count-ge960, then-count-ge960-via-else-count-ge960+then-node-ge65536}

pub returns-then-count-ge960 : goal.returns-then-count-ge960
returns-then-count-ge960 c = fits_none c.args.node c.args.key c.args.value c.args.count c.args.buffer.now c.stop.result c.requires c.stop.ensures
    (elim c.then-count-ge960.branch [
      | then-count-ge960-via-then-count-ge960 w ↦ λ p q. omega arith
      | then-count-ge960-via-else-count-ge960+then-node-ge65536 w ↦ λ p q. omega arith
    ])

pub returns : goal.returns
returns c = let u = unit_for c.args.node (Insert c.args.key c.args.value) in
    fits_made c.args.node c.args.key c.args.value c.args.count c.args.buffer.now _ c.stop-2.result (omega (arith, c.if-count-ge960.false))
    (written_one u c.args.count c.args.buffer.now _ (rw c.unit_of.ensures at c.push_unit.ensures.0) c.push_unit.ensures.1) c.stop-2.ensures
