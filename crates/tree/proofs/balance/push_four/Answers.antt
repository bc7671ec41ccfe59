use Rattle.tree.proofs.PushLaws.{written_four}
use Rattle.tree.proofs.balance.push_four.Goals as goal

pub returns : goal.returns
returns c = written_four c.args.a c.args.b c.args.c c.args.d c.args.count c.args.buffer.now _ _ _ _
    c.push_unit.ensures.0 c.push_unit.ensures.1 c.push_unit-2.ensures.0 c.push_unit-2.ensures.1
    c.push_unit-3.ensures.0 c.push_unit-3.ensures.1 c.push_unit-4.ensures.0 c.push_unit-4.ensures.1 c.requires.0
