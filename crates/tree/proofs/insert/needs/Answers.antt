use borrow.Author.Tests.{le-leb, lt-leb, eq-eqb, ne_eqb}
use Rattle.tree.proofs.insert.needs.Goals as goal

pub returns-then-len-le16 : goal.returns-then-len-le16
returns-then-len-le16 c = rw (le-leb c.args.len 16 c.if-len-le16.true)

pub returns-then-node-eq0 : goal.returns-then-node-eq0
returns-then-node-eq0 c = rw (lt-leb c.args.len 16 c.if-len-le16.false, eq-eqb c.args.node 0 c.if-node-eq0.true)

pub returns-else-node-eq0 : goal.returns-else-node-eq0
returns-else-node-eq0 c = rw (lt-leb c.args.len 16 c.if-len-le16.false, ne_eqb c.args.node 0 c.if-node-eq0.false)
