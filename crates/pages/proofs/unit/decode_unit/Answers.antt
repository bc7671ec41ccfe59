use borrow.Author.Rules.{rules}
use borrow.Author.Tests.{ne_eqb}
use Rattle.pages.specs.Units.{decode}
use Rattle.pages.proofs.UnitLaws.{decoded, above}
use Rattle.pages.proofs.unit.decode_unit.Goals as goal

pub returns-then-bytes-ne0 : goal.returns-then-bytes-ne0
unfolding decode
returns-then-bytes-ne0 c = search (ne_eqb, rules)

pub returns-then-node-limit : goal.returns-then-node-limit
returns-then-node-limit c = decoded c.args.limit c.args.bytes.now c.read_half-node.result c.if-bytes-ne0.false c.read_half-node.ensures.0 _ _ _
    c.if-node-limit.true c.read_word-key.ensures c.read_word-value.ensures c.decode_kind.ensures

pub returns-else-node-limit : goal.returns-else-node-limit
returns-else-node-limit c = above c.args.limit c.args.bytes.now c.read_half-node.result c.if-bytes-ne0.false c.read_half-node.ensures.0 c.if-node-limit.false
