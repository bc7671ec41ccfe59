use Rattle.views.specs.Stored.{stored_list}
use Rattle.renewal.proofs.NodesLaws.{stands_root, stands_freed, stands_untouched}
use Rattle.renewal.proofs.nodes.vacant.Goals as goal

pub returns-then-number-eq0 : goal.returns-then-number-eq0
returns-then-number-eq0 c = stands_root c.reset-node.result c.args.number (stored_list c.args.lens.now c.args.slots.now c.args.number) c.reset-node.ensures.1 c.if-number-eq0.true c.reset-node.ensures.0

pub returns-then-used_slots-gt0 : goal.returns-then-used_slots-gt0
returns-then-used_slots-gt0 c = stands_freed c.reset-node.result c.args.number (stored_list c.args.lens.now c.args.slots.now c.args.number) c.reset-node.ensures.1 c.used_slots.result c.used_slots.ensures.0 c.if-number-eq0.false c.if-used_slots-gt0.true

pub returns : goal.returns
returns c = stands_untouched c.reset-node.result c.args.number (stored_list c.args.lens.now c.args.slots.now c.args.number) c.reset-node.ensures.1 c.used_slots.result c.used_slots.ensures.0 c.if-number-eq0.false c.if-used_slots-gt0.false
