use Rattle.exports.proofs.CallLaws.{inserted}
use Rattle.exports.proofs.updates.vehinoke_insert.Goals as goal

pub returns : goal.returns
returns c = inserted c.args.numbers.now c.args.free.now c.load_free-n.result c.load_free-n.ensures c.args.key c.args.value c.args.buffer.now c.args.lens.now c.args.slots.now c.args.image.now
    c.insert_lent-u.result _ _ _ _ c.give.ensures.0 c.give.ensures.1 c.give.ensures.2 c.insert_lent-u.ensures
