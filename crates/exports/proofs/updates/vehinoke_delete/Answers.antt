use Rattle.exports.proofs.CallLaws.{deleted}
use Rattle.exports.proofs.updates.vehinoke_delete.Goals as goal

pub returns : goal.returns
returns c = deleted c.args.numbers.now c.args.free.now c.load_free-n.result c.load_free-n.ensures c.args.key c.args.buffer.now c.args.lens.now c.args.slots.now c.args.image.now
    c.delete_lent-u.result _ _ _ _ c.give.ensures.0 c.give.ensures.1 c.give.ensures.2 c.delete_lent-u.ensures
