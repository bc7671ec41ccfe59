use Rattle.exports.proofs.CallLaws.{looked}
use Rattle.exports.proofs.finds.vehinoke_look_up.Goals as goal

pub returns : goal.returns
returns c = looked c.args.numbers.now _ c.load-n.result c.load-n.ensures c.args.key c.args.buffer.now c.args.lens.now c.args.slots.now c.args.image.now
    c.look_up_lent.result c.look_told-t.result c.look_told-t.ensures c.look_up_lent.ensures
