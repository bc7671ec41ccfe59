use Rattle.exports.proofs.CallLaws.{committed}
use Rattle.exports.proofs.writes.vehinoke_commit.Goals as goal

pub returns : goal.returns
returns c = committed c.args.numbers.now _ c.load-n.result c.load-n.ensures c.args.allowance c.args.torn.now c.args.buffer.now c.args.lens.now c.args.slots.now c.args.erases.now c.args.image.now
    c.commit_lent-w.result _ _ _ _ _ _ _ c.give.ensures c.commit_lent-w.ensures
