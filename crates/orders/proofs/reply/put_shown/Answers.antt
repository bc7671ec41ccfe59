use borrow.Author.Rules.{rules}
use Rattle.orders.proofs.ReplyLaws.{length_bytes}
use Rattle.orders.proofs.reply.put_shown.Goals as goal

pub put_feed-requires : goal.put_feed-requires
put_feed-requires c = let k = length_bytes c.args.bytes.now in
    search rules
