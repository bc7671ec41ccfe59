use borrow.Author.Rules.{rules}
use mathlib.Core.Path.{◌≡◌}
use lib.ListN.{length}
use Rattle.orders.proofs.ReplyLaws.{puts, put_all}
use Rattle.orders.proofs.reply.put_bytes.Goals as goal

pub loop-byte-preserved : goal.loop-byte-preserved
loop-byte-preserved c = let same : length c.put_number-end.new.out ≡ length c.loop-byte.out = search rules in
    puts _ _ _ _ _ _ _ _ _ c.loop-byte.invariant c.loop-byte-test.true c.from.ensures c.put_number-end.ensures same

pub returns : goal.returns
returns c = put_all _ _ _ _ _ _ c.loop-byte.invariant c.loop-byte-test.false
