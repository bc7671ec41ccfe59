use Rattle.orders.proofs.ReplyLaws.{Bytes}
use Rattle.orders.proofs.reply.put_bytes.Given as goal

abbrev pub invariant-loop-byte : goal.invariant-loop-byte
invariant-loop-byte l = Bytes l.initial.out l.at l.bytes l.out l.end l.byte-index
