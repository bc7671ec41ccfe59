use lib.ListN.{length}
use Rattle.frames.proofs.TextLaws.{Writing}
use Rattle.frames.proofs.text.put_hex.Given as goal

abbrev pub invariant-loop-i : goal.invariant-loop-i
invariant-loop-i l = Writing l.n (length l.initial.out) l.out l.i
