use Rattle.frames.proofs.Digits.{Reading}
use Rattle.frames.proofs.frame.value_of.Given as goal

abbrev pub invariant-loop-byte : goal.invariant-loop-byte
invariant-loop-byte l = Reading l.s l.v l.byte-index
