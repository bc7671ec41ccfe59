use lib.ListN.{length}
use Rattle.orders.proofs.NoiseLaws.{Making}
use Rattle.orders.proofs.noise.fill.Given as goal

abbrev pub invariant-loop-byte : goal.invariant-loop-byte
invariant-loop-byte l = Making l.s l.seed (length l.initial.s) l.x l.byte-index
