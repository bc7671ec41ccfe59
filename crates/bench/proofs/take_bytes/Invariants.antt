use lib.ListN.{take}
use Rattle.bench.specs.Input.{TakesIn}
use Rattle.bench.proofs.take_bytes.Given as goal

abbrev pub invariant-loop-byte : goal.invariant-loop-byte
invariant-loop-byte g l = TakesIn l.torn (take l.byte-index l.bytes) l.initial.bench.line l.initial.bench.state l.initial.image l.bench.line l.bench.state l.image
