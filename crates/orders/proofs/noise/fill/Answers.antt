use Rattle.orders.proofs.NoiseLaws.{makes}
use Rattle.orders.proofs.noise.fill.Goals as goal

pub loop-byte-preserved : goal.loop-byte-preserved
loop-byte-preserved c = makes _ _ _ _ _ _ _ c.loop-byte.invariant c.loop-byte-test.true c.next_number-x.ensures c.noise_byte.ensures
