use mathlib.Core.Path.{ap}
use Prim.Native.Nat.{ℕ}
use lib.Bits.{bit_xor}
use Rattle.orders.specs.Sums.{bit_steps, byte_step}
use Rattle.orders.proofs.SumLaws.{stepped}
use Rattle.orders.proofs.sum.byte_step.Goals as goal

pub loop-init : goal.loop-init
unfolding byte_step
loop-init c = ap (λ (b : ℕ). bit_steps 8 (bit_xor c.args.c b)) c.from.ensures

pub loop-preserved : goal.loop-preserved
loop-preserved c = stepped _ _ c.loop.counter _ c.loop-test.true c.bit_step-x.ensures c.loop.invariant
