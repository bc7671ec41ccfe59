use Rattle.std.proofs.Common.{arith}
use Rattle.frames.proofs.Digits.{fits}
use Rattle.frames.proofs.frame.value_of.Goals as goal

pub overflow_mul-v : goal.overflow_mul-v
overflow_mul-v c = omega (arith, fits _ _ _ c.loop-byte.invariant)

pub overflow_add-v : goal.overflow_add-v
overflow_add-v c = omega (arith, fits _ _ _ c.loop-byte.invariant, c.in_ok-v.ensures)
