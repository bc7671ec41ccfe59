use mathlib.Core.Path.{◌≡◌}
use Prim.Native.Nat.{◌-◌}
use Rattle.orders.specs.Sums.{bit_steps, byte_step}
use Rattle.orders.proofs.sum.byte_step.Given as goal

abbrev pub invariant-loop : goal.invariant-loop
invariant-loop l = bit_steps (8 - l.counter) l.x ≡ byte_step l.c l.byte
