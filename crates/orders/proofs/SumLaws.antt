-- The CRC-32 bit by bit. Assumes nothing.
use mathlib.Core.Path.{◌≡◌, sym, ap, ◌∙◌}
use Prim.Native.Nat.{ℕ, suc, ◌+◌, ◌-◌, ◌<◌}
use native.Mathlib.Omega.{arith}
use Rattle.orders.specs.Sums.{bit_step, bit_steps}

-- the bit at index i of 8
pub stepped : (x y i c : ℕ) → i < 8 → y ≡ bit_step x → bit_steps (8 - i) x ≡ c → bit_steps (8 - (i + 1)) y ≡ c
stepped x y i c h e same =
    let f : 8 - i ≡ suc (8 - (i + 1)) = omega arith in
    ap (bit_steps (8 - (i + 1))) e ∙ ap (λ (k : ℕ). bit_steps k x) (sym f) ∙ same
