-- CRC-32 as zip has it: the polynomial EDB88320 reflected, start FFFFFFFF, complement at the end.
use Rattle.std.specs.Prelude.{cond, ℕ, zero, suc, ◌/◌, ◌%◌, eqb}
use mathlib.Core.List.{List, foldl}
use Rattle.std.specs.Int.Bits.{bit_xor}

-- one bit: the remainder halved, and the polynomial added where the bit that falls out is 1
abbrev pub bit_step : ℕ → ℕ
bit_step c = cond (eqb (c % 2) 1) (bit_xor (c / 2) 3988292384) (c / 2)

-- k bits
abbrev pub bit_steps : ℕ → ℕ → ℕ
bit_steps zero c = c
bit_steps (suc k) c = bit_steps k (bit_step c)

-- one byte
unfoldable pub byte_step : ℕ → ℕ → ℕ
byte_step c b = bit_steps 8 (bit_xor c b)

-- the CRC-32 of bytes
abbrev pub sum_of : List ℕ → ℕ
sum_of bs = bit_xor (foldl byte_step 4294967295 bs) 4294967295
