-- Noise: byte i is made of x(i + 1), x(0) = seed, x(n + 1) = 1664525 x(n) + 1013904223 mod 2^32.
use Rattle.std.specs.Prelude.{List, [], ◌∷◌, ℕ, zero, suc, ◌+◌, ◌*◌, ◌/◌, ◌%◌}

-- the number after x
abbrev pub next_number : ℕ → ℕ
next_number x = (1664525 * x + 1013904223) % 4294967296

-- bits 16 to 23 of a number
abbrev pub noise_byte : ℕ → ℕ
noise_byte x = x / 65536 % 256

-- as many bytes of noise behind the number x
abbrev pub noise_of : ℕ → ℕ → List ℕ
noise_of x zero = []
noise_of x (suc n) = noise_byte (next_number x) ∷ noise_of (next_number x) n
