-- Noise written byte by byte. Assumes nothing.
use mathlib.Core.Path.{◌≡◌, sym, ap, ◌∙◌}
use mathlib.Core.List.{List, [], ◌∷◌, ◌++◌, append_assoc}
use Prim.Native.Nat.{ℕ, suc, ◌+◌, ◌-◌, ◌<◌}
use native.Mathlib.Omega.{arith}
use native.Mathlib.Numerals.{add-one}
use lib.ListN.{length, take, set, length-set}
use lib.Seq.{take-suc-set}
use Rattle.orders.specs.Noises.{next_number, noise_byte, noise_of}

-- i bytes of s are the noise of a seed, and x is the number behind them; k bytes are made in all
pub record Making (s : List ℕ) (seed k x i : ℕ) : Type 0 where
  pub size : length s ≡ k
  pub same : take i s ++ noise_of x (k - i) ≡ noise_of seed k

one_more : (x k i : ℕ) → i < k → noise_of x (k - i) ≡ noise_byte (next_number x) ∷ noise_of (next_number x) (k - (i + 1))
one_more x k i h =
    let e : k - i ≡ suc (k - (i + 1)) = omega arith in ap (noise_of x) e

pub makes : (s : List ℕ) (seed k x i y b : ℕ) → Making s seed k x i → i < k → y ≡ next_number x → b ≡ noise_byte y
    → Making (set s i b) seed k y (i + 1)
makes s seed k x i y b m h e f =
    let n = m.size in
    record {
      size = length-set s i b ∙ m.size;
      same =
          ap (λ (j : ℕ). take j (set s i b) ++ noise_of y (k - (i + 1))) (add-one i)
          ∙ ap (λ (t : List ℕ). t ++ noise_of y (k - (i + 1))) (take-suc-set s i b (omega arith))
          ∙ append_assoc (take i s) (b ∷ []) (noise_of y (k - (i + 1)))
          ∙ ap (λ (c : ℕ). take i s ++ (c ∷ noise_of y (k - (i + 1)))) f
          ∙ ap (λ (z : ℕ). take i s ++ (noise_byte z ∷ noise_of z (k - (i + 1)))) e
          ∙ ap (λ (t : List ℕ). take i s ++ t) (sym (one_more x k i h))
          ∙ m.same;
    }
