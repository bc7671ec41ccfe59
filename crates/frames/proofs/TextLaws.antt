-- The digits of a number written one by one. Assumes nothing.
use mathlib.Core.Path.{◌≡◌, refl, sym, ap, ◌∙◌}
use mathlib.Core.List.{List, [], ◌∷◌, ◌++◌, append_assoc, append-nil}
use Prim.Native.Nat.{ℕ, zero, suc, ◌+◌, ◌-◌, ◌*◌, ◌/◌, ◌%◌, ◌^◌, ◌≤◌, ◌<◌}
use native.Mathlib.Omega.{arith}
use native.Mathlib.Numerals.{add-one}
use native.Mathlib.Nat.{pow-suc}
use lib.Pow.{pow-add}
use lib.ListN.{length, take, set, length-set}
use lib.Seq.{take_all, take-suc-set}
use Rattle.frames.specs.Frames.{digit_text, hex_text}

pub powers : (k : ℕ) → 2 ^ (4 * k) ≡ 16 ^ k
powers zero = refl
powers (suc k) =
    let e : 4 * suc k ≡ 4 * k + 4 = omega arith in
    ap (λ (j : ℕ). 2 ^ j) e ∙ pow-add 2 (4 * k) 4 ∙ ap (λ (p : ℕ). p * 16) (powers k) ∙ sym (pow-suc 16 k)

pub length_hex : (n k : ℕ) → length (hex_text n k) ≡ k
length_hex n zero = refl
length_hex n (suc k) = ap suc (length_hex n k)

-- the first i of the k lowest digits of n are written
pub record Writing (n k : ℕ) (out : List ℕ) (i : ℕ) : Type 0 where
  pub size : length out ≡ k
  pub same : take i out ++ hex_text n (k - i) ≡ hex_text n k

pub started : (n : ℕ) (out : List ℕ) → Writing n (length out) out 0
started n out = let z : length out - 0 ≡ length out = omega arith in record { size = refl; same = ap (hex_text n) z }

pub writes : (n k : ℕ) (out : List ℕ) (i d : ℕ) → Writing n k out i → i < k → d ≡ digit_text (n / 2 ^ (4 * (k - 1 - i)) % 16) → Writing n k (set out i d) (i + 1)
writes n k out i d w h e =
    let f : k - i ≡ suc (k - 1 - i) = omega arith in
    let z : k - (i + 1) ≡ k - 1 - i = omega arith in
    let g : d ≡ digit_text (n / 16 ^ (k - 1 - i) % 16) = e ∙ ap (λ (p : ℕ). digit_text (n / p % 16)) (powers (k - 1 - i)) in
    let rest = hex_text n (k - 1 - i) in
    record {
      size = length-set out i d ∙ w.size;
      same =
          ap (λ (j : ℕ). take (i + 1) (set out i d) ++ hex_text n j) z
          ∙ ap (λ (j : ℕ). take j (set out i d) ++ rest) (add-one i)
          ∙ ap (λ (t : List ℕ). t ++ rest) (take-suc-set out i d (omega (arith, w.size)))
          ∙ append_assoc (take i out) (d ∷ []) rest
          ∙ ap (λ (c : ℕ). take i out ++ (c ∷ rest)) g
          ∙ ap (λ (j : ℕ). take i out ++ hex_text n j) (sym f)
          ∙ w.same;
    }

pub written : (n k : ℕ) (out : List ℕ) (i : ℕ) → Writing n k out i → k ≤ i → out ≡ hex_text n k
written n k out i w h =
    let z : k - i ≡ 0 = omega arith in
    sym (take_all i out (omega (arith, w.size))) ∙ sym (append-nil (take i out)) ∙ ap (λ (j : ℕ). take i out ++ hex_text n j) (sym z) ∙ w.same
