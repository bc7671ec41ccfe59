-- Digits read one by one. Assumes nothing.
use mathlib.Core.Path.{◌≡◌, refl, sym, ap, ◌∙◌}
use mathlib.Core.Bool.{Bool, true, false, ◌&&◌}
use mathlib.Core.List.{List, foldl}
use Prim.Native.Nat.{ℕ, ◌+◌, ◌*◌, ◌^◌, ◌≤◌, ◌<◌}
use native.Mathlib.Omega.{arith}
use native.Mathlib.Numerals.{add-one}
use native.Mathlib.Nat.{pow-succ', pow-le-pow_right}
use lib.ListN.{length, drop, get_or, drop_of_length-le}
use lib.Seq.{drop-cons}
use borrow.Author.Tests.{lt-ltb, le-ltb}
use Rattle.std.specs.Prelude.{Some, None}
use Rattle.frames.specs.Frames.{digit_of, is_digit, all_digits, more, value, number_in}

-- the digits from index i on
from : (s : List ℕ) (i : ℕ) → i < length s → all_digits (drop i s) ≡ is_digit (get_or s i 0) && all_digits (drop (i + 1) s)
from s i h = rw (add-one, drop-cons s i 0)

-- i digits of s are read, with the value v
pub record Reading (s : List ℕ) (v i : ℕ) : Type 0 where
  pub small : v < 16 ^ i
  pub digits : all_digits (drop i s) ≡ all_digits s
  pub same : foldl more v (drop i s) ≡ value s

pub started : (s : List ℕ) → Reading s 0 0
started s = record { small = omega arith; digits = refl; same = refl }

more_small : (v i d : ℕ) → v < 16 ^ i → d < 16 → 16 * v + d < 16 ^ (i + 1)
more_small v i d h k = rw (add-one, pow-succ') (omega arith)

-- a digit
pub reads : (s : List ℕ) (v i d : ℕ) → Reading s v i → i < length s → d ≡ digit_of (get_or s i 0) → d < 16 → Reading s (16 * v + d) (i + 1)
reads s v i d r h e k =
    let digit : is_digit (get_or s i 0) ≡ true = lt-ltb (digit_of (get_or s i 0)) 16 (omega arith) in
    let step : foldl more v (drop i s) ≡ foldl more (more v (get_or s i 0)) (drop (i + 1) s) = rw (add-one, drop-cons s i 0) in
    record {
      small = more_small v i d r.small k;
      digits = sym (ap (λ (t : Bool). t && all_digits (drop (i + 1) s)) digit) ∙ sym (from s i h) ∙ r.digits;
      same = ap (λ (x : ℕ). foldl more (16 * v + x) (drop (i + 1) s)) e ∙ sym step ∙ r.same;
    }

-- one more of at most 8 digits fits
pub fits : (s : List ℕ) (v i : ℕ) → Reading s v i → i < 8 → 16 * v + 15 < 4294967296
fits s v i r h =
    let p : 16 ^ i ≤ 16 ^ 7 = pow-le-pow_right {n = 16} (omega arith) {i = i} {j = 7} (omega arith) in omega (arith, r.small)

-- a byte that is no digit
pub stops : (s : List ℕ) (v i : ℕ) → Reading s v i → i < length s → digit_of (get_or s i 0) ≡ 16 → None ≡ number_in s
stops s v i r h e =
    let no_digit : is_digit (get_or s i 0) ≡ false = le-ltb (digit_of (get_or s i 0)) 16 (omega arith) in
    let none : all_digits s ≡ false = sym r.digits ∙ from s i h ∙ ap (λ (t : Bool). t && all_digits (drop (i + 1) s)) no_digit in
    rw none

-- no byte left
pub read : (s : List ℕ) (v i : ℕ) → Reading s v i → length s ≤ i → Some v ≡ number_in s
read s v i r h =
    let all : all_digits s ≡ true = sym r.digits ∙ ap all_digits (drop_of_length-le s h) in
    let same : v ≡ value s = sym (ap (foldl more v) (drop_of_length-le s h)) ∙ r.same in
    rw (all, same)
