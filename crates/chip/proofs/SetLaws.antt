-- Sets as bits: how many members, the first one, one member more. Assumes nothing.
use Rattle.std.proofs.Common.{◌≡◌, ℕ, zero, suc, ◌+◌, ◌*◌, ◌%◌, ◌^◌, ◌<◌, ◌≤◌, Bool, true, false, cond, List, [], ◌∷◌, ◌++◌, length, get_or, take, sym, refl, ap, ◌∙◌, ap₂, mul_assoc, pow-suc, zero-add, zero-mul, add-one, arith, length-take-le, take-suc, shl_exact}
use lib.Arith.{digits_mod, digits_div}
use lib.Bits.{bit_or, or_shifted_r}
use lib.Count.{ones, ones_step, count_trailing_zeros, under}
use Rattle.lists.specs.Lists.{bit, count, first}
use Rattle.lists.proofs.Tests.{cases}
use Rattle.chip.specs.SetCode.{set_of}

bit_lt : (b : Bool) → bit b < 2
bit_lt true = omega arith
bit_lt false = omega arith

under_bit : (b : Bool) (t : ℕ) → under (bit b) t ≡ cond b 0 (suc t)
under_bit true t = refl
under_bit false t = refl

module _ {A : Type 0} (p : A → Bool) where
  pub set_lt : (xs : List A) → set_of p xs < 2 ^ length xs
  unfolding set_of
  set_lt [] = omega arith
  set_lt (x ∷ xs) = omega (arith, set_lt xs, bit_lt (p x), pow-suc 2 (length xs))

  -- one element more, on top
  pub set_top : (xs : List A) (x : A) → set_of p (xs ++ (x ∷ [])) ≡ bit (p x) * 2 ^ length xs + set_of p xs
  unfolding set_of
  set_top [] x = omega arith
  set_top (y ∷ xs) x =
      omega (
        arith,
        set_top xs x,
        pow-suc 2 (length xs),
        ap (λ (n : ℕ). bit (p x) * n) (pow-suc 2 (length xs)),
        mul_assoc (bit (p x)) (2 ^ length xs) 2,
      )

  -- the ones are the members
  pub ones_set : (xs : List A) → ones (set_of p xs) ≡ count p xs
  unfolding set_of ones
  ones_set [] = refl
  ones_set (x ∷ xs) =
      ones_step (set_of p xs * 2 + bit (p x))
      ∙ ap₂ (λ (a b : ℕ). a + ones b) (digits_mod (set_of p xs) (bit_lt (p x))) (digits_div (set_of p xs) (bit_lt (p x)))
      ∙ ap (λ (n : ℕ). bit (p x) + n) (ones_set xs)

  -- the trailing zeros of a set that is not empty, in m digits, lead to the first member
  pub trailing_set : (m : ℕ) (xs : List A) → length xs ≤ m → (set_of p xs ≡ 0 → ⊥) → count_trailing_zeros m (set_of p xs) ≡ first p xs
  unfolding set_of count_trailing_zeros
  trailing_set m [] l z = absurd (z refl)
  trailing_set zero (x ∷ xs) l z = absurd (omega arith)
  trailing_set (suc m) (x ∷ xs) l z =
      ap₂ (λ (a b : ℕ). under a (count_trailing_zeros m b)) (digits_mod (set_of p xs) (bit_lt (p x))) (digits_div (set_of p xs) (bit_lt (p x)))
      ∙ under_bit (p x) (count_trailing_zeros m (set_of p xs))
      ∙ cases (p x) (λ t. rw t) (λ t. rw t (ap suc (trailing_set m xs (omega arith) (λ e. z (rw (t, e))))))

  -- of an empty set there is none
  pub first_none : (xs : List A) → set_of p xs ≡ 0 → first p xs ≡ length xs
  unfolding set_of
  first_none [] e = refl
  first_none (x ∷ xs) e =
      cases (p x) (λ t. absurd (omega (arith, ap bit t))) (λ t. rw t (ap suc (first_none xs (omega arith))))

  -- a turn of a loop over the elements that puts index i in, and one that does not
  module _ (xs : List A) (d : A) (i r : ℕ) (h : i < length xs) (e : r ≡ set_of p (take i xs)) where
    len : length (take i xs) ≡ i
    len = length-take-le i xs (omega arith)

    on_top : bit (p (get_or xs i d)) * 2 ^ i + r ≡ set_of p (take (i + 1) xs)
    on_top =
        ap₂ (λ (n s : ℕ). bit (p (get_or xs i d)) * 2 ^ n + s) (sym len) e
        ∙ sym (set_top (take i xs) (get_or xs i d))
        ∙ ap (set_of p) (sym (take-suc xs i d h))
        ∙ ap (λ (n : ℕ). set_of p (take n xs)) (sym (add-one i))

    pub set_more : i < 64 → p (get_or xs i d) ≡ true → bit_or r ((1 * 2 ^ i) % 2 ^ 64) ≡ set_of p (take (i + 1) xs)
    set_more l t =
        let s = set_lt (take i xs) in
        let b : set_of p (take i xs) < 2 ^ i = (rw len at s) in
        ap (bit_or r) (shl_exact 1 i 64 (omega arith) (omega arith))
        ∙ or_shifted_r 1 i r (rw e b)
        ∙ ap (λ (b : Bool). bit b * 2 ^ i + r) (sym t)
        ∙ on_top

    pub set_same : p (get_or xs i d) ≡ false → r ≡ set_of p (take (i + 1) xs)
    set_same t =
        sym (zero-add r) ∙ ap (λ (n : ℕ). n + r) (sym (zero-mul (2 ^ i))) ∙ ap (λ (b : Bool). bit b * 2 ^ i + r) (sym t) ∙ on_top
