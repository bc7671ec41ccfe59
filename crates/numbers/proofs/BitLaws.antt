-- Sets as bits: one element changed, and a set as the elements before an index and those from it on. Assumes nothing.
use mathlib.Core.Path.{◌≡◌, refl, sym, ap, ap₂, ◌∙◌}
use mathlib.Core.Bool.{Bool, true, false}
use mathlib.Core.List.{List, [], ◌∷◌}
use Prim.Native.Nat.{ℕ, zero, suc, ◌+◌, ◌*◌, ◌/◌, ◌%◌, ◌^◌, ◌-◌, ◌<◌, max}
use native.Mathlib.Nat.{pow-suc, mul_assoc, zero-add}
use native.Mathlib.Omega.{arith}
use lib.Arith.{digits_mod, digits_div}
use lib.Bits.{bit_or, or_step, or_zero_r}
use lib.Count.{ones}
use lib.ListN.{length, take, drop, get_or, set, take-append-drop}
use lib.Pow.{shl_exact}
use Rattle.lists.specs.Lists.{bit, count, first}
use Rattle.lists.proofs.Filters.{bit_most, count_append}
use Rattle.lists.proofs.Tests.{cases}
use Rattle.chip.specs.SetCode.{set_of}
use Rattle.chip.proofs.SetLaws.{ones_set}

-- the greater of a bit and 1, and of a bit and 0
max_one : (b : Bool) → max (bit b) 1 ≡ 1
max_one true = refl
max_one false = refl

max_none : (b : Bool) → max (bit b) 0 ≡ bit b
max_none true = refl
max_none false = refl

-- one power more
twice : (a i : ℕ) → a * 2 ^ suc i ≡ a * 2 ^ i * 2
twice a i = ap (λ (n : ℕ). a * n) (pow-suc 2 i) ∙ sym (mul_assoc a (2 ^ i) 2)

-- the bit of index i in 64 bits, as the code makes it
pub bit_at : (i : ℕ) → i < 64 → (1 * 2 ^ i) % 2 ^ 64 ≡ 2 ^ i
bit_at i h = shl_exact 1 i 64 (omega arith) (omega arith) ∙ omega arith

module _ {A : Type 0} (p : A → Bool) where
  -- one element changed, in numbers
  pub set_one : (xs : List A) (i : ℕ) (y d : A) → i < length xs
      → set_of p (set xs i y) + bit (p (get_or xs i d)) * 2 ^ i ≡ set_of p xs + bit (p y) * 2 ^ i
  unfolding set_of
  set_one [] i y d h = absurd (omega arith)
  set_one (x ∷ xs) zero y d h = omega arith
  set_one (x ∷ xs) (suc i) y d h =
      omega (arith, set_one xs i y d (omega arith), twice (bit (p (get_or xs i d))) i, twice (bit (p y)) i)

  -- an element that passes, put at an index
  pub or_set : (xs : List A) (i : ℕ) (y : A) → i < length xs → p y ≡ true → bit_or (set_of p xs) (2 ^ i) ≡ set_of p (set xs i y)
  unfolding set_of
  or_set [] i y h t = absurd (omega arith)
  or_set (x ∷ xs) zero y h t =
      let s = set_of p xs in
      or_step (s * 2 + bit (p x)) 1
      ∙ ap₂ (λ (a b : ℕ). bit_or a 0 * 2 + max b 1) (digits_div s (omega (arith, bit_most (p x)))) (digits_mod s (omega (arith, bit_most (p x))))
      ∙ ap₂ (λ (a b : ℕ). a * 2 + b) (or_zero_r s) (max_one (p x) ∙ sym (ap bit t))
  or_set (x ∷ xs) (suc i) y h t =
      let s = set_of p xs in
      let half : 2 ^ suc i / 2 ≡ 2 ^ i = omega (arith, pow-suc 2 i) in
      let even : 2 ^ suc i % 2 ≡ 0 = omega (arith, pow-suc 2 i) in
      or_step (s * 2 + bit (p x)) (2 ^ suc i)
      ∙ ap₂ (λ (a b : ℕ). bit_or a b * 2 + max ((s * 2 + bit (p x)) % 2) (2 ^ suc i % 2)) (digits_div s (omega (arith, bit_most (p x)))) half
      ∙ ap₂ (λ (a b : ℕ). bit_or s (2 ^ i) * 2 + max a b) (digits_mod s (omega (arith, bit_most (p x)))) even
      ∙ ap₂ (λ (a b : ℕ). a * 2 + b) (or_set xs i y (omega arith) t) (max_none (p x))

  -- an element that does not pass, put at an index
  pub clear_set : (xs : List A) (i : ℕ) (y z : A) → i < length xs → p y ≡ true → p z ≡ false
      → bit_or (set_of p xs) (2 ^ i) - 2 ^ i ≡ set_of p (set xs i z)
  clear_set xs i y z h t f =
      let one : bit (p y) * 2 ^ i ≡ 2 ^ i = ap (λ (b : Bool). bit b * 2 ^ i) t ∙ omega arith in
      let none : bit (p z) * 2 ^ i ≡ 0 = ap (λ (b : Bool). bit b * 2 ^ i) f ∙ omega arith in
      omega (arith, or_set xs i y h t, set_one xs i y y h, set_one xs i z y h)

  -- ---- no member
  pub set_none : (xs : List A) → set_of p xs ≡ 0 → count p xs ≡ 0
  unfolding ones
  set_none xs e = sym (ones_set p xs) ∙ ap ones e

  pub none_set : (xs : List A) → count p xs ≡ 0 → set_of p xs ≡ 0
  unfolding set_of
  none_set [] e = refl
  none_set (x ∷ xs) e = omega (arith, none_set xs (omega arith))

  -- ---- the first k elements, and the others
  pub count_parts : (k : ℕ) (xs : List A) → count p xs ≡ count p (take k xs) + count p (drop k xs)
  count_parts k xs = ap (count p) (sym (take-append-drop k xs)) ∙ count_append p (take k xs) (drop k xs)

  -- a member among the first k: the first of them is the first of all
  pub first_here : (k : ℕ) (xs : List A) → (set_of p (take k xs) ≡ 0 → ⊥) → first p (take k xs) ≡ first p xs
  unfolding set_of
  first_here zero xs z = absurd (z refl)
  first_here (suc k) [] z = refl
  first_here (suc k) (x ∷ xs) z =
      cases (p x) (λ t. rw t) (λ t. rw t (ap suc (first_here k xs (λ e. z (rw (t, e))))))

  -- no member among the first k
  pub first_past : (k : ℕ) (xs : List A) → set_of p (take k xs) ≡ 0 → 0 < count p xs → first p xs ≡ k + first p (drop k xs)
  unfolding set_of
  first_past zero xs e h = sym (zero-add (first p xs))
  first_past (suc k) [] e h = absurd (omega arith)
  first_past (suc k) (x ∷ xs) e h =
      cases (p x)
      (λ t. absurd (omega (arith, ap bit t)))
      (λ t. rw t (omega (arith, first_past k xs (omega (arith, ap bit t)) (omega (arith, ap bit t)))))
