-- Laws of tests over lists: any, all and all_below of joined, filtered and sorted lists. Assumes nothing.
use mathlib.Core.Path.{◌≡◌, refl, sym, ap, ◌∙◌}
use mathlib.Core.Bool.{Bool, true, false, ◌||◌}
use mathlib.Core.List.{List, [], ◌∷◌, ◌++◌}
use Prim.Native.Nat.{ℕ, zero, suc, ◌<◌}
use native.Mathlib.Omega.{arith}
use lib.Dec.{eqb}
use borrow.Author.Tests.{eqb-true, eqb-false}
use Rattle.lists.specs.Lists.{filter, all, any, All, none, more, sort, all_below}
use Rattle.lists.proofs.Tests.{cases, and_left, and_right, same_test}
use Rattle.lists.proofs.Alls.{all_All, All-all, any_false, false_any, All-filter}
use Rattle.lists.proofs.Sorts.{All-sort, sort_All}

-- ---- some and every element
module _ {A : Type 0} where
  pub any_append : (p : A → Bool) (xs ys : List A) → any p (xs ++ ys) ≡ (any p xs || any p ys)
  any_append p [] ys = refl
  any_append p (x ∷ xs) ys = cases (p x) (λ e. rw e) (λ e. rw (e, any_append p xs ys))

  -- a filter that passes all that p asks for
  pub any_filter : (p k : A → Bool) {xs : List A} → All (λ (x : A). p x ≡ true → k x ≡ true) xs → any p (filter k xs) ≡ any p xs
  any_filter p k none = refl
  any_filter p k (more {x = x} h hs) =
      cases (p x)
      (λ e. rw (h e, e))
      (λ e. cases (k x) (λ t. rw (t, e, any_filter p k hs)) (λ t. rw (t, e, any_filter p k hs)))

  -- any filter
  pub any_less : (p k : A → Bool) (xs : List A) → any p xs ≡ false → any p (filter k xs) ≡ false
  any_less p k xs h = false_any p (All-filter k (any_false p xs h))

  pub all_sort : (b : A → A → Bool) (p : A → Bool) (xs : List A) → all p (sort b xs) ≡ all p xs
  all_sort b p xs =
      same_test (all p (sort b xs)) (all p xs)
      (λ e. All-all p (sort_All b xs (all_All p (sort b xs) e)))
      (λ e. All-all p (All-sort b (all_All p xs e)))

-- ---- every number below n
pub below_same : (n : ℕ) (p q : ℕ → Bool) → ((i : ℕ) → p i ≡ q i) → all_below n p ≡ all_below n q
below_same zero p q h = refl
below_same (suc n) p q h = rw (h n, below_same n p q h)

pub below_all : (n : ℕ) (p : ℕ → Bool) → ((i : ℕ) → i < n → p i ≡ true) → all_below n p ≡ true
below_all zero p h = refl
below_all (suc n) p h = rw (h n (omega arith), below_all n p (λ i k. h i (omega arith)))

pub below_is : (n : ℕ) (p : ℕ → Bool) → all_below n p ≡ true → (i : ℕ) → i < n → p i ≡ true
below_is zero p e i h = absurd (omega arith)
below_is (suc n) p e i h =
    cases (eqb i n)
    (λ t. ap p (eqb-true i n t) ∙ and_left (p n) (all_below n p) e)
    (λ t. let d = eqb-false i n t in below_is n p (and_right (p n) (all_below n p) e) i (omega (arith, d)))

pub below_not : (n : ℕ) (p : ℕ → Bool) (j : ℕ) → j < n → p j ≡ false → all_below n p ≡ false
below_not zero p j h e = absurd (omega arith)
below_not (suc n) p j h e =
    cases (eqb j n)
    (λ t. rw (ap p (sym (eqb-true j n t)) ∙ e))
    (λ t. let d = eqb-false j n t in let r = below_not n p j (omega (arith, d)) e in cases (p n) (λ q. rw (q, r)) (λ q. rw q))
