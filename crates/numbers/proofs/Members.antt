-- Members of a set given as booleans: how many after a change, and the least one. Assumes nothing.
use mathlib.Core.Path.{◌≡◌, refl, sym, ap, ◌∙◌}
use mathlib.Core.Bool.{Bool, true, false}
use mathlib.Core.Logic.{⊎_elim}
use Rattle.std.specs.Prelude.{Option, Some, None}
use mathlib.Core.List.{List, [], ◌∷◌}
use Prim.Native.Nat.{ℕ, zero, suc, ◌+◌, ◌<◌, ◌≤◌}
use native.Mathlib.Nat.{zero-add}
use native.Mathlib.Omega.{arith}
use lib.Dec.{eqb}
use lib.ListN.{length, get_or, set}
use Rattle.lists.specs.Lists.{bit, count, first}
use Rattle.lists.proofs.Filters.{count_some}
use Rattle.lists.proofs.Flats.{length_tab, get_d_tab}
use Rattle.lists.proofs.Tests.{clash, three, below_or_not}
use Rattle.numbers.specs.NumberSet.{is_in, words_of, IsLeast, uncounted}

-- ---- number n put in or taken out
pub count_set : (bs : List Bool) (n : ℕ) (b : Bool) → n < length bs → count is_in (set bs n b) + bit (get_or bs n false) ≡ count is_in bs + bit b
count_set [] n b h = absurd (omega arith)
count_set (a ∷ bs) zero b h = omega arith
count_set (a ∷ bs) (suc n) b h = omega (arith, count_set bs n b (omega arith))

-- a set with a member is not empty
pub count_in : (bs : List Bool) (n : ℕ) → get_or bs n false ≡ true → 0 < count is_in bs
count_in bs n t = count_some is_in bs n false refl t

-- ---- the least member: it is below the length, it is in, and no number before it is
pub first_lt : (bs : List Bool) → 0 < count is_in bs → first is_in bs < length bs
first_lt [] h = absurd (omega arith)
first_lt (true ∷ bs) h = omega arith
first_lt (false ∷ bs) h = omega (arith, first_lt bs (omega arith))

pub first_in : (bs : List Bool) → 0 < count is_in bs → get_or bs (first is_in bs) false ≡ true
first_in [] h = absurd (omega arith)
first_in (true ∷ bs) h = refl
first_in (false ∷ bs) h = first_in bs (omega arith)

pub first_before : (bs : List Bool) (n : ℕ) → n < first is_in bs → get_or bs n false ≡ false
first_before [] n h = refl
first_before (true ∷ bs) n h = absurd (omega arith)
first_before (false ∷ bs) zero h = refl
first_before (false ∷ bs) (suc n) h = first_before bs n (omega arith)

-- a member with none before it is the least
pub first_is : (bs : List Bool) (n : ℕ) → get_or bs n false ≡ true → ((m : ℕ) → m < n → get_or bs m false ≡ false) → first is_in bs ≡ n
first_is bs n t f =
    three (first is_in bs) n
    (λ l. clash (first_in bs (count_in bs n t)) (f (first is_in bs) l))
    (λ e. e)
    (λ l. clash t (first_before bs n l))

-- ---- what least answers
module _ {words : List ℕ} {r : Option ℕ} (k : IsLeast words r) (bs : List Bool) (few : length bs ≤ 256) (e : words ≡ words_of bs) where
  -- of a set with a member: a number below the length
  pub least_lt : (n : ℕ) → r ≡ Some n → 0 < count is_in bs → n < length bs
  least_lt n q h =
      let i : Some n ≡ Some (first is_in bs) = sym q ∙ k.is bs few e h in
      let m : n ≡ first is_in bs = cc in
      omega (arith, m, first_lt bs h)

  -- a number is the first member
  pub least_is : (n : ℕ) → r ≡ Some n → (0 < count is_in bs) × (n ≡ first is_in bs)
  least_is n q =
      let some : 0 < count is_in bs
      = ⊎_elim
      (λ (z : count is_in bs < 1).
      let o : Some n ≡ None = sym q ∙ k.none bs few e (omega arith) in cc)
      (λ l. l) (below_or_not (count is_in bs) 1) in
      let i : Some n ≡ Some (first is_in bs) = sym q ∙ k.is bs few e some in
      (some, cc)

-- ---- the numbers below limit whose count is 0
pub length_uncounted : (limit : ℕ) (counts : List ℕ) → length (uncounted limit counts) ≡ limit
length_uncounted limit counts = length_tab (λ (n : ℕ). eqb (get_or counts n 0) 0) 0 limit

pub uncounted_at : (limit : ℕ) (counts : List ℕ) (n : ℕ) → n < limit → get_or (uncounted limit counts) n false ≡ eqb (get_or counts n 0) 0
uncounted_at limit counts n h =
    get_d_tab (λ (m : ℕ). eqb (get_or counts m 0) 0) 0 limit n false h ∙ ap (λ (m : ℕ). eqb (get_or counts m 0) 0) (zero-add n)
