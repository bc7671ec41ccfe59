-- The four words of a set: counted, searched for the least member, one number changed, one number more. Assumes nothing.
use mathlib.Core.Path.{◌≡◌, refl, sym, ap, ap₂, ◌∙◌}
use mathlib.Core.Bool.{Bool, true, false}
use mathlib.Core.Logic.{⊎_elim}
use Rattle.std.specs.Prelude.{Some, None}
use mathlib.Core.List.{List, ◌∷◌}
use Prim.Native.Nat.{ℕ, zero, suc, ◌+◌, ◌*◌, ◌/◌, ◌%◌, ◌^◌, ◌-◌, ◌<◌, ◌≤◌}
use native.Mathlib.Nat.{zero-add}
use native.Mathlib.Omega.{arith}
use lib.Bits.{bit_and, bit_or, and_comm, or_add_and}
use Rattle.std.proofs.lemmas.Nat.{and-not}
use lib.Count.{ones, ones-le, count_trailing_zeros}
use Rattle.std.specs.Int.{w64}
use Rattle.std.proofs.lemmas.Nat.Bits.{bit_at-trailing_zeros}
use lib.ListN.{length, take, drop, get_or, set, length-take, length-drop, drop_of_length-le}
use lib.Seq.{drop-drop, drop-set-lt, drop-set-add, take-set-le, take-set-lt}
use Rattle.lists.specs.Lists.{count, first, part, tab}
use Rattle.lists.proofs.Flats.{get_d_tab}
use Rattle.lists.proofs.Tests.{below_or_not}
use Rattle.chip.specs.SetCode.{set_of}
use Rattle.chip.proofs.SetLaws.{ones_set, trailing_set}
use Rattle.numbers.specs.NumberSet.{is_in, words_of, Counts, IsLeast, Changes}
use Rattle.numbers.proofs.BitLaws.{bit_at, or_set, clear_set, set_none, none_set, count_parts, first_here, first_past}

-- word w of a set
pub word_at : (bs : List Bool) (w : ℕ) → w < 4 → get_or (words_of bs) w 0 ≡ set_of is_in (part (64 * w) 64 bs)
unfolding words_of
word_at bs w h =
    get_d_tab (λ (v : ℕ). set_of is_in (part (64 * v) 64 bs)) 0 4 w 0 h ∙ ap (λ (v : ℕ). set_of is_in (part (64 * v) 64 bs)) (zero-add w)

-- the same of words that are those of the set
word_is : (words : List ℕ) (bs : List Bool) → words ≡ words_of bs → (w : ℕ) → w < 4 → get_or words w 0 ≡ set_of is_in (part (64 * w) 64 bs)
word_is words bs e w h = ap (λ (l : List ℕ). get_or l w 0) e ∙ word_at bs w h

-- the members from index a on are those of 64 numbers and those behind
count_from_lem : (a : ℕ) (bs : List Bool) → count is_in (drop a bs) ≡ count is_in (part a 64 bs) + count is_in (drop (a + 64) bs)
count_from_lem a bs =
    count_parts is_in 64 (drop a bs) ∙ ap (λ (l : List Bool). count is_in (part a 64 bs) + count is_in l) (drop-drop 64 a bs)

-- a part of k has at most k elements
few_part : (a k : ℕ) (bs : List Bool) → length (part a k bs) ≤ k
few_part a k bs = simp length-take (omega arith)

-- ---- counted
-- the ones of word w are its members
counted_word : (words : List ℕ) (bs : List Bool) → words ≡ words_of bs → (w : ℕ) → w < 4 → ones (get_or words w 0) ≡ count is_in (part (64 * w) 64 bs)
counted_word words bs e w h = ap ones (word_is words bs e w h) ∙ ones_set is_in (part (64 * w) 64 bs)

-- the ones of the four words
pub counted : (words : List ℕ) → get_or words 0 0 < 2 ^ 64 → get_or words 1 0 < 2 ^ 64 → get_or words 2 0 < 2 ^ 64 → get_or words 3 0 < 2 ^ 64
    → Counts words (ones (get_or words 0 0) + ones (get_or words 1 0) + ones (get_or words 2 0) + ones (get_or words 3 0))
counted words f g h k = record {
  is = λ bs l e.
      omega (
        arith,
        counted_word words bs e 0 (omega arith),
        counted_word words bs e 1 (omega arith),
        counted_word words bs e 2 (omega arith),
        counted_word words bs e 3 (omega arith),
        count_from_lem 0 bs,
        count_from_lem 64 bs,
        count_from_lem 128 bs,
        count_from_lem 192 bs,
        ap (count is_in) (drop_of_length-le bs {i = 256} l),
      );
  few =
      omega (
        arith,
        ones-le 64 (get_or words 0 0) f,
        ones-le 64 (get_or words 1 0) g,
        ones-le 64 (get_or words 2 0) h,
        ones-le 64 (get_or words 3 0) k,
      );
}

-- ---- the least member
-- the words before w have no member
pub record Passed (words : List ℕ) (w : ℕ) : Type 0 where
  pub all : (bs : List Bool) → words ≡ words_of bs → count is_in bs ≡ count is_in (drop (64 * w) bs)
  pub is : (bs : List Bool) → words ≡ words_of bs → 0 < count is_in bs → first is_in bs ≡ 64 * w + first is_in (drop (64 * w) bs)

-- before the first word
pub passed_start : (words : List ℕ) → Passed words 0
passed_start words = record { all = λ bs e. refl; is = λ bs e h. sym (zero-add (first is_in bs)) }

module _ (words : List ℕ) (w : ℕ) (s : Passed words w) where
  -- word w has no member
  pub passed_more : w < 4 → get_or words w 0 ≡ 0 → Passed words (w + 1)
  passed_more h z =
      let next : 64 * w + 64 ≡ 64 * (w + 1) = omega arith in
      let empty : (bs : List Bool) → words ≡ words_of bs → set_of is_in (part (64 * w) 64 bs) ≡ 0
      = (λ bs e. sym (word_is words bs e w h) ∙ z) in
      record {
        all = λ bs e.
            omega (
              arith,
              s.all bs e,
              count_from_lem (64 * w) bs,
              set_none is_in (part (64 * w) 64 bs) (empty bs e),
              ap (λ (n : ℕ). count is_in (drop n bs)) next,
            );
        is = λ bs e o.
            omega (
              arith,
              s.is bs e o,
              first_past is_in 64 (drop (64 * w) bs) (empty bs e) (omega (arith, s.all bs e)),
              ap (first is_in) (drop-drop 64 (64 * w) bs),
              ap (λ (n : ℕ). first is_in (drop n bs)) next,
            );
      }

  -- word w has one
  pub passed_found : w < 4 → get_or words w 0 < 2 ^ 64 → (get_or words w 0 ≡ 0 → ⊥) → IsLeast words (Some (64 * w + count_trailing_zeros 64 (get_or words w 0)))
  passed_found h b z =
      let some : (bs : List Bool) → words ≡ words_of bs → set_of is_in (part (64 * w) 64 bs) ≡ 0 → ⊥
      = (λ bs e o. z (word_is words bs e w h ∙ o)) in
      record {
        is = λ bs l e o.
            ap Some
            (omega (
              arith,
              s.is bs e o,
              ap (count_trailing_zeros 64) (word_is words bs e w h),
              trailing_set is_in 64 (part (64 * w) 64 bs) (few_part (64 * w) 64 bs) (some bs e),
              first_here is_in 64 (drop (64 * w) bs) (some bs e),
            ));
        none = λ bs l e o. absurd (some bs e (none_set is_in (part (64 * w) 64 bs) (omega (arith, s.all bs e, count_from_lem (64 * w) bs))));
        few = (let l : count_trailing_zeros 64 (get_or words w 0) < 64 = (bit_at-trailing_zeros w64 (get_or words w 0) (omega arith) b).0 in omega arith);
      }

  -- no word has one
  pub passed_all : w ≡ 4 → IsLeast words None
  passed_all q = record {
    is = λ bs l e o.
        absurd (omega (arith, s.all bs e, ap (count is_in) (drop_of_length-le bs {i = 64 * w} (omega arith))));
    none = λ bs l e o. refl;
    few = tt;
  }

-- ---- one number changed
-- from k on the same
tab_behind : {A : Type 0} (f g : ℕ → A) (k m : ℕ) → ((i : ℕ) → k ≤ i → f i ≡ g i) → tab k m f ≡ tab k m g
tab_behind f g k zero h = refl
tab_behind f g k (suc m) h = ap₂ ◌∷◌ (h k (omega arith)) (tab_behind f g (suc k) m (λ i l. h i (omega arith)))

-- the same but at index j
set_tab : {A : Type 0} (f g : ℕ → A) (k m j : ℕ) (y : A) → j < m → y ≡ g (k + j) → ((i : ℕ) → (i ≡ k + j → ⊥) → f i ≡ g i)
    → set (tab k m f) j y ≡ tab k m g
set_tab f g k zero j y h e o = absurd (omega arith)
set_tab f g k (suc m) zero y h e o =
    let z : k + 0 ≡ k = omega arith in ap₂ ◌∷◌ (e ∙ ap g z) (tab_behind f g (suc k) m (λ i l. o i (λ q. omega arith)))
set_tab f g k (suc m) (suc j) y h e o =
    let z : suc k + j ≡ k + suc j = omega arith in
    ap₂ ◌∷◌ (o k (λ q. omega arith)) (set_tab f g (suc k) m j y (omega arith) (e ∙ ap g (sym z)) (λ i q. o i (λ r. q (r ∙ sym z))))

-- the 64 numbers of a word where number n is changed: those of another word, and those of its own
module _ (bs : List Bool) (n : ℕ) (b : Bool) where
  part_other : (w : ℕ) → (w ≡ n / 64 → ⊥) → part (64 * w) 64 bs ≡ part (64 * w) 64 (set bs n b)
  part_other w o =
      ⊎_elim
      (λ (l : n < 64 * w). ap (take 64) (sym (drop-set-lt (64 * w) bs n b l)))
      (λ (l : 64 * w ≤ n).
      let j : ℕ = n - 64 * w in
      let e : n ≡ 64 * w + j = omega arith in
      let far : 64 ≤ j = ⊎_elim (λ (k : j < 64). absurd (o (omega arith))) (λ k. k) (below_or_not j 64) in
      sym
      (ap (λ (m : ℕ). part (64 * w) 64 (set bs m b)) e
      ∙ ap (take 64) (drop-set-add (64 * w) bs j b)
      ∙ take-set-le 64 (drop (64 * w) bs) j b far))
      (below_or_not n (64 * w))

  part_same : set (part (64 * (n / 64)) 64 bs) (n % 64) b ≡ part (64 * (n / 64)) 64 (set bs n b)
  part_same =
      let e : 64 * (n / 64) + n % 64 ≡ n = omega arith in
      sym
      (ap (λ (m : ℕ). part (64 * (n / 64)) 64 (set bs m b)) (sym e)
      ∙ ap (take 64) (drop-set-add (64 * (n / 64)) bs (n % 64) b)
      ∙ take-set-lt 64 (drop (64 * (n / 64)) bs) (n % 64) b (omega arith))

  -- the word of number n changed
  pub words_set : n < 256 → set (words_of bs) (n / 64) (set_of is_in (set (part (64 * (n / 64)) 64 bs) (n % 64) b)) ≡ words_of (set bs n b)
  unfolding words_of
  words_set h =
      let z : 0 + n / 64 ≡ n / 64 = zero-add (n / 64) in
      set_tab
      (λ (v : ℕ). set_of is_in (part (64 * v) 64 bs))
      (λ (v : ℕ). set_of is_in (part (64 * v) 64 (set bs n b)))
      0
      4
      (n / 64)
      (set_of is_in (set (part (64 * (n / 64)) 64 bs) (n % 64) b))
      (omega arith)
      (ap (set_of is_in) part_same ∙ ap (λ (v : ℕ). set_of is_in (part (64 * v) 64 (set bs n b))) (sym z))
      (λ v o. ap (set_of is_in) (part_other v (λ q. o (q ∙ sym z))))

  -- number n has its place in its word
  index_in : n < length bs → n % 64 < length (part (64 * (n / 64)) 64 bs)
  index_in h = simp (length-take, length-drop) (omega arith)

-- the word as put_in and take_out make it
module _ (words : List ℕ) (n : ℕ) (h : n < 256) where
  pub put_word : Changes true n words (set words (n / 64) (bit_or (get_or words (n / 64) 0) ((1 * 2 ^ (n % 64)) % 2 ^ 64)))
  put_word bs l k e =
      ap₂ (λ (x : List ℕ) (y : ℕ). set x (n / 64) y) e
      (ap₂ bit_or (word_is words bs e (n / 64) (omega arith)) (bit_at (n % 64) (omega arith))
      ∙ or_set is_in (part (64 * (n / 64)) 64 bs) (n % 64) true (index_in bs n true k) refl)
      ∙ words_set bs n true h

  -- a bit taken out by its complement, and by what is joined less the bit
  clear_is : (x b : ℕ) → x < 2 ^ 64 → b < 2 ^ 64 → bit_and x (2 ^ 64 - 1 - b) ≡ bit_or x b - b
  clear_is x b p q = omega (arith, and-not 64 b x q p, and_comm b x, and_comm x (2 ^ 64 - 1 - b), or_add_and x b)

  pub take_word : get_or words (n / 64) 0 < 2 ^ 64
      → Changes false n words (set words (n / 64) (bit_and (get_or words (n / 64) 0) (2 ^ 64 - 1 - (1 * 2 ^ (n % 64)) % 2 ^ 64)))
  take_word low bs l k e =
      ap (set words (n / 64)) (clear_is (get_or words (n / 64) 0) ((1 * 2 ^ (n % 64)) % 2 ^ 64) low (omega arith))
      ∙ ap₂ (λ (x : List ℕ) (y : ℕ). set x (n / 64) y) e
      (ap₂ (λ (x y : ℕ). bit_or x y - y) (word_is words bs e (n / 64) (omega arith)) (bit_at (n % 64) (omega arith))
      ∙ clear_set is_in (part (64 * (n / 64)) 64 bs) (n % 64) true false (index_in bs n true k) refl refl)
      ∙ words_set bs n false h
