-- One page noted in the stored list of one node, by the length of that list. Assumes nothing.
use mathlib.Core.Path.{◌≡◌, refl, sym, ap, ap₂, ◌∙◌, subst}
use mathlib.Core.List.{List, [], ◌∷◌, ◌++◌, reverse, reverse-cons}
use Prim.Native.Nat.{ℕ, suc, ◌+◌, ◌*◌, ◌-◌, ◌≤◌, ◌<◌, min}
use native.Mathlib.Numerals.{add-one}
use native.Mathlib.Omega.{arith}
use lib.Dec.{eqb, ltb}
use lib.ListN.{length, take, drop, set, get_or, length-reverse}
use lib.Seq.{drop-set-lt, drop-set-add, take-set-le, take-set-lt, take-suc-set, get_or-set_same, get_or-set_other, get_or-take, get_or-drop, get_or_at}
use borrow.Author.Tests.{eq-eqb, ne_eqb, eqb-true, eqb-false, ltb-true, ltb-false}
use Rattle.lists.specs.Lists.{part}
use Rattle.lists.proofs.Tests.{cases}
use Rattle.lists.proofs.Parts.{length_part}
use Rattle.views.specs.Table.{joins}
use Rattle.views.specs.Stored.{Stores}
use Rattle.views.specs.PassCode.{Becomes}

-- ---- one element set, and a part of the list
-- outside the part
part_before : (xs : List ℕ) (a k i v : ℕ) → i < a → part a k (set xs i v) ≡ part a k xs
part_before xs a k i v h = ap (take k) (drop-set-lt a xs i v h)

part_behind : (xs : List ℕ) (a k j v : ℕ) → k ≤ j → part a k (set xs (a + j) v) ≡ part a k xs
part_behind xs a k j v h = ap (take k) (drop-set-add a xs j v) ∙ take-set-le k (drop a xs) j v h

-- inside
part_within : (xs : List ℕ) (a k j v : ℕ) → j < k → part a k (set xs (a + j) v) ≡ set (part a k xs) j v
part_within xs a k j v h = ap (take k) (drop-set-add a xs j v) ∙ take-set-lt k (drop a xs) j v h

-- the four slots of another node
slots_other : (s : List ℕ) (n m j v : ℕ) → (n ≡ m → ⊥) → j < 4 → part (4 * m) 4 (set s (4 * n + j) v) ≡ part (4 * m) 4 s
slots_other s n m j v d h =
    cases (ltb n m)
    (λ t. let l = ltb-true n m t in part_before s (4 * m) 4 (4 * n + j) v (omega arith))
    (λ t.
    let l = ltb-false n m t in
    let g : m < n = cases (eqb n m) (λ q. absurd (d (eqb-true n m q))) (λ q. let z = eqb-false n m q in omega (arith, z)) in
    let e : 4 * n + j ≡ 4 * m + (4 * n + j - 4 * m) = omega arith in
    ap (λ (i : ℕ). part (4 * m) 4 (set s i v)) e ∙ part_behind s (4 * m) 4 (4 * n + j - 4 * m) v (omega arith))

-- ---- lengths
shorter : (k n : ℕ) → n ≡ min 5 k → n < 5 → k ≡ n
shorter k n e h = omega arith

longer : (k n : ℕ) → n ≡ min 5 k → 5 ≤ n → 5 ≤ k
longer k n e h = omega arith

-- ---- from one node's list to all lists
-- what is shown of node n, and of the other nodes
becomes : (n : ℕ) (f : List ℕ → List ℕ) (l s r t : List ℕ) → ((ps : List ℕ) → Stores l s n ps → Stores r t n (f ps))
    → ((m : ℕ) → m < 256 → (n ≡ m → ⊥) → (ps : List ℕ) → Stores l s m ps → Stores r t m ps) → Becomes n f l s r t
becomes n f l s r t own other m h ps st =
    cases (eqb n m)
    (λ e. rw e (subst (λ (k : ℕ). Stores l s k ps → Stores r t k (f ps)) (eqb-true n m e) (own ps) st))
    (λ e. rw e (other m h (eqb-false n m e) ps st))

-- a list that begins anew where it was empty
empty_joins : (p : ℕ) (ps : List ℕ) → length ps ≡ 0 → joins p ps ≡ p ∷ []
empty_joins p [] h = refl
empty_joins p (q ∷ qs) h = absurd (omega arith)

-- a list is not shorter with a page more
joins_least : (p : ℕ) (ps : List ℕ) → length ps ≤ length (joins p ps)
joins_least p [] = omega arith
joins_least p (q ∷ qs) = cases (eqb p q) (λ t. rw t (omega arith)) (λ t. rw t (omega arith))

module _ (l s : List ℕ) (n p : ℕ) (hl : length l ≡ 256) (hs : length s ≡ 1024) (hn : n < 256) where
  -- ---- other nodes, after a store to the lengths and to a slot
  lens_kept : (w m : ℕ) → (n ≡ m → ⊥) → (ps : List ℕ) → Stores l s m ps → Stores (set l n w) s m ps
  lens_kept w m d ps st =
      let e : get_or (set l n w) m 0 ≡ get_or l m 0 = get_or-set_other l n m w 0 (λ z. d (sym z)) in
      record { size = e ∙ st.size; pages = λ h. ap (λ (k : ℕ). take k (part (4 * m) 4 s)) e ∙ st.pages h }

  both_kept : (j v w m : ℕ) → j < 4 → (n ≡ m → ⊥) → (ps : List ℕ) → Stores l s m ps → Stores (set l n w) (set s (4 * n + j) v) m ps
  both_kept j v w m hj d ps st =
      let k = lens_kept w m d ps st in
      record { size = k.size; pages = λ h. ap (take (get_or (set l n w) m 0)) (slots_other s n m j v d hj) ∙ k.pages h }

  -- ---- the node itself
  -- a page put behind the j pages of a list
  put : (j : ℕ) (ps : List ℕ) → j < 4 → length ps ≡ j → take j (part (4 * n) 4 s) ≡ reverse ps
      → Stores (set l n (j + 1)) (set s (4 * n + j) p) n (p ∷ ps)
  put j ps hj e q =
      let len : get_or (set l n (j + 1)) n 0 ≡ j + 1 = get_or-set_same l n (j + 1) 0 (omega arith) in
      let four : List ℕ = part (4 * n) 4 s in
      let size : length four ≡ 4 = length_part s (4 * n) 4 (omega arith) in
      record {
        size = len ∙ omega arith;
        pages = λ h.
            ap₂ take (len ∙ add-one j) (part_within s (4 * n) 4 j p hj)
            ∙ take-suc-set four j p (omega arith)
            ∙ ap (λ (x : List ℕ). x ++ (p ∷ [])) q
            ∙ sym (reverse-cons p ps);
      }

  -- the newest page of a list stands in the last slot that is used
  newest : (q : ℕ) (qs : List ℕ) → Stores l s n (q ∷ qs) → get_or l n 0 < 5 → get_or s (4 * n + get_or l n 0 - 1) 0 ≡ q
  newest q qs st h =
      let k : ℕ = length qs in
      let e : suc k ≡ get_or l n 0 = shorter (suc k) (get_or l n 0) st.size h in
      let a : 4 * n + get_or l n 0 - 1 ≡ 4 * n + k = omega arith in
      ap (λ (i : ℕ). get_or s i 0) a
      ∙ sym (get_or-drop (4 * n) s k 0)
      ∙ sym (get_or-take 4 (drop (4 * n) s) k 0 (omega arith))
      ∙ sym (get_or-take (get_or l n 0) (part (4 * n) 4 s) k 0 (omega arith))
      ∙ ap (λ (x : List ℕ). get_or x k 0) (st.pages (omega arith) ∙ reverse-cons q qs)
      ∙ get_or_at (reverse qs) q [] 0 k (length-reverse qs)

  -- ---- the answers of begin and join
  -- the page alone
  pub begun : Becomes n (λ (ps : List ℕ). p ∷ []) l s (set l n 1) (set s (4 * n) p)
  begun =
      let e : 4 * n + 0 ≡ 4 * n = omega arith in
      subst (λ (i : ℕ). Becomes n (λ (ps : List ℕ). p ∷ []) l s (set l n 1) (set s i p)) e
      (becomes n (λ ps. p ∷ []) l s (set l n 1) (set s (4 * n + 0) p) (λ ps st. put 0 [] (omega arith) refl refl)
      (λ m h d ps st. both_kept 0 p 1 m (omega arith) d ps st))

  -- an empty list
  pub joined_empty : (r t : List ℕ) → get_or l n 0 ≡ 0 → Becomes n (λ (ps : List ℕ). p ∷ []) l s r t → Becomes n (joins p) l s r t
  joined_empty r t z b =
      becomes n (joins p) l s r t
      (λ ps st.
      let k = b n hn ps st in
      let e = empty_joins p ps (shorter (length ps) 0 (sym z ∙ st.size) (omega arith)) in
      rw e (rw (eq-eqb n n refl) at k))
      (λ m h d ps st. let k = b m h ps st in (rw (ne_eqb n m d) at k))

  -- a list of more than 4 pages
  pub joined_long : 5 ≤ get_or l n 0 → Becomes n (joins p) l s l s
  joined_long h =
      becomes n (joins p) l s l s
      (λ ps st.
      let k = longer (length ps) (get_or l n 0) st.size h in
      let j = joins_least p ps in
      record { size = st.size ∙ omega arith; pages = λ g. absurd (omega arith) })
      (λ m h d ps st. st)

  -- a list of 1 to 4 pages
  module _ (some : get_or l n 0 ≡ 0 → ⊥) (few : get_or l n 0 < 5) where
    -- a list that is empty is none of these
    none_empty : {Q : Type 0} → Stores l s n [] → Q
    none_empty st = absurd (some st.size)

    -- the page is the newest already
    pub joined_same : get_or s (4 * n + get_or l n 0 - 1) 0 ≡ p → Becomes n (joins p) l s l s
    joined_same e = becomes n (joins p) l s l s own (λ m h d ps st. st)
      where
        own : (ps : List ℕ) → Stores l s n ps → Stores l s n (joins p ps)
        own [] st = none_empty st
        own (q ∷ qs) st = rw (eq-eqb p q (sym e ∙ newest q qs st few)) st

    module _ (new : get_or s (4 * n + get_or l n 0 - 1) 0 ≡ p → ⊥) where
      -- it is not, so the list grows by it
      grows : (q : ℕ) (qs : List ℕ) → Stores l s n (q ∷ qs) → joins p (q ∷ qs) ≡ p ∷ q ∷ qs
      grows q qs st = rw (ne_eqb p q (λ e. new (newest q qs st few ∙ sym e)))

      -- there is a slot for it
      pub joined_new : get_or l n 0 < 4 → Becomes n (joins p) l s (set l n (get_or l n 0 + 1)) (set s (4 * n + get_or l n 0) p)
      joined_new h =
          becomes n (joins p) l s (set l n (get_or l n 0 + 1)) (set s (4 * n + get_or l n 0) p) own
          (λ m g d ps st. both_kept (get_or l n 0) p (get_or l n 0 + 1) m h d ps st)
        where
          own : (ps : List ℕ) → Stores l s n ps → Stores (set l n (get_or l n 0 + 1)) (set s (4 * n + get_or l n 0) p) n (joins p ps)
          own [] st = none_empty st
          own (q ∷ qs) st =
              let e = shorter (length (q ∷ qs)) (get_or l n 0) st.size few in
              rw (grows q qs st) (put (get_or l n 0) (q ∷ qs) h e (st.pages (omega arith)))

      -- it is a fifth page
      pub joined_fifth : 4 ≤ get_or l n 0 → Becomes n (joins p) l s (set l n 5) s
      joined_fifth h = becomes n (joins p) l s (set l n 5) s own (λ m g d ps st. lens_kept 5 m d ps st)
        where
          own : (ps : List ℕ) → Stores l s n ps → Stores (set l n 5) s n (joins p ps)
          own [] st = none_empty st
          own (q ∷ qs) st =
              let e = shorter (length (q ∷ qs)) (get_or l n 0) st.size few in
              rw (grows q qs st) (record { size = get_or-set_same l n 5 0 (omega arith) ∙ omega arith; pages = λ g. absurd (omega arith) })
