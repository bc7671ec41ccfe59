-- What steps 1 to 3 say of the ordered pages when pages are added or taken away. Assumes nothing.
use mathlib.Core.Path.{◌≡◌, refl, sym, ap, ap₂, ◌∙◌}
use mathlib.Core.Logic.{inl, inr, ⊎_elim}
use mathlib.Core.Bool.{Bool, true, false, cond, ◌&&◌, not}
use mathlib.Core.List.{List, [], ◌∷◌, ◌++◌, append_assoc, append-nil}
use Prim.Native.Nat.{ℕ, suc, ◌+◌, ◌≤◌, ◌<◌}
use native.Mathlib.Omega.{arith}
use lib.Dec.{eqb}
use lib.ListN.{length}
use borrow.Author.Tests.{eqb-true, eqb-false, eq-eqb, ne_eqb}
use Rattle.lists.specs.Lists.{filter, all, any, All, none, more}
use Rattle.lists.proofs.Tests.{cases, and_left, and_intro}
use Rattle.lists.proofs.Alls.{All-head, All-tail, All-map, All-append, All-filter, All-all, false_any}
use Rattle.lists.proofs.Filters.{filter_append, filter_all, filter_none}
use Rattle.lists.proofs.Tests.{or_right}
use Rattle.lists.proofs.Anys.{any_append, any_filter, below_same, below_all, below_not}
use Rattle.chip.specs.Geometry.{Geometry}
use Rattle.pages.specs.Steps.{Live, commit, index, count, last_from, is_at, full, of_commit, refused, stand, without, split, split_last}
use Rattle.pages.proofs.Order.{next, chain, chain_from_lem, is_next, chain_filter, chain_front, chain_cons, chain_far, chain_tail}
use Rattle.pages.proofs.Pairs.{own, settle_ordered_lem, ordered_is}

-- ---- by the last page
pub last_snoc : (x : Live) (s : List Live) (z : Live) → last_from x (s ++ (z ∷ [])) ≡ z
last_snoc x [] z = refl
last_snoc x (y ∷ ys) z = last_snoc y ys z

pub split_snoc : (s : List Live) (z : Live) → split_last (s ++ (z ∷ [])) ≡ split z (s ++ (z ∷ []))
split_snoc [] z = refl
split_snoc (x ∷ s) z = ap (λ (y : Live). split y (x ∷ (s ++ (z ∷ [])))) (last_snoc x s z)

pub settle_snoc : (g : Geometry) (s : List Live) (z : Live)
    → settle_ordered_lem g (s ++ (z ∷ [])) ≡ cond (all (own g) (s ++ (z ∷ [])) && chain (s ++ (z ∷ []))) (split z (s ++ (z ∷ []))) (refused 8)
settle_snoc g s z = ordered_is g (s ++ (z ∷ [])) ∙ rw (split_snoc s z)

pub without_snoc : (v s : List Live) (z : Live)
    → without v (s ++ (z ∷ [])) ≡ cond (full z (s ++ (z ∷ []))) (stand v (s ++ (z ∷ []))) (refused 8)
without_snoc v [] z = refl
without_snoc v (x ∷ s) z = rw (last_snoc x s z)

-- the pages in order are s, then z; they obey, and the greatest commit is whole
pub record Whole (g : Geometry) (s : List Live) (z : Live) : Type 0 where
  pub owns : All (λ (x : Live). own g x ≡ true) (s ++ (z ∷ []))
  pub links : chain (s ++ (z ∷ [])) ≡ true
  pub is : full z (s ++ (z ∷ [])) ≡ true

-- no commit number is above the last one's
pub chain_top : (s : List Live) (z : Live) → chain (s ++ (z ∷ [])) ≡ true → All (λ (x : Live). commit x ≤ commit z) (s ++ (z ∷ []))
chain_top s z e =
    All-append
    (All-map (λ x h. ⊎_elim {C = commit x ≤ commit z} (λ k. omega arith) (λ k. omega arith) h) (chain_front s z [] e))
    (more (omega arith) none)

-- whether a commit is full depends on its own pages only
pub full_filter : (z : Live) (k : Live → Bool) (xs : List Live) → All (λ (x : Live). commit x ≡ commit z → k x ≡ true) xs
    → full z (filter k xs) ≡ full z xs
unfolding full is_at
full_filter z k xs h =
    below_same (count z) _ _
    (λ i. any_filter (is_at (commit z) i) k (All-map (λ x f t. f (eqb-true (commit x) (commit z) (and_left _ _ t))) h))

module _ (g : Geometry) (s : List Live) (z : Live) (w : Whole g s z) where
  pub stands : settle_ordered_lem g (s ++ (z ∷ [])) ≡ stand [] (s ++ (z ∷ []))
  stands = settle_snoc g s z ∙ rw (All-all (own g) w.owns, w.links, w.is)

  pub top : All (λ (x : Live). commit x ≤ commit z) (s ++ (z ∷ []))
  top = chain_top s z w.links

  -- pages that are not of the greatest commit are taken away
  pub removed : (k : Live → Bool) → All (λ (x : Live). commit x ≡ commit z → k x ≡ true) (s ++ (z ∷ [])) → k z ≡ true → Whole g (filter k s) z
  removed k h e =
      let f : filter k (s ++ (z ∷ [])) ≡ filter k s ++ (z ∷ []) = filter_append k s (z ∷ []) ∙ rw e in
      record {
        owns = rw (← f) (All-filter k w.owns);
        links = rw (← f) (chain_filter k (s ++ (z ∷ [])) w.links);
        is = rw (← f) (full_filter z k (s ++ (z ∷ [])) h ∙ w.is);
      }

  -- some pages of a greater commit that lacks an index: they are void
  module _ (v : List Live) (y : Live) (owns : All (λ (x : Live). own g x ≡ true) (v ++ (y ∷ [])))
      (links : chain ((s ++ (z ∷ [])) ++ (v ++ (y ∷ []))) ≡ true)
      (same : All (λ (x : Live). commit x ≡ commit y) (v ++ (y ∷ []))) (above : commit z < commit y) where
    older : All (λ (x : Live). of_commit (commit y) x ≡ false) (s ++ (z ∷ []))
    older = All-map (λ x h. ne_eqb (commit x) (commit y) (λ e. omega arith)) top

    newer : All (λ (x : Live). of_commit (commit y) x ≡ true) (v ++ (y ∷ []))
    newer = All-map (λ x h. eq-eqb (commit x) (commit y) h) same

    whole_rest : filter (λ (x : Live). not (of_commit (commit y) x)) ((s ++ (z ∷ [])) ++ (v ++ (y ∷ []))) ≡ s ++ (z ∷ [])
    whole_rest =
        filter_append (λ (x : Live). not (of_commit (commit y) x)) (s ++ (z ∷ [])) (v ++ (y ∷ []))
        ∙ ap₂ ◌++◌ (filter_all (λ (x : Live). not (of_commit (commit y) x)) (All-map (λ x h. ap not h) older))
        (filter_none (λ (x : Live). not (of_commit (commit y) x)) (All-map (λ x h. ap not h) newer))
        ∙ append-nil (s ++ (z ∷ []))

    whole_void : filter (of_commit (commit y)) ((s ++ (z ∷ [])) ++ (v ++ (y ∷ []))) ≡ v ++ (y ∷ [])
    whole_void =
        filter_append (of_commit (commit y)) (s ++ (z ∷ [])) (v ++ (y ∷ []))
        ∙ ap₂ ◌++◌ (filter_none (of_commit (commit y)) older) (filter_all (of_commit (commit y)) newer)

    pub voids : full y ((s ++ (z ∷ [])) ++ (v ++ (y ∷ []))) ≡ false
        → settle_ordered_lem g ((s ++ (z ∷ [])) ++ (v ++ (y ∷ []))) ≡ stand (v ++ (y ∷ [])) (s ++ (z ∷ []))
    voids e =
        let a : ((s ++ (z ∷ [])) ++ v) ++ (y ∷ []) ≡ (s ++ (z ∷ [])) ++ (v ++ (y ∷ [])) = append_assoc (s ++ (z ∷ [])) v (y ∷ []) in
        let n : all (own g) ((s ++ (z ∷ [])) ++ (v ++ (y ∷ []))) ≡ true = All-all (own g) (All-append w.owns owns) in
        ap (settle_ordered_lem g) (sym a) ∙ settle_snoc g ((s ++ (z ∷ [])) ++ v) y
        ∙ rw (a, n, links, e, whole_rest, whole_void, without_snoc, w.is)

-- ---- the pages of one commit c of n pages, from index k on
pub data Run (c n : ℕ) : ℕ → List Live → Type 0 where
  start : {k : ℕ} → Run c n k []
  page : {k : ℕ} {x : Live} {xs : List Live} → commit x ≡ c → index x ≡ k → count x ≡ n → Run c n (suc k) xs → Run c n k (x ∷ xs)

module _ {c n : ℕ} where
  pub run_same : {k : ℕ} {xs : List Live} → Run c n k xs → All (λ (x : Live). commit x ≡ c) xs
  run_same start = none
  run_same (page a b d r) = more a (run_same r)

  -- the indexes from k on, one for each page
  pub run_has : (i : ℕ) {k : ℕ} {xs : List Live} → Run c n k xs → k ≤ i → i < k + length xs → any (is_at c i) xs ≡ true
  unfolding is_at
  run_has i start h j = absurd (omega arith)
  run_has i (page {k = k} {x = x} {xs = xs} a b d r) h j =
      cases (eqb (index x) i)
      (λ t. rw (eq-eqb (commit x) c a, t))
      (λ t. let u = eqb-false (index x) i t in rw (eq-eqb (commit x) c a, t) (run_has i r (omega (arith, u)) (omega arith)))

  pub run_lacks : (i : ℕ) {k : ℕ} {xs : List Live} → Run c n k xs → k + length xs ≤ i → any (is_at c i) xs ≡ false
  unfolding is_at
  run_lacks i start h = refl
  run_lacks i (page {x = x} a b d r) h =
      rw (eq-eqb (commit x) c a, ne_eqb (index x) i (λ e. omega arith)) (run_lacks i r (omega arith))

  -- the first pages of a run, and its last page
  pub run_left : {k : ℕ} (xs ys : List Live) → Run c n k (xs ++ ys) → Run c n k xs
  run_left [] ys r = start
  run_left (x ∷ xs) ys (page a b d r) = page a b d (run_left xs ys r)

  pub run_last : {k : ℕ} (xs : List Live) (y : Live) (ys : List Live) → Run c n k (xs ++ y ∷ ys) → (commit y ≡ c) × (count y ≡ n)
  run_last [] y ys (page a b d r) = (a, d)
  run_last (x ∷ xs) y ys (page a b d r) = run_last xs y ys r

  -- the commit is full if all its n pages are there, and not if fewer are
  pub run_full : (s v : List Live) (y : Live) → Run c n 0 (v ++ (y ∷ [])) → length (v ++ (y ∷ [])) ≡ n → full y (s ++ (v ++ (y ∷ []))) ≡ true
  unfolding full
  run_full s v y r e =
      let l = run_last v y [] r in
      rw (l.0, l.1)
      (below_all n _
      (λ i k. any_append (is_at c i) s (v ++ (y ∷ [])) ∙ or_right (any (is_at c i) s) _ (run_has i r (omega arith) (omega arith))))

  pub run_short : (s v : List Live) (y : Live) → Run c n 0 (v ++ (y ∷ [])) → All (λ (x : Live). commit x < c) s
      → length (v ++ (y ∷ [])) < n → full y (s ++ (v ++ (y ∷ []))) ≡ false
  unfolding full is_at
  run_short s v y r h e =
      let l = run_last v y [] r in
      let i = length (v ++ (y ∷ [])) in
      rw (l.0, l.1)
      (below_not n _ i e
      (any_append (is_at c i) s (v ++ (y ∷ []))
      ∙ rw (false_any (is_at c i) (All-map (λ x k. let d : eqb (commit x) c ≡ false = ne_eqb (commit x) c (λ q. omega arith) in rw d) h), run_lacks i r (omega arith))))

  pub run_chain : {k : ℕ} {xs : List Live} → Run c n k xs → chain xs ≡ true
  run_chain start = refl
  run_chain (page a b d start) = refl
  run_chain (page {x = x} {xs = y ∷ ys} a b d (page a' b' d' r)) =
      and_intro (next x y) (chain_from_lem y ys) (is_next x y (inr (a ∙ sym a', omega arith, d ∙ sym d'))) (run_chain (page a' b' d' r))

  -- a run behind pages of smaller commits
  pub run_behind : {k : ℕ} (s xs : List Live) → chain s ≡ true → All (λ (x : Live). commit x < c) s → Run c n k xs → chain (s ++ xs) ≡ true
  run_behind [] xs e h r = run_chain r
  run_behind (x ∷ s) xs e h r =
      chain_cons x (s ++ xs) (All-append (chain_far x s e) (All-map (λ y q. inl (omega (arith, All-head h))) (run_same r)))
      (run_behind s xs (chain_tail x s e) (All-tail h) r)
