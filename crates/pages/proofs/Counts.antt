-- The pages of the greatest commit: they stand last, and counting them decides whether the commit is full. Assumes nothing.
use mathlib.Core.Path.{◌≡◌, refl, sym, ap, ◌∙◌}
use mathlib.Core.Logic.{⊎_elim}
use mathlib.Core.Bool.{true, false, not}
use mathlib.Core.List.{List, [], ◌∷◌, ◌++◌}
use Prim.Native.Nat.{ℕ, suc, ◌+◌, ◌≤◌, ◌<◌}
use native.Mathlib.Omega.{arith}
use lib.Dec.{ltb, eqb}
use lib.ListN.{length}
use borrow.Author.Tests.{ltb-true, ltb-false, eqb-true, eqb-false, eq-eqb, ne_eqb}
use Rattle.lists.specs.Lists.{filter, any, All, none, more, count as number}
use Rattle.lists.proofs.Tests.{cases, clash, and_left, and_right}
use Rattle.lists.proofs.Alls.{All-head, All-tail, All-map, All-zip, All-append, All-filter, false_any}
use Rattle.lists.proofs.Filters.{filter_all, filter_none, filter_is, count_filter}
use Rattle.lists.proofs.Tests.{same_test}
use Rattle.lists.proofs.Anys.{below_all, below_is}
use Rattle.chip.specs.Geometry.{Geometry}
use Rattle.pages.specs.Data.{head_of, obeys}
use Rattle.pages.specs.Steps.{Live, commit, index, count, is_at, full, of_commit}
use Rattle.pages.proofs.Order.{chain, chain_from_lem, chain_far, chain_tail, chain_front, chain_filter}
use Rattle.pages.proofs.Pairs.{own}
use Rattle.pages.proofs.Settle.{chain_top, full_filter}

-- what a page's own rules say of its place in its commit
pub own_index : (g : Geometry) (x : Live) → own g x ≡ true → index x < count x
unfolding obeys index count
own_index g x e =
    let h = head_of x.bytes in
    let a = and_right (ltb 0 h.commit) _ e in
    let b = and_right (ltb 0 h.count) _ a in
    ltb-true h.index h.count (and_left (ltb h.index h.count) _ b)

-- ---- in a chain the pages of the greatest commit c are the last ones
pub chain_parts : (c : ℕ) (xs : List Live) → chain xs ≡ true → All (λ (x : Live). commit x ≤ c) xs
    → xs ≡ filter (λ (x : Live). not (of_commit c x)) xs ++ filter (of_commit c) xs
chain_parts c [] e h = refl
chain_parts c (x ∷ xs) e h =
    let hx = All-head h in
    cases (eqb (commit x) c)
    (λ t.
    let d = eqb-true (commit x) c t in
    let later : All (λ (y : Live). commit y ≡ c) xs =
    All-zip (λ y k m. ⊎_elim {C = commit y ≡ c} (λ q. absurd (omega arith)) (λ q. omega arith) k) (chain_far x xs e) (All-tail h) in
    let new : All (λ (y : Live). of_commit c y ≡ true) xs = All-map (λ y k. eq-eqb (commit y) c k) later in
    rw (t, filter_none (λ (y : Live). not (of_commit c y)) (All-map (λ y k. ap not k) new), filter_all (of_commit c) new))
    (λ t. rw t (ap (λ (l : List Live). x ∷ l) (chain_parts c xs (chain_tail x xs e) (All-tail h))))

pub newest_last : (s : List Live) (z : Live) → chain (s ++ (z ∷ [])) ≡ true
    → s ++ (z ∷ []) ≡ filter (λ (x : Live). not (of_commit (commit z) x)) (s ++ (z ∷ [])) ++ filter (of_commit (commit z)) (s ++ (z ∷ []))
newest_last s z e = chain_parts (commit z) (s ++ (z ∷ [])) e (chain_top s z e)

-- ---- pages v of one commit c, their indexes rising from a on and below n
module _ (c : ℕ) where
  later : (x : Live) (v : List Live) → chain_from_lem x v ≡ true → commit x ≡ c → All (λ (y : Live). commit y ≡ c) v → All (λ (y : Live). suc (index x) ≤ index y) v
  later x v e d h = All-zip (λ y k m. ⊎_elim {C = suc (index x) ≤ index y} (λ q. absurd (omega arith)) (λ q. q.1) k) (chain_far x v e) h

  -- they are at most n
  pub rising : (n a : ℕ) (v : List Live) → chain v ≡ true → All (λ (x : Live). commit x ≡ c) v → All (λ (x : Live). index x < n) v
      → All (λ (x : Live). a ≤ index x) v → a ≤ n → length v + a ≤ n
  rising n a [] e h m r l = omega arith
  rising n a (x ∷ v) e h m r l =
      let mx = All-head m in
      let rx = All-head r in
      omega (arith, rising n (suc (index x)) v (chain_tail x v e) (All-tail h) (All-tail m) (later x v e (All-head h) (All-tail h)) mx)

  -- fewer if an index i is missing
  pub lacking : (n i a : ℕ) (v : List Live) → chain v ≡ true → All (λ (x : Live). commit x ≡ c) v → All (λ (x : Live). index x < n) v
      → All (λ (x : Live). a ≤ index x) v → any (is_at c i) v ≡ false → a ≤ i → i < n → length v + a < n
  unfolding is_at
  lacking n i a [] e h m r q k l = omega arith
  lacking n i a (x ∷ v) e h m r q k l =
      let mx = All-head m in
      let rx = All-head r in
      let nx = later x v e (All-head h) (All-tail h) in
      cases (eqb (index x) i)
      (λ t. let z : true ≡ false = (rw (eq-eqb (commit x) c (All-head h), t) at q) in clash refl z)
      (λ t.
      let d = eqb-false (index x) i t in
      let q' : any (is_at c i) v ≡ false = (rw (eq-eqb (commit x) c (All-head h), t) at q) in
      cases (ltb (index x) i)
      (λ b. let y = ltb-true (index x) i b in omega (arith, lacking n i (suc (index x)) v (chain_tail x v e) (All-tail h) (All-tail m) nx q' y l))
      (λ b. let y = ltb-false (index x) i b in omega (arith, rising n (suc (index x)) v (chain_tail x v e) (All-tail h) (All-tail m) nx mx, d)))

  -- at least n if no index is missing
  pub complete : (n a : ℕ) (v : List Live) → chain v ≡ true → All (λ (x : Live). commit x ≡ c) v → All (λ (x : Live). a ≤ index x) v
      → ((i : ℕ) → a ≤ i → i < n → any (is_at c i) v ≡ true) → n ≤ length v + a
  unfolding is_at
  complete n a [] e h r f =
      cases (ltb a n) (λ t. clash (f a (omega arith) (ltb-true a n t)) refl) (λ t. let l = ltb-false a n t in omega arith)
  complete n a (x ∷ v) e h r f =
      let rx = All-head r in
      let hx = eq-eqb (commit x) c (All-head h) in
      let nx = later x v e (All-head h) (All-tail h) in
      cases (ltb a n)
      (λ t.
      let l = ltb-true a n t in
      let no : any (is_at c a) v ≡ false =
      false_any (is_at c a) (All-zip (λ y k m. let b : eqb (index y) a ≡ false = ne_eqb (index y) a (λ z. omega arith) in rw (eq-eqb (commit y) c m, b)) nx (All-tail h)) in
      let first : index x ≡ a =
      cases (eqb (index x) a)
      (λ b. eqb-true (index x) a b)
      (λ b. let z : false ≡ true = (rw (hx, b, no) at (f a (omega arith) l)) in clash z refl) in
      let rest : (i : ℕ) → suc (index x) ≤ i → i < n → any (is_at c i) v ≡ true =
      λ i p q. (rw (hx, ne_eqb (index x) i (λ z. omega arith)) at (f i (omega arith) q)) in
      omega (arith, complete n (suc (index x)) v (chain_tail x v e) (All-tail h) nx rest))
      (λ t. let l = ltb-false a n t in omega arith)

-- ---- the pages of the last page's commit, in a chain of pages that obey
module _ (g : Geometry) (s : List Live) (z : Live) (links : chain (s ++ (z ∷ [])) ≡ true)
    (owns : All (λ (x : Live). own g x ≡ true) (s ++ (z ∷ []))) where
  abbrev newest : List Live
  newest = filter (of_commit (commit z)) (s ++ (z ∷ []))

  newest_same : All (λ (x : Live). commit x ≡ commit z) newest
  newest_same = All-map (λ x k. eqb-true (commit x) (commit z) k) (filter_is (of_commit (commit z)) (s ++ (z ∷ [])))

  -- one commit, one count
  counts : All (λ (x : Live). commit x ≡ commit z → count x ≡ count z) (s ++ (z ∷ []))
  counts =
      All-append
      (All-map (λ x k e. ⊎_elim {C = count x ≡ count z} (λ q. absurd (omega arith)) (λ q. q.2) k) (chain_front s z [] links))
      (more (λ e. refl) none)

  newest_index : All (λ (x : Live). index x < count z) newest
  newest_index =
      let h : All (λ (x : Live). commit x ≡ commit z → index x < count z) (s ++ (z ∷ [])) =
      All-zip (λ x o k e. omega (arith, own_index g x o, k e)) owns counts in
      All-zip (λ x k m. k m) (All-filter (of_commit (commit z)) h) newest_same

  newest_links : chain newest ≡ true
  newest_links = chain_filter (of_commit (commit z)) (s ++ (z ∷ [])) links

  full_newest : full z newest ≡ full z (s ++ (z ∷ []))
  full_newest = full_filter z (of_commit (commit z)) (s ++ (z ∷ [])) (All-map (λ x o e. eq-eqb (commit x) (commit z) e) owns)

  count_full : full z newest ≡ true → length newest ≡ count z
  unfolding full
  count_full e =
      omega (
        arith,
        rising (commit z) (count z) 0 newest newest_links newest_same newest_index (All-map (λ x k. omega arith) newest_same) (omega arith),
        complete (commit z) (count z) 0 newest newest_links newest_same (All-map (λ x k. omega arith) newest_same)
            (λ i a b. below_is (count z) (λ (j : ℕ). any (is_at (commit z) j) newest) e i b),
      )

  full_if : length newest ≡ count z → full z newest ≡ true
  unfolding full
  full_if e =
      below_all (count z) (λ (j : ℕ). any (is_at (commit z) j) newest)
      (λ i b. cases (any (is_at (commit z) i) newest)
      (λ t. t)
      (λ t. absurd
      (omega (
        arith,
        lacking (commit z) (count z) i 0 newest newest_links newest_same newest_index (All-map (λ x k. omega arith) newest_same) t (omega arith) b,
      ))))

  -- full exactly when there are as many as the count says
  pub full_count : full z (s ++ (z ∷ [])) ≡ eqb (number (of_commit (commit z)) (s ++ (z ∷ []))) (count z)
  full_count =
      sym full_newest
      ∙ same_test (full z newest) (eqb (length newest) (count z))
      (λ t. eq-eqb (length newest) (count z) (count_full t)) (λ t. full_if (eqb-true (length newest) (count z) t))
      ∙ ap (λ (k : ℕ). eqb k (count z)) (sym (count_filter (of_commit (commit z)) (s ++ (z ∷ []))))
