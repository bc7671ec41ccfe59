-- The pages of any assignment: each node in one page at most, none lost, no group split. Assumes nothing.
use mathlib.Core.Path.{◌≡◌, refl, sym, ap, ◌∙◌, subst}
use mathlib.Core.Bool.{true, cond}
use mathlib.Core.List.{List, [], ◌∷◌, ◌++◌}
use Prim.Native.Nat.{ℕ, zero, suc, ◌+◌, ◌≤◌, ◌<◌}
use native.Mathlib.Omega.{arith}
use lib.Dec.{eqb}
use lib.ListN.{length}
use borrow.Author.Tests.{eq-eqb, eqb-false, eqb-true}
use Rattle.lists.specs.Lists.{All, flat, more, none, tab}
use Rattle.lists.proofs.Alls.{All-append, All-head, All-left, All-map, All-right}
use Rattle.lists.proofs.Tests.{cases, clash}
use Rattle.pages.specs.declared.unit.Update.{Update}
use Rattle.journal.specs.Commit.{Pack}
use Rattle.journal.specs.Plan.{count_from, keep}
use Rattle.journal.specs.Admissible.{Target, Assigned, unwritten, page_packs, in_page, goes_to}
use Rattle.journal.proofs.PlanPacks.{ApartPacks, Lacks, Of, keep_apart, keep_none}

-- two lists of packs of different nodes, and no node in both
pub apart_append : (xs ys : List Pack) → ApartPacks xs → ApartPacks ys → All (λ k. Lacks k.node ys) xs → ApartPacks (xs ++ ys)
apart_append [] ys a b h = b
apart_append (x ∷ xs) ys a b h = (All-append a.0 (All-head h), apart_append xs ys a.1 b (tail h))
  where
    tail : All (λ k. Lacks k.node ys) (x ∷ xs) → All (λ k. Lacks k.node ys) xs
    tail (more z zs) = zs

-- ---- the groups of one node
module _ (f : ℕ → List Update) (target : ℕ → Target) where
  abbrev cell : ℕ → ℕ → List Pack
  cell p n = cond (goes_to p (target n)) (keep n (f n) []) []

  -- what a pack of page p is
  pub record In (p k n : ℕ) (j : Pack) : Type 0 where
    pub low : k ≤ j.node
    pub high : j.node < n
    pub is : j.updates ≡ f j.node
    pub some : 0 < length j.updates
    pub goes : goes_to p (target j.node) ≡ true

  keep_in : (p n : ℕ) (us : List Update) → us ≡ f n → goes_to p (target n) ≡ true → All (In p n (suc n)) (keep n us [])
  keep_in p n [] e s = none
  keep_in p n (u ∷ us) e s = more {x = record { node = n; updates = u ∷ us }} (record { low = omega arith; high = omega arith; is = e; some = omega arith; goes = s }) none

  cell_in : (p n : ℕ) → All (In p n (suc n)) (cell p n)
  cell_in p n = cases (goes_to p (target n)) (λ t. rw t (keep_in p n (f n) refl t)) (λ t. rw t none)

  cell_apart : (p n : ℕ) → ApartPacks (cell p n)
  cell_apart p n = cases (goes_to p (target n)) (λ t. rw t (keep_apart n (f n))) (λ t. rw t tt)

  -- ---- one page, the nodes from k on
  page_in : (p k m : ℕ) → All (In p k (k + m)) (flat (cell p) (count_from k m))
  page_in p k zero = none
  page_in p k (suc m) =
      All-append (All-map (λ j h. record { low = h.low; high = omega (arith, h.high); is = h.is; some = h.some; goes = h.goes }) (cell_in p k))
      (All-map (λ j h. record { low = omega (arith, h.low); high = omega (arith, h.high); is = h.is; some = h.some; goes = h.goes }) (page_in p (suc k) m))

  page_apart : (p k m : ℕ) → ApartPacks (flat (cell p) (count_from k m))
  page_apart p k zero = tt
  page_apart p k (suc m) =
      apart_append (cell p k) (flat (cell p) (count_from (suc k) m)) (cell_apart p k) (page_apart p (suc k) m)
      (All-map (λ j h. All-map (λ i l e. omega (arith, h.high, l.low)) (page_in p (suc k) m)) (cell_in p k))

  page_lack : (p k m n : ℕ) → k ≤ n → n < k + m → goes_to p (target n) ≡ true → Lacks n (flat (cell p) (count_from k m)) → f n ≡ []
  page_lack p k zero n a b s h = absurd (omega arith)
  page_lack p k (suc m) n a b s h =
      cases (eqb k n)
      (λ t. at_node n s (subst (λ (i : ℕ). Lacks n (cell p i)) (eqb-true k n t) (All-left (cell p k) (flat (cell p) (count_from (suc k) m)) h)))
      (λ t. page_lack p (suc k) m n (omega (arith, eqb-false k n t)) (omega arith) s (All-right (cell p k) (flat (cell p) (count_from (suc k) m)) h))
    where
      at_node : (i : ℕ) → goes_to p (target i) ≡ true → Lacks i (cell p i) → f i ≡ []
      at_node i t l = keep_none i (f i) (rw t at l)

  -- ---- all pages, from the one with number b on
  abbrev pages : ℕ → ℕ → ℕ → List Pack
  pages limit b c = flat (λ (p : List Pack). p) (tab b c (page_packs f target limit))

  -- a pack of one of the pages from b on
  pub record Among (limit b : ℕ) (j : Pack) : Type 0 where
    pub page : ℕ
    pub from_page : b ≤ page
    pub inside : In page 0 limit j

  pages_among : (limit b c : ℕ) → All (Among limit b) (pages limit b c)
  pages_among limit b zero = none
  pages_among limit b (suc c) =
      All-append (All-map (λ j h. record {
        page = b;
        from_page = omega arith;
        inside = record { low = h.low; high = omega (arith, h.high); is = h.is; some = h.some; goes = h.goes };
      }) (page_in b 0 limit))
      (All-map (λ j h. record { page = h.page; from_page = omega (arith, h.from_page); inside = h.inside }) (pages_among limit (suc b) c))

  -- the packs of all pages are groups of f, of nodes below limit
  pub pages_of_lem : (limit c : ℕ) → All (Of f limit) (pages limit 0 c)
  pages_of_lem limit c = All-map (λ j h. let i = h.inside in record { below = i.high; is = i.is; some = i.some }) (pages_among limit 0 c)

  one_page : (p q : ℕ) (s : Target) → goes_to p s ≡ true → goes_to q s ≡ true → p ≡ q
  one_page p q unwritten a b = clash a refl
  one_page p q (in_page r) a b = omega (arith, eqb-true r p a, eqb-true r q b)

  -- no node has two packs
  pub pages_apart : (limit b c : ℕ) → ApartPacks (pages limit b c)
  pages_apart limit b zero = tt
  pages_apart limit b (suc c) =
      apart_append (page_packs f target limit b) (pages limit (suc b) c) (page_apart b 0 limit) (pages_apart limit (suc b) c)
      (All-map (λ j h. All-map (λ i l e. apart j i h.goes l.inside l.from_page e) (pages_among limit (suc b) c)) (page_in b 0 limit))
    where
      apart : (j i : Pack) → goes_to b (target j.node) ≡ true → {q : ℕ} → In q 0 limit i → suc b ≤ q → i.node ≡ j.node → ⊥
      apart j i s {q} l m e = omega (arith, one_page b q (target j.node) s (ap (λ (n : ℕ). goes_to q (target n)) (sym e) ∙ l.goes))

  pages_lack_at : (limit b c n p : ℕ) → n < limit → b ≤ p → p < b + c → goes_to p (target n) ≡ true → Lacks n (pages limit b c) → f n ≡ []
  pages_lack_at limit b zero n p l h k s a = absurd (omega arith)
  pages_lack_at limit b (suc c) n p l h k s a =
      cases (eqb b p)
      (λ t. page_lack b 0 limit n (omega arith) (omega arith) (rw (eqb-true b p t) s) (All-left (page_packs f target limit b) (pages limit (suc b) c) a))
      (λ t. pages_lack_at limit (suc b) c n p l (omega (arith, eqb-false b p t)) (omega arith) s (All-right (page_packs f target limit b) (pages limit (suc b) c) a))

  assigned_page : (count : ℕ) (s : Target) → Assigned count s → (p : ℕ) × (p < count) × (goes_to p s ≡ true)
  assigned_page count unwritten h = absurd h
  assigned_page count (in_page q) h = (q, h, eq-eqb q q refl)

  nil_or : (us : List Update) → (0 < length us → us ≡ []) → us ≡ []
  nil_or [] h = refl
  nil_or (u ∷ us) h = h (omega arith)

  -- a node that no page has: nothing is written of it
  pub pages_lack : (limit c n : ℕ) → n < limit → (0 < length (f n) → Assigned c (target n)) → Lacks n (pages limit 0 c) → f n ≡ []
  pages_lack limit c n l h a =
      nil_or (f n) (λ w. let r = assigned_page c (target n) (h w) in pages_lack_at limit 0 c n r.0 l (omega arith) (omega (arith, r.1)) r.2 a)
