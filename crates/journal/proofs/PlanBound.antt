-- At most h erases; the pages keep their size. Assumes nothing.
use mathlib.Core.Path.{◌≡◌, refl}
use mathlib.Core.Bool.{Bool, true, not}
use mathlib.Core.List.{List, [], ◌∷◌, ◌++◌}
use Prim.Native.Nat.{ℕ, zero, suc, ◌-◌, ◌*◌, ◌≤◌}
use native.Mathlib.Omega.{arith}
use lib.ListN.{length, take}
use Rattle.lists.specs.Lists.{All, any, filter, flat, more, none, Diff}
use Rattle.lists.proofs.Alls.{All-filter, All-head, All-left, All-right, All-tail, All-zip}
use Rattle.lists.proofs.Filters.{filter_is}
use Rattle.lists.proofs.Flats.{length_tab}
use Rattle.lists.proofs.Sets.{Mem, any_witness, at_most, diff_filter, length_take_n, mem_at}
use Rattle.lists.proofs.Tests.{and_left}
use Rattle.chip.specs.Geometry.{Geometry, page_size}
use Rattle.chip.specs.Page.{Page}
use Rattle.chip.specs.Chip.{in_block, run}
use Rattle.chip.proofs.Runs.{DataSized, Sized, run_sized, with_power}
use Rattle.pages.specs.Steps.{Live}
use Rattle.journal.specs.Commit.{commit_ops}
use Rattle.journal.specs.Plan.{erases, free_at, pages_in, places, is_reclaimed, wholly_free}
use Rattle.journal.proofs.PlanPlaces.{In, Origin, block_in, new, old, one_block, places_from}

take_append : {A : Type 0} {P : A → Type 0} (n m : ℕ) (xs ys : List A) → length xs ≡ m → All P xs → All P (take (n - m) ys) → All P (take n (xs ++ ys))
take_append zero m xs ys e h k = none
take_append (suc n) m [] ys e h k = let z : suc n - m ≡ suc n = omega arith in rw z at k
take_append (suc n) zero (x ∷ xs) ys e h k = absurd (omega arith)
take_append (suc n) (suc m) (x ∷ xs) ys e h k = let z : suc n - suc m ≡ n - m = omega arith in more (All-head h) (take_append n m xs ys (omega arith) (All-tail h) (rw z at k))

-- the first n places, n ≤ h blocks: of the first h blocks
flat_take : {P : ℕ → Type 0} (g : Geometry) (h n : ℕ) (bs : List ℕ) → n ≤ h * g.pages → All P (flat (pages_in g) (take h bs))
    → All P (take n (flat (pages_in g) bs))
flat_take g h zero [] l a = none
flat_take g h (suc n) [] l a = none
flat_take g zero n (b ∷ bs) l a = let z : n ≡ 0 = omega arith in rw z none
flat_take g (suc h) n (b ∷ bs) l a =
    take_append n g.pages (pages_in g b) (flat (pages_in g) bs) (length_tab (λ (i : ℕ). i) (b * g.pages) g.pages) (All-left (pages_in g b) (flat (pages_in g) (take h bs)) a)
    (flat_take g h (n - g.pages) bs (omega arith) (All-right (pages_in g b) (flat (pages_in g) (take h bs)) a))

own_take : {P : ℕ → Type 0} (g : Geometry) (h n : ℕ) (xs bs : List ℕ) → n ≤ h * g.pages → All P (xs ++ flat (pages_in g) (take h bs))
    → All P (take n (xs ++ flat (pages_in g) bs))
own_take g h n xs bs l a =
    take_append n (length xs) xs (flat (pages_in g) bs) refl (All-left xs (flat (pages_in g) (take h bs)) a)
    (flat_take g h (n - length xs) bs (omega arith) (All-right xs (flat (pages_in g) (take h bs)) a))

-- at most h erases
pub erases_few : (g : Geometry) (ps : List Page) (head h n : ℕ) (bs : List ℕ) → Diff bs → All (λ b. b ≡ head → ⊥) bs → n ≤ h * g.pages
    → length (erases g ps (take n (places g ps head bs)) bs) ≤ h
erases_few g ps head h n bs d a l =
    omega (
      arith,
      length_take_n h bs,
      at_most (filter q bs) (take h bs) (diff_filter q bs d)
          (All-zip (λ b t e. reach b e (any_witness (in_block g b) W (and_left (any (in_block g b) W) (not (wholly_free g ps b)) t))) (filter_is q bs) (All-filter q a)),
    )
  where
    W : List ℕ
    W = take n (places g ps head bs)

    q : ℕ → Bool
    q = is_reclaimed g ps W

    from_which : All (Origin g ps head (take h bs)) W
    from_which = own_take g h n (filter (free_at ps) (pages_in g head)) bs l (places_from g ps head (take h bs))

    at_origin : (b p : ℕ) → (b ≡ head → ⊥) → In g b p → Origin g ps head (take h bs) p → Mem b (take h bs)
    at_origin b p e i (old j f) = absurd (e (one_block g.pages b head p i.0 i.1 j.0 j.1))
    at_origin b p e i (new c m j) = rw (one_block g.pages b c p i.0 i.1 j.0 j.1) m

    reach : (b : ℕ) → (b ≡ head → ⊥) → (p : ℕ) × Mem p W × (in_block g b p ≡ true) → Mem b (take h bs)
    reach b e r = at_origin b r.0 e (block_in g b r.0 r.2) (mem_at r.1 from_which)

-- ---- sizes
ops_fit : (g : Geometry) (es : List ℕ) {news : List Live} → All (λ x. length x.bytes ≡ g.area) news → All (DataSized g) (commit_ops es news)
ops_fit g [] none = none
ops_fit g [] (more h hs) = more tt (more h (more tt (ops_fit g [] hs)))
ops_fit g (e ∷ es) h = more tt (ops_fit g es h)

pub commit_sized : (g : Geometry) (torn : List ℕ) (es : List ℕ) (news : List Live) (ps : List Page) (n : ℕ) → length torn ≡ page_size g
    → All (λ x. length x.bytes ≡ g.area) news → All (Sized g) ps → All (Sized g) (run g torn (with_power n ps) (commit_ops es news)).pages
commit_sized g torn es news ps n t h s = run_sized g torn t (with_power n ps) (commit_ops es news) (ops_fit g es h) s
