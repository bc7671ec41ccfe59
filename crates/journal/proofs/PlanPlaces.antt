-- Places of a commit: no place twice, each blank after the erases, each in the head or in one of the given blocks. Assumes nothing.
use mathlib.Core.Path.{◌≡◌, refl, sym, ap, ◌∙◌}
use mathlib.Core.Bool.{true, false, not}
use mathlib.Core.List.{List, [], ◌∷◌}
use Prim.Native.Nat.{ℕ, zero, suc, ◌+◌, ◌*◌, ◌≤◌, ◌<◌}
use native.Mathlib.Nat.{mul-le-mul_right}
use native.Mathlib.Omega.{arith}
use lib.Dec.{leb, ltb}
use lib.ListN.{length, length-append, take}
use borrow.Author.Tests.{le-leb, leb-true, lt-ltb, ltb-false, ltb-true}
use Rattle.lists.specs.Lists.{All, At, any, filter, flat, map_from, none, Diff}
use Rattle.lists.proofs.Alls.{All-append, All-filter, All-head, All-map, All-tail, All-take, All-zip, all_All}
use Rattle.lists.proofs.Filters.{filter_is}
use Rattle.lists.proofs.Flats.{length_tab}
use Rattle.lists.proofs.Places.{length_map_from}
use Rattle.lists.proofs.Sets.{Mem, any_mem, diff_append, diff_filter, here, mem_all, mem_at, mem_filter, tab_diff, tab_mem, tab_range, there}
use Rattle.lists.proofs.Tests.{and_intro, and_left, and_right, cases, clash}
use Rattle.chip.specs.Geometry.{Geometry}
use Rattle.chip.specs.Page.{Page, blank, is_free}
use Rattle.chip.specs.Chip.{erase, filled, in_block, whole}
use Rattle.chip.proofs.PageLaws.{free_blank}
use Rattle.chip.proofs.Runs.{Sized}
use Rattle.journal.specs.Commit.{cleared}
use Rattle.journal.specs.Plan.{erases, free_at, pages_in, places, is_reclaimed, wholly_free}

-- ---- a page is in one block
abbrev pub In : Geometry → ℕ → ℕ → Type 0
In g b p = (b * g.pages ≤ p) × (p < b * g.pages + g.pages)

below_block : (k a b p : ℕ) → p < a * k + k → b * k ≤ p → b ≤ a
below_block k a b p h j =
    cases (ltb a b)
    (λ t. let m : suc a * k ≤ b * k = mul-le-mul_right k (ltb-true a b t) in absurd (omega arith))
    (λ t. ltb-false a b t)

pub one_block : (k a b p : ℕ) → a * k ≤ p → p < a * k + k → b * k ≤ p → p < b * k + k → a ≡ b
one_block k a b p h i j l = omega (arith, below_block k a b p i j, below_block k b a p l h)

pub in_block_lem : (g : Geometry) (b p : ℕ) → In g b p → in_block g b p ≡ true
unfolding in_block
in_block_lem g b p h = rw (le-leb (b * g.pages) p h.0, lt-ltb p (b * g.pages + g.pages) h.1)

pub block_in : (g : Geometry) (b p : ℕ) → in_block g b p ≡ true → In g b p
unfolding in_block
block_in g b p h = (
  leb-true (b * g.pages) p (and_left (leb (b * g.pages) p) (ltb p (b * g.pages + g.pages)) h),
  ltb-true p (b * g.pages + g.pages) (and_right (leb (b * g.pages) p) (ltb p (b * g.pages + g.pages)) h),
)

pub out_block : (g : Geometry) (a b p : ℕ) → In g a p → (a ≡ b → ⊥) → in_block g b p ≡ false
out_block g a b p h d = cases (in_block g b p) (λ t. let k = block_in g b p t in absurd (d (one_block g.pages a b p h.0 h.1 k.0 k.1))) (λ t. t)

-- ---- where a place comes from
pub data Origin (g : Geometry) (ps : List Page) (head : ℕ) (bs : List ℕ) (p : ℕ) : Type 0 where
  old : In g head p → free_at ps p ≡ true → Origin g ps head bs p
  new : (b : ℕ) → Mem b bs → In g b p → Origin g ps head bs p

pub record Inside (g : Geometry) (bs : List ℕ) (p : ℕ) : Type 0 where
  pub at : ℕ
  pub mem : Mem at bs
  pub is : In g at p

flat_in : (g : Geometry) (bs : List ℕ) → All (Inside g bs) (flat (pages_in g) bs)
flat_in g [] = none
flat_in g (b ∷ bs) =
    All-append (All-map (λ p h. record { at = b; mem = here; is = h }) (tab_range (b * g.pages) g.pages))
    (All-map (λ p h. record { at = h.at; mem = there h.mem; is = h.is }) (flat_in g bs))

flat_diff : (g : Geometry) (bs : List ℕ) → Diff bs → Diff (flat (pages_in g) bs)
flat_diff g [] d = tt
flat_diff g (b ∷ bs) d =
    diff_append (pages_in g b) (flat (pages_in g) bs) (tab_diff (b * g.pages) g.pages) (flat_diff g bs d.1)
    (All-map (λ p h. All-map (λ q k e. apart p q h k e) (flat_in g bs)) (tab_range (b * g.pages) g.pages))
  where
    apart : (p q : ℕ) → In g b p → Inside g bs q → p ≡ q → ⊥
    apart p q h k e =
        let i = k.is in
        mem_at k.mem d.0 (one_block g.pages b k.at p h.0 h.1 (omega (arith, i.0)) (omega (arith, i.1)))

pub length_flat : (g : Geometry) (bs : List ℕ) → length (flat (pages_in g) bs) ≡ length bs * g.pages
length_flat g [] = omega arith
length_flat g (b ∷ bs) = length-append (pages_in g b) (flat (pages_in g) bs) ∙ omega (arith, length_tab (λ (i : ℕ). i) (b * g.pages) g.pages, length_flat g bs)

module _ (g : Geometry) (ps : List Page) (head : ℕ) (bs : List ℕ) where
  pub places_from : All (Origin g ps head bs) (places g ps head bs)
  places_from =
      All-append
      (All-zip (λ p h k. old h k) (All-filter (free_at ps) (tab_range (head * g.pages) g.pages)) (filter_is (free_at ps) (pages_in g head)))
      (All-map (λ p h. new h.at h.mem h.is) (flat_in g bs))

  pub length_places : length bs * g.pages ≤ length (places g ps head bs)
  length_places = omega (arith, length-append (filter (free_at ps) (pages_in g head)) (flat (pages_in g) bs), length_flat g bs)

  pub places_diff : Diff bs → All (λ b. b ≡ head → ⊥) bs → Diff (places g ps head bs)
  places_diff d a =
      diff_append (filter (free_at ps) (pages_in g head)) (flat (pages_in g) bs) (diff_filter (free_at ps) (pages_in g head) (tab_diff (head * g.pages) g.pages)) (flat_diff g bs d)
      (All-map (λ p h. All-map (λ q k e. apart p q h k e) (flat_in g bs)) (All-filter (free_at ps) (tab_range (head * g.pages) g.pages)))
    where
      apart : (p q : ℕ) → In g head p → Inside g bs q → p ≡ q → ⊥
      apart p q h k e =
          let i = k.is in
          mem_at k.mem a (one_block g.pages k.at head p (omega (arith, i.0)) (omega (arith, i.1)) h.0 h.1)

-- ---- blank pages
pub free_at_lem : (g : Geometry) (ps : List Page) (p : ℕ) → All (Sized g) ps → free_at ps p ≡ true → At p (blank g) ps
unfolding is_free
free_at_lem g [] p s h = clash h refl
free_at_lem g (x ∷ ps) zero s h = sym (free_blank g x (All-head s) h)
free_at_lem g (x ∷ ps) (suc p) s h = free_at_lem g ps p (All-tail s) h

erase_keeps : (g : Geometry) (b i p : ℕ) (ps : List Page) → At p (blank g) ps → At p (blank g) (map_from i (filled g b (blank g)) ps)
erase_keeps g b i p [] h = h
erase_keeps g b i zero (x ∷ ps) h = cases (in_block g b i) (λ t. rw t) (λ t. rw t h)
erase_keeps g b i (suc p) (x ∷ ps) h = erase_keeps g b (suc i) p ps h

erase_makes : (g : Geometry) (b i p q : ℕ) (ps : List Page) → q ≡ i + p → in_block g b q ≡ true → p < length ps
    → At p (blank g) (map_from i (filled g b (blank g)) ps)
erase_makes g b i p q [] e h l = omega arith
erase_makes g b i zero q (x ∷ ps) e h l = let w : i ≡ q = omega arith in rw (w, h)
erase_makes g b i (suc p) q (x ∷ ps) e h l = erase_makes g b (suc i) p q ps (omega arith) h (omega arith)

pub cleared_keeps : (g : Geometry) (es : List ℕ) (p : ℕ) (ps : List Page) → At p (blank g) ps → At p (blank g) (cleared g es ps)
cleared_keeps g [] p ps h = h
cleared_keeps g (e ∷ es) p ps h = cleared_keeps g es p (whole g (erase e) ps) (erase_keeps g e 0 p ps h)

pub cleared_makes : (g : Geometry) (b : ℕ) {es : List ℕ} (p : ℕ) (ps : List Page) → Mem b es → in_block g b p ≡ true → p < length ps → At p (blank g) (cleared g es ps)
cleared_makes g b p ps (here {xs = es}) h l = cleared_keeps g es p (whole g (erase b) ps) (erase_makes g b 0 p p ps (omega arith) h l)
cleared_makes g b p ps (there {y = c} m) h l = cleared_makes g b p (whole g (erase c) ps) m h (omega (arith, length_map_from 0 (filled g c (blank g)) ps))

-- each of the first places is blank after the erases
pub places_blank : (g : Geometry) (ps : List Page) (head : ℕ) (bs : List ℕ) (n : ℕ) → All (Sized g) ps
    → All (λ b. (p : ℕ) → In g b p → p < length ps) bs
    → All (λ p. At p (blank g) (cleared g (erases g ps (take n (places g ps head bs)) bs) ps)) (take n (places g ps head bs))
places_blank g ps head bs n s r =
    let ws = take n (places g ps head bs) in
    mem_all ws (λ p m. go ws p m (mem_at m (All-take n (places_from g ps head bs))))
  where
    go : (ws : List ℕ) (p : ℕ) → Mem p ws → Origin g ps head bs p → At p (blank g) (cleared g (erases g ps ws bs) ps)
    go ws p m (old i f) = cleared_keeps g (erases g ps ws bs) p ps (free_at_lem g ps p s f)
    go ws p m (new b k i) =
        cases (wholly_free g ps b)
        (λ t. cleared_keeps g (erases g ps ws bs) p ps
        (free_at_lem g ps p s (mem_at (tab_mem (b * g.pages) g.pages p i.0 i.1) (all_All (free_at ps) (pages_in g b) t))))
        (λ t. cleared_makes g b p ps
        (mem_filter (is_reclaimed g ps ws) k
        (and_intro (any (in_block g b) ws) (not (wholly_free g ps b)) (any_mem (in_block g b) m (in_block_lem g b p i)) (ap not t)))
        (in_block_lem g b p i) (mem_at k r p i))
