-- The live pages, by place and in order, when pages of the chip change. Assumes nothing.
use mathlib.Core.Path.{◌≡◌, refl, sym, ap, ◌∙◌}
use mathlib.Core.Bool.{Bool, true, false, not}
use mathlib.Core.List.{List, [], ◌∷◌, ◌++◌}
use Prim.Native.Nat.{ℕ, zero, suc, ◌+◌, ◌≤◌, ◌<◌}
use native.Mathlib.Omega.{arith}
use lib.Dec.{eqb}
use lib.ListN.{length, take}
use borrow.Author.Tests.{eq-eqb, ne_eqb}
use Rattle.lists.specs.Lists.{filter, All, none, more, At, modify, map_from}
use Rattle.lists.proofs.Tests.{cases}
use Rattle.lists.proofs.Alls.{All-head, All-tail, All-map}
use Rattle.lists.proofs.Filters.{filter_all}
use Rattle.lists.proofs.Sorts.{All-sort, insert_last, insert_inner, sort_filter}
use Rattle.chip.specs.Geometry.{Geometry}
use Rattle.chip.specs.Page.{Page, is_live}
use Rattle.chip.specs.Chip.{in_block, filled}
use Rattle.pages.specs.Steps.{Live, live, live_from, before, ordered}
use Rattle.pages.proofs.Order.{asym, trans}

-- the tests by place that an erase and an obsolete mark come to
abbrev pub outside : Geometry → ℕ → Live → Bool
outside g b x = not (in_block g b x.place)

abbrev pub elsewhere : ℕ → Live → Bool
elsewhere p x = not (eqb x.place p)

module _ (g : Geometry) where
  -- a live page stands where it was found
  pub places : (i : ℕ) (ps : List Page) → All (λ (y : Live). i ≤ y.place) (live_from g i ps)
  places i [] = none
  places i (x ∷ xs) =
      let r : All (λ (y : Live). i ≤ y.place) (live_from g (suc i) xs) = All-map (λ y h. omega arith) (places (suc i) xs) in
      cases (is_live g x) (λ t. rw t (more {x = live g i x} (omega arith) r)) (λ t. rw t r)

  pub places_below : (i : ℕ) (ps : List Page) → All (λ (y : Live). y.place < i + length ps) (live_from g i ps)
  places_below i [] = none
  places_below i (x ∷ xs) =
      let r : All (λ (y : Live). y.place < i + length (x ∷ xs)) (live_from g (suc i) xs) = All-map (λ y h. omega arith) (places_below (suc i) xs) in
      cases (is_live g x) (λ t. rw t (more {x = live g i x} (omega arith) r)) (λ t. rw t r)

  -- a place has one page
  pub single : (p i q : ℕ) (x : Page) (ps : List Page) → q ≡ i + p → At p x ps
      → All (λ (y : Live). y.place ≡ q → y.bytes ≡ take g.area x) (live_from g i ps)
  single p i q x [] e a = none
  single zero i q x (y ∷ ys) e a =
      let r : All (λ (w : Live). w.place ≡ q → w.bytes ≡ take g.area x) (live_from g (suc i) ys) = All-map (λ w l z. absurd (omega arith)) (places (suc i) ys) in
      cases (is_live g y) (λ t. rw t (more {x = live g i y} (λ z. ap (take g.area) (sym a)) r)) (λ t. rw t r)
  single (suc p) i q x (y ∷ ys) e a =
      let r = single p (suc i) q x ys (omega arith) a in
      cases (is_live g y) (λ t. rw t (more {x = live g i y} (λ z. absurd (omega arith)) r)) (λ t. rw t r)

  -- ---- one page altered
  -- it is not live before and after
  pub quiet : (f : Page → Page) (p i : ℕ) (x : Page) (ps : List Page) → At p x ps → is_live g x ≡ false → is_live g (f x) ≡ false
      → live_from g i (modify p f ps) ≡ live_from g i ps
  quiet f p i x [] a h k = refl
  quiet f zero i x (y ∷ ys) a h k = rw (← a, h, k)
  quiet f (suc p) i x (y ∷ ys) a h k = rw (quiet f p (suc i) x ys a h k)

  -- it is live, keeps its data and stays live
  pub steady : (f : Page → Page) (p i : ℕ) (x : Page) (ps : List Page) → At p x ps → is_live g x ≡ true → is_live g (f x) ≡ true
      → take g.area (f x) ≡ take g.area x → live_from g i (modify p f ps) ≡ live_from g i ps
  steady f p i x [] a h k e = refl
  steady f zero i x (y ∷ ys) a h k e = rw (← a, h, k, e)
  steady f (suc p) i x (y ∷ ys) a h k e = rw (steady f p (suc i) x ys a h k e)

  -- it becomes live, behind all others in the order
  pub becomes_live : (f : Page → Page) (p i q : ℕ) (x : Page) (ps : List Page) → q ≡ i + p → At p x ps → is_live g x ≡ false → is_live g (f x) ≡ true
      → All (λ (z : Live). before z (live g q (f x)) ≡ true) (live_from g i ps)
      → ordered (live_from g i (modify p f ps)) ≡ ordered (live_from g i ps) ++ (live g q (f x) ∷ [])
  becomes_live f p i q x [] e a h k b = absurd a
  becomes_live f zero i q x (y ∷ ys) e a h k b =
      let w : i ≡ q = omega arith in
      let c : All (λ (z : Live). before z (live g q (f x)) ≡ true) (live_from g (suc i) ys) = (rw (← a, h) at b) in
      rw (← a, k, h, w) (insert_last before (live g q (f x)) (All-sort before (rw w at c)))
  becomes_live f (suc p) i q x (y ∷ ys) e a h k b =
      let w : q ≡ suc i + p = omega arith in
      cases (is_live g y)
      (λ l. let c : All (λ (z : Live). before z (live g q (f x)) ≡ true) (live g i y ∷ live_from g (suc i) ys) = (rw l at b) in
      rw (l, becomes_live f p (suc i) q x ys w a h k (All-tail c))
      (insert_inner before (live g i y) (live g q (f x)) (ordered (live_from g (suc i) ys)) (asym (live g q (f x)) (live g i y) (All-head c))))
      (λ l. let c : All (λ (z : Live). before z (live g q (f x)) ≡ true) (live_from g (suc i) ys) = (rw l at b) in
      rw l (becomes_live f p (suc i) q x ys w a h k c))

  -- it is live no more
  pub shrink : (f : Page → Page) (p i q : ℕ) (x : Page) (ps : List Page) → q ≡ i + p → At p x ps → is_live g (f x) ≡ false
      → live_from g i (modify p f ps) ≡ filter (elsewhere q) (live_from g i ps)
  shrink f p i q x [] e a h = absurd a
  shrink f zero i q x (y ∷ ys) e a h =
      let r : filter (elsewhere q) (live_from g (suc i) ys) ≡ live_from g (suc i) ys =
      filter_all (elsewhere q) (All-map (λ w l. ap not (ne_eqb w.place q (λ z. omega arith))) (places (suc i) ys)) in
      rw (← a, h) (cases (is_live g x) (λ t. rw (t, eq-eqb i q (omega arith), r)) (λ t. rw (t, r)))
  shrink f (suc p) i q x (y ∷ ys) e a h =
      let r = shrink f p (suc i) q x ys (omega arith) a h in
      cases (is_live g y) (λ t. rw (t, ne_eqb i q (λ z. omega arith), r)) (λ t. rw (t, r))

  pub shrink_ordered : (f : Page → Page) (p : ℕ) (x : Page) (ps : List Page) → At p x ps → is_live g (f x) ≡ false
      → ordered (live_from g 0 (modify p f ps)) ≡ filter (elsewhere p) (ordered (live_from g 0 ps))
  shrink_ordered f p x ps a h =
      ap ordered (shrink f p 0 p x ps (omega arith) a h) ∙ sort_filter before asym trans (elsewhere p) (live_from g 0 ps)

  -- ---- an erase, whole or torn: the live pages of the block are gone
  pub gone : (b : ℕ) (y : Page) (i : ℕ) (ps : List Page) → is_live g y ≡ false
      → live_from g i (map_from i (filled g b y) ps) ≡ filter (outside g b) (live_from g i ps)
  gone b y i [] h = refl
  gone b y i (x ∷ xs) h =
      let r = gone b y (suc i) xs h in
      cases (in_block g b i)
      (λ t. cases (is_live g x) (λ l. rw (t, l, h, t, r)) (λ l. rw (t, l, h, r)))
      (λ t. cases (is_live g x) (λ l. rw (t, l, t, r)) (λ l. rw (t, l, r)))

  pub gone_ordered : (b : ℕ) (y : Page) (ps : List Page) → is_live g y ≡ false
      → ordered (live_from g 0 (map_from 0 (filled g b y) ps)) ≡ filter (outside g b) (ordered (live_from g 0 ps))
  gone_ordered b y ps h = ap ordered (gone b y 0 ps h) ∙ sort_filter before asym trans (outside g b) (live_from g 0 ps)
