-- The node table read from the standing pages: their keys lead to them, and the check of what is stored is steps 4 and 5. Assumes nothing.
use mathlib.Core.Path.{◌≡◌, refl, sym, ap, ap₂, ◌∙◌}
use mathlib.Core.Bool.{Bool, true, false, ◌&&◌, and-false}
use mathlib.Core.List.{List, [], ◌∷◌, map, reverse}
use Prim.Native.Nat.{ℕ, ◌+◌, ◌/◌, ◌%◌, ◌≤◌, ◌<◌}
use native.Mathlib.Omega.{arith}
use lib.Dec.{leb}
use lib.ListN.{length, take, get_or}
use borrow.Author.Tests.{lt-ltb, le-leb, lt-leb, leb-true, leb-false}
use Rattle.lists.specs.Lists.{all, all_below, All, none, more, tab}
use Rattle.lists.proofs.Tests.{cases, same_test}
use Rattle.lists.proofs.Alls.{All-map}
use Rattle.lists.proofs.Anys.{below_all, below_is}
use Rattle.lists.proofs.Flats.{all_tab, tab_all}
use Rattle.chip.specs.Geometry.{Geometry, most_pages, page_size}
use Rattle.chip.specs.Page.{Page}
use Rattle.chip.specs.Chip.{pages_of}
use Rattle.chip.proofs.ImageLaws.{length_pages}
use Rattle.pages.specs.Data.{head_of, obeys}
use Rattle.pages.specs.Steps.{Live, stand, steps}
use Rattle.pages.specs.KeyCode.{key_of}
use Rattle.pages.proofs.HeaderLaws.{obeys_is}
use Rattle.pages.proofs.LivePages.{places_below}
use Rattle.views.specs.Table.{events, is_sound, is_well, is_whole, Node, fresh, node_of}
use Rattle.views.specs.Stored.{stored_list, Stores, list_view}
use Rattle.views.specs.PassCode.{page_at, is_readable, pages_at, all_readable, Passes, Empty}
use Rattle.views.specs.WellCode.{well_stored, all_well_stored}
use Rattle.views.specs.ReadCode.{ReadTable}
use Rattle.views.proofs.ViewLaws.{standing_all, standing_obeys, standing_bytes, view_listed}

-- a key's remainder is its place
key_remainder : (x : Live) → x.place < most_pages → key_of x % most_pages ≡ x.place
unfolding key_of
key_remainder x h = omega arith

-- two tests that are the same below n are the same of all numbers below n and of the list of n elements
pub below_tab : {A : Type 0} (p : A → Bool) (f : ℕ → A) (q : ℕ → Bool) (n : ℕ) → ((i : ℕ) → i < n → q i ≡ p (f i)) → all_below n q ≡ all p (tab 0 n f)
below_tab p f q n h =
    same_test (all_below n q) (all p (tab 0 n f))
    (λ e. all_tab p f 0 n (λ i l. let k : i < n = omega arith in sym (h i k) ∙ below_is n q e i k))
    (λ e. below_all n q (λ i l. h i l ∙ at e i l))
  where
    at : all p (tab 0 n f) ≡ true → (i : ℕ) → i < n → p (f i) ≡ true
    at e i l = let z : 0 + i ≡ i = omega arith in let r = tab_all p f 0 n i e l in rw z at r

-- a stored node passes exactly where the node does
well_same : (g : Geometry) (limit : ℕ) (ps : List Page) (lens slots : List ℕ) (n : ℕ) (s : Node) → Stores lens slots n s.pages
    → s.now ≡ list_view g limit ps n (reverse s.pages) → well_stored g limit ps lens slots n ≡ is_well s
unfolding well_stored is_well
well_same g limit ps lens slots n s st e =
    cases (leb (length s.pages) 4)
    (λ t.
    let l : length s.pages ≤ 4 = leb-true (length s.pages) 4 t in
    let z : get_or lens n 0 ≤ 4 = omega (arith, st.size) in
    let v : is_whole (list_view g limit ps n (stored_list lens slots n)) ≡ is_whole s.now = ap is_whole (ap (list_view g limit ps n) (st.pages l) ∙ sym e) in
    rw (le-leb (get_or lens n 0) 4 z, v, t) (sym (and_one (is_whole s.now))))
    (λ t.
    let l : 4 < length s.pages = leb-false (length s.pages) 4 t in
    let z : 4 < get_or lens n 0 = omega (arith, st.size) in
    rw (lt-leb (get_or lens n 0) 4 z, t) (sym (and-false (is_whole s.now))))
  where
    and_one : (b : Bool) → (b && true) ≡ b
    and_one true = refl
    and_one false = refl

module _ (g : Geometry) (image : List ℕ) (h : length image / page_size g ≤ most_pages) (v xs : List Live) (st : steps g (pages_of g image) ≡ stand v xs) where
  few : length (pages_of g image) ≤ most_pages
  few = omega (arith, length_pages g image)

  -- where a standing page is
  below : All (λ (x : Live). x.place < length (pages_of g image)) xs
  below =
      standing_all g (pages_of g image) v xs st (λ x. x.place < length (pages_of g image))
      (All-map (λ x l. omega arith) (places_below g 0 (pages_of g image)))

  -- its key leads to it
  at_key : (x : Live) → x.place < length (pages_of g image) → x.bytes ≡ take g.area (get_or (pages_of g image) x.place [])
      → page_at g image (key_of x % most_pages) ≡ x
  at_key x l e =
      let k = key_remainder x (omega (arith, few)) in
      ap (page_at g image) k ∙ ap (λ (b : List ℕ). record { place = x.place; bytes = b }) (sym e)

  pages_from_lem : {ys : List Live} → All (λ (x : Live). x.place < length (pages_of g image)) ys
      → All (λ (x : Live). x.bytes ≡ take g.area (get_or (pages_of g image) x.place [])) ys → pages_at g image (map key_of ys) ≡ ys
  pages_from_lem none none = refl
  pages_from_lem (more {x = x} l ls) (more e es) = ap₂ ◌∷◌ (at_key x l e) (pages_from_lem ls es)

  pub pages_of_keys : pages_at g image (map key_of xs) ≡ xs
  pages_of_keys = pages_from_lem below (standing_bytes g (pages_of g image) v xs st)

  read_one : (x : Live) → x.place < length (pages_of g image) → x.bytes ≡ take g.area (get_or (pages_of g image) x.place [])
      → obeys g x.bytes ≡ true → is_readable g image (key_of x % most_pages) ≡ true
  unfolding is_readable
  read_one x l e o =
      let k = key_remainder x (omega (arith, few)) in
      let u : (head_of (take g.area (get_or (pages_of g image) x.place []))).units ≤ g.units = (rw e at (obeys_is g x.bytes o).few) in
      rw (k, lt-ltb x.place (length (pages_of g image)) l)
      (le-leb (head_of (take g.area (get_or (pages_of g image) x.place []))).units g.units u)

  read_from : {ys : List Live} → All (λ (x : Live). x.place < length (pages_of g image)) ys
      → All (λ (x : Live). x.bytes ≡ take g.area (get_or (pages_of g image) x.place [])) ys
      → All (λ (x : Live). obeys g x.bytes ≡ true) ys → all_readable g image (map key_of ys) ≡ true
  read_from none none none = refl
  read_from (more {x = x} l ls) (more e es) (more o os) = rw (read_one x l e o) (read_from ls es os)

  pub keys_readable : all_readable g image (map key_of xs) ≡ true
  keys_readable = read_from below (standing_bytes g (pages_of g image) v xs st) (standing_obeys g (pages_of g image) v xs st)

  -- the pass over the standing pages, from empty lists
  module _ (limit : ℕ) (keys l s r t : List ℕ) (answer : Bool) (ek : keys ≡ map key_of xs) (empty : Empty l)
      (p : Passes g image keys limit l s r t answer) where
    units : events limit (pages_at g image keys) ≡ events limit xs
    units = ap (λ (ks : List ℕ). events limit (pages_at g image ks)) ek ∙ ap (events limit) pages_of_keys

    pub pass_good : answer ≡ all is_sound (events limit xs)
    pass_good =
        p.good
        ∙ ap₂ ◌&&◌ (ap (all_readable g image) ek ∙ keys_readable) (ap (all is_sound) units)

    pub pass_lists : answer ≡ true → (n : ℕ) → n < 256 → Stores r t n (node_of n (events limit xs)).pages
    unfolding node_of
    pass_lists e n b = let k = p.is e n b fresh (empty s n b) in rw units at k

    -- a unit that is none: 8
    pub refused_units : answer ≡ false → ReadTable limit xs r t false
    refused_units e =
        record {
          good = let q : all is_sound (events limit xs) ≡ false = sym pass_good ∙ e in rw q;
          lists = λ z. let u : ◌≡◌ {A = ℕ} 0 1 = cc in absurd (omega arith);
        }

    -- all are units: the nodes decide
    pub read_table : answer ≡ true → limit ≤ 256 → (w : Bool) → w ≡ all_well_stored g limit (pages_of g image) r t → ReadTable limit xs r t w
    read_table e few256 w ew =
        let sound : all is_sound (events limit xs) ≡ true = sym pass_good ∙ e in
        record {
          good = rw sound
              (ew ∙ below_tab is_well (λ (n : ℕ). node_of n (events limit xs)) (well_stored g limit (pages_of g image) r t) limit
              (λ n b. well_same g limit (pages_of g image) r t n (node_of n (events limit xs)) (pass_lists e n (omega arith))
              (view_listed g limit (pages_of g image) v xs st sound n)));
          lists = λ z n b. pass_lists e n b;
        }
