-- The steps of reading a node's view again: a page, a slot of the node's list, the buffer. Assumes nothing.
use mathlib.Core.Path.{◌≡◌, refl, sym, ap, ap₂, ◌∙◌}
use mathlib.Core.Bool.{cond}
use mathlib.Core.List.{List, [], ◌∷◌, foldl}
use Prim.Native.Nat.{ℕ, suc, ◌+◌, ◌*◌, ◌-◌, ◌/◌, ◌<◌, ◌≤◌, min}
use native.Mathlib.Nat.{add-sub_cancel_left}
use native.Mathlib.Numerals.{add-one}
use native.Mathlib.Omega.{arith}
use lib.ListN.{length, take, drop, get_or, length-take, length-drop, drop_of_length-le, get_or-eq_default}
use lib.Seq.{take-nil, take-add, drop_at, drop-cons, length-take-le, get_or-take, get_or-drop}
use borrow.Author.Tests.{le-leb, lt-leb}
use Rattle.lists.specs.Lists.{part}
use Rattle.chip.specs.Geometry.{Geometry, Fits, page_size}
use Rattle.chip.specs.Page.{Page}
use Rattle.chip.specs.Chip.{pages_of}
use Rattle.chip.proofs.ImageLaws.{length_pages, page_at_lem}
use Rattle.pages.specs.Units.{half, decodes}
use Rattle.views.specs.declared.node.Node.{Node}
use Rattle.views.specs.declared.fold.Stage.{Stage}
use Rattle.views.specs.declared.fold.Stage.TheVariants.{Untouched, Freed, Broken, Full}
use Rattle.views.specs.declared.fold.Folded.{Folded}
use Rattle.views.specs.declared.fold.Shape.{Shape}
use Rattle.views.specs.Nodes.{View, broken}
use Rattle.views.specs.FoldCode.{view_at, is_freed_stage, folded_in, Stands, StandsIn}
use Rattle.views.specs.Stored.{stored_list, view_over, page_view, list_view, is_freed, length_of, buffer_view}

-- ---- a page
-- the units of a page from its data area, and from the page
page_body : (n : ℕ) (x : Page) → 8 ≤ n → n ≤ length x → drop 8 (take n x) ≡ take (n - 8) (drop 8 x)
page_body n x h l =
    let e : 8 + (n - 8) ≡ n = omega arith in
    ap (λ (m : ℕ). drop 8 (take m x)) (sym e)
    ∙ ap (drop 8) (take-add 8 (n - 8) x) ∙ drop_at (take 8 x) (take (n - 8) (drop 8 x)) 8 (length-take-le 8 x (omega arith))

-- the unit count from its data area, and from the page
page_units_lem : (n : ℕ) (x : Page) → 8 ≤ n → half (take n x) 6 ≡ half x 6
page_units_lem n x h = ap₂ (λ (a b : ℕ). a + 256 * b) (get_or-take n x 6 0 (omega arith)) (get_or-take n x 7 0 (omega arith))

module _ (g : Geometry) (f : Fits g) (limit n : ℕ) (w : View) (x : Page) (u : ℕ) (eu : u ≡ half x 6) where
  header : 8 ≤ g.area
  header = omega (arith, f.holds)

  -- as many units as a page holds, or fewer
  pub page_few : length x ≡ page_size g → u ≤ g.units → view_over n w (decodes limit u (take (g.area - 8) (drop 8 x))) ≡ page_view g limit n w x
  unfolding page_view
  page_few h l = rw (page_units_lem g.area x header ∙ sym eu, le-leb u g.units l, page_body g.area x header (omega arith))

  -- more
  pub page_many : g.units < u → broken ≡ page_view g limit n w x
  unfolding page_view
  page_many l = rw (page_units_lem g.area x header ∙ sym eu, lt-leb u g.units l)

-- ---- a page of the image
module _ (g : Geometry) (limit n : ℕ) (w : View) (image : List ℕ) (p : ℕ) where
  abbrev start : ℕ
  start = p * page_size g

  -- on the chip
  pub place_on : p < length image / page_size g
      → page_view g limit n w (part start (start + page_size g - start) image) ≡ page_view g limit n w (get_or (pages_of g image) p [])
  place_on h =
      ap (page_view g limit n w)
      (sym (page_at_lem g image p h ∙ ap (λ (k : ℕ). part start k image) (sym (add-sub_cancel_left start (page_size g)))))

  -- past its end
  pub place_off : length image / page_size g ≤ p → page_view g limit n w (get_or (pages_of g image) p []) ≡ w
  unfolding page_view
  place_off h =
      rw (get_or-eq_default (pages_of g image) [] {n = p} (omega (arith, length_pages g image)), take-nil {A = ℕ} g.area, le-leb 0 g.units (omega arith))

-- ---- the slots of a node
-- a view after the pages at these places
abbrev pub after_pages : Geometry → ℕ → List Page → ℕ → View → List ℕ → View
after_pages g limit pages n w ps = foldl (λ (v : View) (p : ℕ). page_view g limit n v (get_or pages p [])) w ps

module _ (lens slots : List ℕ) (n : ℕ) where
  -- how many pages its list has
  pub list_length : length (stored_list lens slots n) ≡ min (get_or lens n 0) (min 4 (length slots - 4 * n))
  list_length = rw (length-take, length-take, length-drop)

  -- none past the last node
  pub list_past : length lens ≤ n → length (stored_list lens slots n) ≡ 0
  list_past h = rw (get_or-eq_default lens 0 {n = n} h)

  module _ (g : Geometry) (limit : ℕ) (pages : List Page) (i : ℕ) (w : View) where
    -- the next slot
    pub slot_next : i < length (stored_list lens slots n)
        → after_pages g limit pages n w (drop i (stored_list lens slots n)) ≡ list_view g limit pages n (stored_list lens slots n)
        → (p : ℕ) → p ≡ get_or slots (4 * n + i) 0 → (v : View) → v ≡ page_view g limit n w (get_or pages p [])
        → after_pages g limit pages n v (drop (i + 1) (stored_list lens slots n)) ≡ list_view g limit pages n (stored_list lens slots n)
    slot_next h left p q v e =
        let d : List ℕ = drop (4 * n) slots in
        let k : ℕ = get_or lens n 0 in
        let l : List ℕ = stored_list lens slots n in
        let at : get_or l i 0 ≡ p =
        get_or-take k (take 4 d) i 0 (omega (arith, list_length)) ∙ get_or-take 4 d i 0 (omega (arith, list_length)) ∙ get_or-drop (4 * n) slots i 0 ∙ sym q in
        let next : drop i l ≡ p ∷ drop (suc i) l = drop-cons l i 0 h ∙ ap (λ (m : ℕ). m ∷ drop (suc i) l) at in
        ap₂ (after_pages g limit pages n) e (ap (λ (m : ℕ). drop m l) (add-one i)) ∙ ap (after_pages g limit pages n w) (sym next) ∙ left

    -- no slot left
    pub slots_done : length (stored_list lens slots n) ≤ i
        → after_pages g limit pages n w (drop i (stored_list lens slots n)) ≡ list_view g limit pages n (stored_list lens slots n)
        → w ≡ list_view g limit pages n (stored_list lens slots n)
    slots_done h left = ap (after_pages g limit pages n w) (sym (drop_of_length-le (stored_list lens slots n) {i = i} h)) ∙ left

-- ---- the length of a node on flash
freed_stage : (s : Stage) (x : Node) → is_freed (view_at s x) ≡ is_freed_stage s
freed_stage Untouched x = refl
freed_stage Freed x = refl
freed_stage Broken x = refl
freed_stage Full x = refl

-- how many pages its list has, and none where they leave it freed
pub counted : (g : Geometry) (limit : ℕ) (pages : List Page) (lens slots : List ℕ) (n : ℕ) (s : Stage) (x : Node) (used : ℕ)
    → view_at s x ≡ list_view g limit pages n (stored_list lens slots n) → used ≡ length (stored_list lens slots n)
    → cond (is_freed_stage s) 0 used ≡ length_of g limit pages lens slots n
unfolding length_of
counted g limit pages lens slots n s x used e l = rw (← e, freed_stage s x, l)

-- ---- the buffer
module _ (limit n count : ℕ) (bytes : List ℕ) (w : View) where
  -- at most 960 units
  pub buffer_few : count ≤ 960 → view_over n w (decodes limit count bytes) ≡ buffer_view limit n count bytes w
  unfolding buffer_view
  buffer_few h = rw (le-leb count 960 h)

  -- more
  pub buffer_many : 960 < count → broken ≡ buffer_view limit n count bytes w
  unfolding buffer_view
  buffer_many h = rw (lt-leb count 960 h)

-- ---- a view in two arrays
-- the same view by another name
pub renamed : (r : Shape) (ks vs : List ℕ) (w v : View) → StandsIn r ks vs w → w ≡ v → StandsIn r ks vs v
renamed r ks vs w v s e = record { is = s.is ∙ e; room = s.room; keys = s.keys; values = s.values }

-- it is handed back with its entries
pub handed : (r : Shape) (ks vs : List ℕ) (w : View) (f : Folded) → StandsIn r ks vs w → f ≡ folded_in r ks vs → Stands f w
handed r ks vs w f s e = rw e (record { is = s.is; room = s.room })
