-- Pages, byte by byte: free pages, blank and torn pages, sizes. Assumes nothing.
use Rattle.std.proofs.Common.{◌≡◌, ℕ, zero, suc, ◌+◌, ◌-◌, ◌<◌, ◌≤◌, Bool, true, ◌&&◌, eqb, List, ◌++◌, [], ◌∷◌, map, length, get_or, take, drop, replicate, sym, refl, ap, ◌∙◌, arith, length-append, length-drop, length-set, length-take-le, get_or-drop, get_or-take, drop-drop, drop_at, get_or-append-add, eqb-true}
use Rattle.std.specs.List.{list_all}
use lib.ListN.{length-replicate, length-map, replicate-append-replicate, get_or-map, get_or-append}
use Rattle.lists.specs.Lists.{all}
use Rattle.lists.proofs.Alls.{all_replicate}
use Rattle.lists.proofs.Flats.{all_append}
use Rattle.lists.proofs.Places.{get_d_default}
use Rattle.chip.specs.declared.page.Mark.{Mark}
use Rattle.chip.specs.Geometry.{Geometry, page_size}
use Rattle.chip.specs.Page.{Page, is_free, is_set, blank, mend, torn_page, marked, programmed, spare_byte}

-- std's word for the same test of every element
pub list_all_same : {A : Type 0} (p : A → Bool) (xs : List A) → list_all p xs ≡ all p xs
list_all_same p [] = refl
list_all_same p (x ∷ xs) = ap (λ (b : Bool). p x && b) (list_all_same p xs)

-- ---- free pages, part by part
-- of what is left a part, whose answer is b, and then the rest
pub free_first : (rest front more : List ℕ) (b : Bool) → rest ≡ front ++ more → is_free front ≡ b → is_free rest ≡ (b && is_free more)
unfolding is_free
free_first rest front more b e t =
    ap is_free e ∙ all_append (λ (b : ℕ). eqb b 255) front more ∙ ap (λ (b : Bool). b && is_free more) t

-- what is left of xs behind a part of what was left
pub left_over : (xs rest front more : List ℕ) → rest ≡ front ++ more → length rest ≤ length xs → rest ≡ drop (length xs - length rest) xs
    → more ≡ drop (length xs - length more) xs
left_over xs rest front more e h r =
    let l : length rest ≡ length front + length more = ap length e ∙ length-append front more in
    let n : length xs - length rest + length front ≡ length xs - length more = omega arith in
    sym (drop_at front more (length front) refl) ∙ ap (drop (length front)) (sym e ∙ r)
    ∙ drop-drop (length front) (length xs - length rest) xs
    ∙ ap (λ (m : ℕ). drop m xs) n

-- a byte of a torn erase that is not 0 stays
pub mend_other : (n : ℕ) → (n ≡ 0 → ⊥) → mend n ≡ n
mend_other zero h = absurd (h refl)
mend_other (suc n) h = refl

module _ (g : Geometry) where
  -- ---- blank pages
  pub blank_bytes : blank g ≡ replicate (page_size g) 255
  unfolding blank
  blank_bytes = replicate-append-replicate g.area g.spare 255

  pub length_blank : length (blank g) ≡ page_size g
  length_blank = ap length blank_bytes ∙ length-replicate (page_size g) 255

  -- a page that reads free is the blank one
  pub free_blank : (x : Page) → length x ≡ page_size g → is_free x ≡ true → x ≡ blank g
  unfolding is_free
  free_blank x h e =
      all_replicate 255 (λ (b : ℕ). eqb b 255) (λ b t. eqb-true b 255 t) x e ∙ ap (λ (n : ℕ). replicate n 255) h ∙ sym blank_bytes

  -- ---- torn pages
  module _ (torn : List ℕ) (h : length torn ≡ page_size g) where
    front : length (take g.area torn) ≡ g.area
    front = length-take-le g.area torn (omega arith)

    pub length_torn : length (torn_page g torn) ≡ page_size g
    unfolding torn_page
    length_torn =
        length-append (take g.area torn) (map mend (drop g.area torn))
        ∙ rw (front, length-map) (omega (arith, length-drop g.area torn))

    -- a byte of its data area, and one of its spare area
    pub torn_data : (i : ℕ) → i < g.area → get_or (torn_page g torn) i 0 ≡ get_or torn i 0
    unfolding torn_page
    torn_data i l = get_or-append (take g.area torn) (map mend (drop g.area torn)) 0 i (omega (arith, front)) ∙ get_or-take g.area torn i 0 l

    pub torn_spare : (i : ℕ) → g.area ≤ i → i < page_size g → get_or (torn_page g torn) i 0 ≡ mend (get_or torn i 0)
    unfolding torn_page
    torn_spare i l k =
        let s : List ℕ = drop g.area torn in
        let j : ℕ = i - g.area in
        let e : length (take g.area torn) + j ≡ i = omega (arith, front) in
        let e' : g.area + j ≡ i = omega arith in
        let q : length (map mend s) ≡ g.spare = length-map s mend ∙ omega (arith, length-drop g.area torn) in
        ap (λ (n : ℕ). get_or (take g.area torn ++ map mend s) n 0) (sym e)
        ∙ get_or-append-add (take g.area torn) (map mend s) j 0
        ∙ get_d_default (map mend s) j 0 255 (omega (arith, q))
        ∙ get_or-map mend s j 0
        ∙ ap mend (get_or-drop g.area torn j 0 ∙ ap (λ (n : ℕ). get_or torn n 0) e')

  -- ---- an operation keeps a page's size
  pub length_marked : (m : Mark) (v : ℕ) (x : Page) → length (marked g m v x) ≡ length x
  length_marked m v x = length-set x (g.area + spare_byte m) v

  pub length_programmed : (bytes : List ℕ) (x : Page) → length bytes ≡ g.area → g.area ≤ length x → length (programmed g bytes x) ≡ length x
  length_programmed bytes x e h = length-append bytes (drop g.area x) ∙ omega (arith, length-drop g.area x)

  -- a mark as code reads it
  pub set_read : (m : Mark) (x : Page) → g.area + spare_byte m < length x → is_set g m x ≡ eqb (get_or x (g.area + spare_byte m) 0) 0
  unfolding is_set
  set_read m x h = ap (λ (b : ℕ). eqb b 0) (get_d_default x (g.area + spare_byte m) 255 0 h)
