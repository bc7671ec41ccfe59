-- What marking, programming and erasing do to a page's marks, to its data area and to whether it is live. Assumes nothing.
use Rattle.std.proofs.Common.{◌≡◌, ℕ, zero, suc, ◌+◌, ◌<◌, ◌≤◌, Bool, true, false, not, ◌&&◌, eqb, leb, List, [], ◌++◌, map, length, get_or, take, drop, sym, refl, ap, ◌∙◌, arith, length-append, drop_of_length-le, length-take, length-take-le, get_or-drop, get_or-set_other, get_or-set_same, take_at, get_or-append-add, ne_eqb, leb-false, leb-true}
use lib.ListN.{replicate-append-replicate, get_or-map, get_or-eq_default}
use lib.Seq.{take-set-le}
use Rattle.lists.specs.Lists.{At, map_from}
use Rattle.lists.proofs.Tests.{cases, and_left}
use Rattle.lists.proofs.Places.{At-map_from, get_d_same}
use Rattle.chip.specs.declared.page.Mark.{Mark}
use Rattle.chip.specs.declared.page.Mark.TheVariants.{Used, Valid, Obsolete}
use Rattle.chip.specs.Geometry.{Geometry}
use Rattle.chip.proofs.PageLaws.{length_blank, length_marked, length_programmed}
use Rattle.chip.specs.Chip.{in_block, filled, erase, whole, tear}
use Rattle.chip.specs.Page.{Page, spare_byte, is_set, is_live, blank, marked, programmed, mend, torn_page}

-- ---- marks
spare_low : (m : Mark) → spare_byte m < 3
spare_low Used = omega arith
spare_low Valid = omega arith
spare_low Obsolete = omega arith

-- a mark made v, and the other marks
pub marked_same : (g : Geometry) (m : Mark) (v : ℕ) (x : Page) → length x ≡ g.area + g.spare → 3 ≤ g.spare
    → is_set g m (marked g m v x) ≡ eqb v 0
unfolding is_set
marked_same g m v x l h = ap (λ (b : ℕ). eqb b 0) (get_or-set_same x (g.area + spare_byte m) v 255 (omega (arith, spare_low m)))

pub marked_other : (g : Geometry) (m n : Mark) (v : ℕ) (x : Page) → (spare_byte n ≡ spare_byte m → ⊥) → is_set g n (marked g m v x) ≡ is_set g n x
unfolding is_set
marked_other g m n v x d =
    ap (λ (b : ℕ). eqb b 0) (get_or-set_other x (g.area + spare_byte m) (g.area + spare_byte n) v 255 (λ e. d (omega arith)))

pub marked_data : (g : Geometry) (m : Mark) (v : ℕ) (x : Page) → take g.area (marked g m v x) ≡ take g.area x
marked_data g m v x = take-set-le g.area x (g.area + spare_byte m) v (omega arith)

-- ---- programming
pub programmed_marks : (g : Geometry) (m : Mark) (d : List ℕ) (x : Page) → length d ≡ g.area → is_set g m (programmed g d x) ≡ is_set g m x
unfolding is_set
programmed_marks g m d x l =
    ap (λ (b : ℕ). eqb b 0)
    (ap (λ (a : ℕ). get_or (d ++ drop g.area x) (a + spare_byte m) 255) (sym l)
    ∙ get_or-append-add d (drop g.area x) (spare_byte m) 255 ∙ get_or-drop g.area x (spare_byte m) 255)

pub programmed_data : (g : Geometry) (d : List ℕ) (x : Page) → length d ≡ g.area → take g.area (programmed g d x) ≡ d
programmed_data g d x l = take_at d (drop g.area x) g.area l

-- ---- an erased page, and a page whose erase was torn: no mark is set
pub blank_unset : (g : Geometry) (m : Mark) → is_set g m (blank g) ≡ false
unfolding is_set blank
blank_unset g m =
    ap (λ (b : ℕ). eqb b 0)
    (ap (λ (l : List ℕ). get_or l (g.area + spare_byte m) 255) (replicate-append-replicate g.area g.spare 255)
    ∙ get_d_same (g.area + g.spare) (g.area + spare_byte m) 255)

mend_set : (n : ℕ) → mend n ≡ 0 → ⊥
mend_set zero e = omega arith
mend_set (suc n) e = omega arith

torn_byte_lem : (g : Geometry) (torn : List ℕ) (k : ℕ) → get_or (take g.area torn ++ map mend (drop g.area torn)) (g.area + k) 255 ≡ mend (get_or (drop g.area torn) k 255)
torn_byte_lem g torn k =
    cases (leb g.area (length torn))
    (λ t.
    let l : length (take g.area torn) ≡ g.area = length-take-le g.area torn (leb-true g.area (length torn) t) in
    ap (λ (a : ℕ). get_or (take g.area torn ++ map mend (drop g.area torn)) (a + k) 255) (sym l)
    ∙ get_or-append-add (take g.area torn) (map mend (drop g.area torn)) k 255
    ∙ get_or-map mend (drop g.area torn) k 255)
    (λ t.
    let l : length torn < g.area = leb-false g.area (length torn) t in
    let h : length torn ≤ g.area = omega arith in
    let e : drop g.area torn ≡ [] = drop_of_length-le torn h in
    rw e (get_or-eq_default (take g.area torn ++ []) 255 (simp (length-append, length-take) (omega arith))))

pub torn_unset : (g : Geometry) (torn : List ℕ) (m : Mark) → is_set g m (torn_page g torn) ≡ false
unfolding is_set torn_page
torn_unset g torn m =
    let b : ℕ = get_or (drop g.area torn) (spare_byte m) 255 in
    ap (λ (a : ℕ). eqb a 0) (torn_byte_lem g torn (spare_byte m)) ∙ ne_eqb (mend b) 0 (mend_set b)

-- ---- live
unset_quiet : (g : Geometry) (x : Page) → is_set g Valid x ≡ false → is_live g x ≡ false
unset_quiet g x e = rw e

pub blank_quiet : (g : Geometry) → is_live g (blank g) ≡ false
blank_quiet g = unset_quiet g (blank g) (blank_unset g Valid)

pub torn_quiet : (g : Geometry) (torn : List ℕ) → is_live g (torn_page g torn) ≡ false
torn_quiet g torn = unset_quiet g (torn_page g torn) (torn_unset g torn Valid)

-- the used mark and the data make no page live
pub used_live : (g : Geometry) (v : ℕ) (x : Page) → is_live g (marked g Used v x) ≡ is_live g x
used_live g v x = rw (marked_other g Used Valid v x (λ e. omega arith), marked_other g Used Obsolete v x (λ e. omega arith))

pub programmed_live : (g : Geometry) (d : List ℕ) (x : Page) → length d ≡ g.area → is_live g (programmed g d x) ≡ is_live g x
programmed_live g d x l = rw (programmed_marks g Valid d x l, programmed_marks g Obsolete d x l)

-- the valid mark does, and the obsolete mark undoes it
pub valid_live : (g : Geometry) (v : ℕ) (x : Page) → length x ≡ g.area + g.spare → 3 ≤ g.spare
    → is_live g (marked g Valid v x) ≡ (eqb v 0 && not (is_set g Obsolete x))
valid_live g v x l h = rw (marked_same g Valid v x l h, marked_other g Valid Obsolete v x (λ e. omega arith))

pub obsolete_live : (g : Geometry) (v : ℕ) (x : Page) → length x ≡ g.area + g.spare → 3 ≤ g.spare
    → is_live g (marked g Obsolete v x) ≡ (is_set g Valid x && not (eqb v 0))
obsolete_live g v x l h = rw (marked_same g Obsolete v x l h, marked_other g Obsolete Valid v x (λ e. omega arith))

-- of a live page
pub obsolete : (g : Geometry) (v : ℕ) (x : Page) → length x ≡ g.area + g.spare → 3 ≤ g.spare → is_live g x ≡ true
    → is_live g (marked g Obsolete v x) ≡ not (eqb v 0)
obsolete g v x l h k = obsolete_live g v x l h ∙ rw (and_left (is_set g Valid x) (not (is_set g Obsolete x)) k)

-- ---- a page that was free after its first, second and third operation: used mark u, data d, valid mark v
abbrev pub first : Geometry → ℕ → Page
first g u = marked g Used u (blank g)

abbrev pub second : Geometry → ℕ → List ℕ → Page
second g u d = programmed g d (first g u)

abbrev pub third : Geometry → ℕ → List ℕ → ℕ → Page
third g u d v = marked g Valid v (second g u d)

pub first_quiet : (g : Geometry) (u : ℕ) → is_live g (first g u) ≡ false
first_quiet g u = used_live g u (blank g) ∙ blank_quiet g

module _ (g : Geometry) (u : ℕ) (d : List ℕ) (ld : length d ≡ g.area) where
  length_first : length (first g u) ≡ g.area + g.spare
  length_first = length_marked g Used u (blank g) ∙ length_blank g

  pub length_second : length (second g u d) ≡ g.area + g.spare
  length_second = length_programmed g d (first g u) ld (omega (arith, length_first)) ∙ length_first

  pub second_quiet : is_live g (second g u d) ≡ false
  second_quiet = programmed_live g d (first g u) ld ∙ first_quiet g u

  second_obsolete : is_set g Obsolete (second g u d) ≡ false
  second_obsolete =
      programmed_marks g Obsolete d (first g u) ld ∙ marked_other g Used Obsolete u (blank g) (λ e. omega arith) ∙ blank_unset g Obsolete

  -- live exactly if the valid mark became 0
  pub third_live : (v : ℕ) → 3 ≤ g.spare → is_live g (third g u d v) ≡ eqb v 0
  third_live v h = valid_live g v (second g u d) length_second h ∙ rw second_obsolete (and_true (eqb v 0))
    where
      and_true : (b : Bool) → (b && true) ≡ b
      and_true true = refl
      and_true false = refl

  pub third_data : (v : ℕ) → take g.area (third g u d v) ≡ d
  third_data v = marked_data g Valid v (second g u d) ∙ programmed_data g d (first g u) ld

-- ---- an erase, whole or torn, leaves no page of its block live; a torn one whose torn byte 0 is 0 leaves the block as it was
fill_quiet : (g : Geometry) (b n : ℕ) (y x : Page) (ps : List Page) → is_live g y ≡ false → in_block g b n ≡ true → At n x ps
    → At n y (map_from 0 (filled g b y) ps)
fill_quiet g b n y x ps q h a =
    let r = At-map_from (filled g b y) 0 n x ps a in
    let e : 0 + n ≡ n = omega arith in
    let k : At n (filled g b y n x) (map_from 0 (filled g b y) ps) = (rw e at r) in
    rw h at k

-- what stands in a page of the block afterwards
pub record Quiet (g : Geometry) (n : ℕ) (ps : List Page) : Type 0 where
  pub page : Page
  pub stands : At n page ps
  pub dead : is_live g page ≡ false

pub erase_quiet : (g : Geometry) (b n : ℕ) (x : Page) (ps : List Page) → in_block g b n ≡ true → At n x ps → Quiet g n (whole g (erase b) ps)
erase_quiet g b n x ps h a =
    record { page = blank g; stands = fill_quiet g b n (blank g) x ps (blank_quiet g) h a; dead = blank_quiet g }

pub torn_erase_quiet : (g : Geometry) (torn : List ℕ) (b n : ℕ) (x : Page) (ps : List Page) → eqb (get_or torn 0 0) 0 ≡ false
    → in_block g b n ≡ true → At n x ps → Quiet g n (tear g torn (erase b) ps)
torn_erase_quiet g torn b n x ps z h a =
    rw z (record { page = torn_page g torn; stands = fill_quiet g b n (torn_page g torn) x ps (torn_quiet g torn) h a; dead = torn_quiet g torn })
