-- Headers and pages laid out: the own rules taken apart, and what is laid out is read back. Assumes nothing.
use mathlib.Core.Path.{◌≡◌, refl, sym, ap, ap₂, ◌∙◌, subst}
use mathlib.Core.Bool.{Bool, true, false, ◌&&◌}
use mathlib.Core.List.{List, ◌++◌, map}
use Prim.Native.Nat.{ℕ, ◌+◌, ◌-◌, ◌*◌, ◌^◌, ◌<◌, ◌≤◌}
use native.Mathlib.Nat.{sub-zero, add-sub_cancel_left}
use native.Mathlib.Omega.{arith}
use lib.Dec.{eqb}
use lib.ListN.{length, take, drop, replicate, length-append, length-drop, length-replicate}
use lib.Seq.{drop_at, drop-drop, take_all, length-take-le}
use borrow.Author.Tests.{lt-ltb, le-leb, ltb-true, leb-true}
use Rattle.lists.specs.Lists.{all, All, flat, patch}
use Rattle.lists.proofs.Tests.{cases, and_left, and_right}
use Rattle.lists.proofs.Alls.{All-replicate, All-all}
use Rattle.chip.specs.Geometry.{Geometry}
use Rattle.chip.specs.Page.{is_free}
use Rattle.pages.specs.declared.unit.Unit.{Unit}
use Rattle.std.proofs.Common.{Option, Some, None}
use Rattle.pages.specs.declared.header.Head.{Head}
use Rattle.pages.specs.Units.{encode, decodes, Valid}
use Rattle.pages.specs.Data.{head_of, obeys, header_of, head_bytes, laid, data_of}
use Rattle.pages.proofs.UnitLaws.{word_back, half_back, byte_below, word_below, half_below, decodes_units}

-- ---- the own rules one by one
-- the rules of a page whose data is d, with header h
pub record Own (g : Geometry) (h : Head) (d : List ℕ) : Type 0 where
  pub commit : 0 < h.commit
  pub count : 0 < h.count
  pub index : h.index < h.count
  pub some : 0 < h.units
  pub few : h.units ≤ g.units
  pub rest : all (λ (b : ℕ). eqb b 255) (drop (8 + 12 * h.units) d) ≡ true

-- the first of two tests that both pass, and the second
both : {a b : Bool} → (a && b) ≡ true → (a ≡ true) × (b ≡ true)
both {a} {b} e = (and_left a b e, and_right a b e)

-- data that obeys the rules keeps each of them
pub obeys_is : (g : Geometry) (d : List ℕ) → obeys g d ≡ true → Own g (head_of d) d
unfolding obeys
obeys_is g d e =
    let h = head_of d in
    let a = both e in
    let b = both a.1 in
    let c = both b.1 in
    let f = both c.1 in
    let k = both f.1 in
    record {
      commit = ltb-true 0 h.commit a.0;
      count = ltb-true 0 h.count b.0;
      index = ltb-true h.index h.count c.0;
      some = ltb-true 0 h.units f.0;
      few = leb-true h.units g.units k.0;
      rest = k.1;
    }

-- data that keeps each of the rules obeys them
pub is_obeys : (g : Geometry) (d : List ℕ) → Own g (head_of d) d → obeys g d ≡ true
unfolding obeys
is_obeys g d o =
    let h = head_of d in
    rw (
      lt-ltb 0 h.commit o.commit,
      lt-ltb 0 h.count o.count,
      lt-ltb h.index h.count o.index,
      lt-ltb 0 h.units o.some,
      le-leb h.units g.units o.few,
      o.rest,
    )

-- the bounds of a header's numbers, which a header that is read from bytes keeps
pub record Bounds (h : Head) : Type 0 where
  pub commit : h.commit < 2 ^ 32
  pub index : h.index < 256
  pub count : h.count < 256
  pub units : h.units < 65536

pub head_bounds : {d : List ℕ} → All (λ (x : ℕ). x < 256) d → Bounds (head_of d)
head_bounds h = record { commit = word_below 0 h; index = byte_below 4 h; count = byte_below 5 h; units = half_below 6 h }

-- ---- the answers of read_header
module _ (g : Geometry) (h : Head) (d : List ℕ) (e : h ≡ head_of d) where
  -- each rule is kept
  pub kept : Own g h d → Some h ≡ header_of g d
  kept o = rw (e, is_obeys g d (subst (λ (x : Head). Own g x d) e o))

  -- a rule is broken
  pub broken : (Own g h d → ⊥) → None ≡ header_of g d
  broken f = cases (obeys g d) (λ t. absurd (f (rw e (obeys_is g d t)))) (λ t. rw t)

-- the test of the part from a on is the test of the rest
pub rest_free : (d : List ℕ) (a : ℕ) (t : Bool) → t ≡ is_free (take (length d - a) (drop a d)) → all (λ (b : ℕ). eqb b 255) (drop a d) ≡ t
unfolding is_free
rest_free d a t e = rw e (rw (take_all (length d - a) (drop a d) (omega (arith, length-drop a d))))

-- the data area of the page x, as a part of it
pub header_part : (g : Geometry) (x : List ℕ) (r : Option Head) → r ≡ header_of g (take (g.area - 0) x) → r ≡ header_of g (take g.area x)
header_part g x r e = e ∙ ap (λ (n : ℕ). header_of g (take n x)) (sub-zero g.area)

-- ---- the steps of lay_out: the bytes behind the units made 255, the units copied, the header copied
module _ (g : Geometry) (c i n k : ℕ) (units page : List ℕ) (l : length page ≡ g.area) (fits : 8 + 12 * k ≤ g.area) (lu : length units ≡ 12 * k) where
  -- the head and the units over a blank page are the page laid out
  pub laid_done : (head blank : List ℕ) → head ≡ head_bytes c i n k
      → blank ≡ take (8 + 12 * k) page ++ replicate (length page - (8 + 12 * k)) 255
      → head ++ drop 8 (patch blank 8 (8 + 12 * k - 8) units) ≡ laid g c i n k units
  unfolding laid
  laid_done head blank eh eb =
      let front : length (take (8 + 12 * k) page) ≡ 8 + 12 * k = length-take-le (8 + 12 * k) page (omega arith) in
      let size : length blank ≡ g.area = ap length eb ∙ length-append (take (8 + 12 * k) page) (replicate (length page - (8 + 12 * k)) 255)
      ∙ ap₂ ◌+◌ front (length-replicate (length page - (8 + 12 * k)) 255) ∙ omega arith in
      let tail : drop (12 * k) (drop 8 blank) ≡ replicate (g.area - (8 + 12 * k)) 255 = drop-drop (12 * k) 8 blank ∙ ap (drop (8 + 12 * k)) eb
      ∙ drop_at (take (8 + 12 * k) page) (replicate (length page - (8 + 12 * k)) 255) (8 + 12 * k) front
      ∙ ap (λ (m : ℕ). replicate (m - (8 + 12 * k)) 255) l in
      ap₂ ◌++◌ eh
      (ap (λ (m : ℕ). drop 8 (patch blank 8 m units)) (add-sub_cancel_left 8 (12 * k))
      ∙ drop_at (take 8 blank) (units ++ drop (12 * k) (drop 8 blank)) 8 (length-take-le 8 blank (omega arith))
      ∙ ap (λ (r : List ℕ). units ++ r) tail)

-- ---- what is laid out is read back
module _ (g : Geometry) (c i n k : ℕ) (units : List ℕ) where
  -- the whole data area
  pub laid_size : 8 + 12 * g.units ≤ g.area → k ≤ g.units → length units ≡ 12 * k → length (laid g c i n k units) ≡ g.area
  unfolding laid
  laid_size fits few lu =
      let e : length (units ++ replicate (g.area - (8 + 12 * k)) 255) ≡ 12 * k + (g.area - (8 + 12 * k))
      = length-append units (replicate (g.area - (8 + 12 * k)) 255) ∙ ap₂ ◌+◌ lu (length-replicate (g.area - (8 + 12 * k)) 255) in
      omega arith

  -- the header
  pub laid_head : c < 2 ^ 32 → head_of (laid g c i n k units) ≡ record { commit = c; index = i; count = n; units = k }
  unfolding laid
  laid_head h = rw (word_back c h, half_back k)

  -- what stands behind the header, the units there, and what stands behind them
  pub laid_behind : drop 8 (laid g c i n k units) ≡ units ++ replicate (g.area - (8 + 12 * k)) 255
  unfolding laid
  laid_behind = refl

  laid_rest : length units ≡ 12 * k → drop (8 + 12 * k) (laid g c i n k units) ≡ replicate (g.area - (8 + 12 * k)) 255
  laid_rest lu =
      sym (drop-drop (12 * k) 8 (laid g c i n k units)) ∙ rw laid_behind (drop_at units (replicate (g.area - (8 + 12 * k)) 255) (12 * k) lu)

  -- the own rules
  pub laid_obeys : 0 < c → c < 2 ^ 32 → i < n → 0 < k → k ≤ g.units → length units ≡ 12 * k → obeys g (laid g c i n k units) ≡ true
  laid_obeys low high inside some few lu =
      is_obeys g (laid g c i n k units)
      (subst (λ (h : Head). Own g h (laid g c i n k units)) (sym (laid_head high))
      (record {
        commit = low;
        count = omega arith;
        index = inside;
        some = some;
        few = few;
        rest = rw (laid_rest lu) (All-all (λ (b : ℕ). eqb b 255) (All-replicate (g.area - (8 + 12 * k)) 255 refl));
      }))

-- the units of a page that is laid out with them
pub data_units : (g : Geometry) (limit c i n : ℕ) (us : List Unit) → All (Valid limit) us
    → decodes limit (length us) (drop 8 (data_of g c i n us)) ≡ map Some us
data_units g limit c i n us h =
    rw (laid_behind g c i n (length us) (flat encode us)) (decodes_units (replicate (g.area - (8 + 12 * length us)) 255) h)

-- ---- a page's header
-- a page that obeys its rules is read with its header, one that breaks a rule is not
pub header_obeys : (g : Geometry) (h : Head) (d : List ℕ) → Some h ≡ header_of g d → (obeys g d ≡ true) × (h ≡ head_of d)
header_obeys g h d e =
    cases (obeys g d)
    (λ t. let k : Some h ≡ Some (head_of d) = (rw t at e) in (t, cc))
    (λ t. let k : Some h ≡ None = (rw t at e) in let z : ◌≡◌ {A = ℕ} 0 1 = cc in absurd (omega arith))

pub header_breaks : (g : Geometry) (d : List ℕ) → None ≡ header_of g d → obeys g d ≡ false
header_breaks g d e =
    cases (obeys g d)
    (λ t. let k : None ≡ Some (head_of d) = (rw t at e) in let z : ◌≡◌ {A = ℕ} 0 1 = cc in absurd (omega arith))
    (λ t. t)
