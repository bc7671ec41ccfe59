-- What is shown of a page and of an image. Assumes nothing.
use mathlib.Core.Path.{◌≡◌, sym, ap, ◌∙◌}
use mathlib.Core.Bool.{true, false}
use mathlib.Core.List.{List, []}
use Prim.Native.Nat.{ℕ, ◌+◌, ◌*◌, ◌/◌, ◌≤◌, ◌<◌}
use native.Mathlib.Omega.{arith}
use lib.ListN.{length, take}
use borrow.Author.Tests.{eq-eqb, ne_eqb, lt-ltb, le-ltb}
use Rattle.lists.specs.Lists.{part}
use Rattle.chip.specs.Geometry.{Geometry, page_size, blocks_of}
use Rattle.chip.specs.Page.{Page, is_live}
use Rattle.chip.specs.GeometryCode.{chip_blocks}
use Rattle.chip.proofs.ImageLaws.{page_at_lem}
use Rattle.chip.proofs.Sizes.{chip_some, chip_none}
use Rattle.pages.specs.declared.header.Head.{Head}
use Rattle.std.proofs.Common.{Some, None}
use Rattle.pages.specs.Data.{head_of, header_of}
use Rattle.pages.specs.Show.{shown_units, show_refusal, show_units, show_start, show_length}
use Rattle.pages.proofs.HeaderLaws.{obeys_is, header_obeys, header_breaks}

module _ (g : Geometry) (x : Page) where
  -- a page that is not live, one that breaks a rule, one that obeys
  pub shown_dead : is_live g x ≡ false → shown_units g x ≡ 0
  unfolding shown_units
  shown_dead e = rw e

  pub shown_breaks : is_live g x ≡ true → None ≡ header_of g (take g.area x) → shown_units g x ≡ 0
  unfolding shown_units
  shown_breaks e h = rw (e, header_breaks g (take g.area x) h)

  pub shown_obeys : (h : Head) → is_live g x ≡ true → Some h ≡ header_of g (take g.area x) → (shown_units g x ≡ h.units) × (h.units ≤ g.units)
  unfolding shown_units
  shown_obeys h e k =
      let q = header_obeys g h (take g.area x) k in
      let u : h.units ≡ (head_of (take g.area x)).units = ap (λ (a : Head). a.units) q.1 in
      (rw (e, q.0) (sym u), omega (arith, u, (obeys_is g (take g.area x) q.0).few))

-- refusals, with the empty part
module _ (g : Geometry) (image : List ℕ) (p : ℕ) where
  pub refused_1 : None ≡ chip_blocks g (length image) → (show_refusal g (length image) p ≡ 1) × (part (show_start g image p) (show_length g image p) image ≡ [])
  refused_1 n = let e = eq-eqb (blocks_of g (length image)) 0 (chip_none g (length image) n) in (rw e, rw e)

module _ (g : Geometry) (image : List ℕ) (p b : ℕ) (found : Some b ≡ chip_blocks g (length image)) where
  eb : b ≡ blocks_of g (length image)
  eb = (chip_some g (length image) b found).0

  z : b ≡ 0 → ⊥
  z = (chip_some g (length image) b found).1

  pub refused_4 : b * g.pages ≤ p → (show_refusal g (length image) p ≡ 4) × (part (show_start g image p) (show_length g image p) image ≡ [])
  refused_4 h =
      let e = ne_eqb (blocks_of g (length image)) 0 (λ q. z (eb ∙ q)) in
      let m : blocks_of g (length image) * g.pages ≤ p = (rw eb at h) in
      let l = le-ltb p (blocks_of g (length image) * g.pages) m in
      (rw (e, l), rw (e, l))

  -- no refusal: what is shown is what the page's part shows
  module _ (h : p < b * g.pages) (units : ℕ) (on : p < length image / page_size g)
      (u : units ≡ shown_units g (part (p * page_size g) (page_size g) image)) where
    pub accepted : show_refusal g (length image) p ≡ 0
    accepted =
        let m : p < blocks_of g (length image) * g.pages = (rw eb at h) in
        rw (ne_eqb (blocks_of g (length image)) 0 (λ q. z (eb ∙ q)), lt-ltb p (blocks_of g (length image) * g.pages) m)

    shows : show_units g image p ≡ units
    shows = rw (accepted, page_at_lem g image p on) (sym u)

    pub shown_none : units ≡ 0 → part (show_start g image p) (show_length g image p) image ≡ []
    shown_none e = rw (shows, e)

    pub shown_some : (units ≡ 0 → ⊥) → part (p * page_size g + 8) (12 * units) image ≡ part (show_start g image p) (show_length g image p) image
    shown_some n = rw (shows, ne_eqb units 0 n)
