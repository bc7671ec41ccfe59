-- The part that show hands back has at most 2,040 bytes. Assumes nothing.
use mathlib.Core.Path.{◌≡◌, ap}
use mathlib.Core.List.{List, []}
use Prim.Native.Nat.{ℕ, ◌≤◌}
use native.Mathlib.Omega.{arith}
use lib.Dec.{eqb}
use lib.ListN.{length, take, drop, get_or}
use Rattle.lists.specs.Lists.{part}
use Rattle.lists.proofs.Tests.{cases, and_right}
use Rattle.std.proofs.lemmas.List.{length-take}
use Rattle.chip.specs.Geometry.{Geometry, Nand, Fits, geometry_of}
use Rattle.chip.specs.Page.{Page, is_live}
use Rattle.chip.specs.Chip.{pages_of}
use Rattle.chip.proofs.Sizes.{nand_fits}
use Rattle.pages.specs.Data.{obeys}
use Rattle.pages.specs.Show.{is_shown, shown_units, show_refusal, show_units, show_start, show_length}
use Rattle.pages.proofs.HeaderLaws.{obeys_is}

module _ (g : Geometry) where
  units_few : (x : Page) → shown_units g x ≤ g.units
  unfolding shown_units
  units_few x =
      cases (is_shown g x)
      (λ t. rw t (obeys_is g (take g.area x) (and_right (is_live g x) (obeys g (take g.area x)) t)).few)
      (λ f. rw f (omega arith))

  show_few : (image : List ℕ) (p : ℕ) → show_units g image p ≤ g.units
  show_few image p =
      cases (eqb (show_refusal g (length image) p) 0) (λ t. rw t (units_few (get_or (pages_of g image) p []))) (λ f. rw f (omega arith))

  part_few : Fits g → (image shown : List ℕ) (p : ℕ) → shown ≡ part (show_start g image p) (show_length g image p) image → length shown ≤ 2040
  part_few f image shown p e =
      omega (arith, f.units_most, ap length e, length-take (show_length g image p) (drop (show_start g image p) image), show_few image p)

pub shown_few : (nand : Nand) (image shown : List ℕ) (p : ℕ)
    → shown ≡ part (show_start (geometry_of nand) image p) (show_length (geometry_of nand) image p) image → length shown ≤ 2040
shown_few nand = part_few (geometry_of nand) (nand_fits nand)
