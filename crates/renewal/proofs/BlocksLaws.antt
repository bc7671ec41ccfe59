-- The wholly free blocks listed one after the other; the first of them are blocks that a commit may write. Assumes nothing.
use mathlib.Core.Path.{◌≡◌, sym, ap, ◌∙◌}
use mathlib.Core.Bool.{true}
use mathlib.Core.List.{List, ◌++◌}
use Prim.Native.Nat.{ℕ, ◌-◌, ◌*◌, ◌≤◌}
use native.Mathlib.Omega.{arith}
use lib.ListN.{length, take}
use lib.Seq.{length-take-le}
use Rattle.lists.specs.Lists.{filter}
use Rattle.lists.proofs.Alls.{All-map}
use Rattle.chip.specs.Geometry.{Geometry, Fits}
use Rattle.chip.specs.Page.{Page}
use Rattle.journal.specs.Plan.{count_from, wholly_free}
use Rattle.journal.specs.Rebuild.{eighth, free_blocks, has_free_blocks}
use Rattle.journal.proofs.PlanPlaces.{length_flat}
use Rattle.journal.proofs.RebuildBlocks.{first_diff, first_free, first_many, places_many}
use Rattle.plan.specs.PlacesCode.{Spare}
use Rattle.plan.proofs.MarkLaws.{push_done}
use Rattle.renewal.specs.MakeCode.{FindsFree}

-- ---- all blocks were looked at, and n of them are listed
pub found_free : (g : Geometry) (B b n : ℕ) (ps : List Page) (ring : List ℕ) → B ≤ 32 → length ring ≡ 32 → n ≤ b → b ≤ B → B ≤ b
    → take n ring ++ filter (wholly_free g ps) (count_from b (B - b)) ≡ free_blocks g B ps → FindsFree g B ps ring n
found_free g B b n ps ring m size h k l left =
    let e = push_done (wholly_free g ps) b B (take n ring) (free_blocks g B ps) l left in
    record { list = e; count = sym (length-take-le n ring (omega arith)) ∙ ap length e; few = omega arith; size = size }

-- before any was
pub free_start : (g : Geometry) (B : ℕ) (ps : List Page) → filter (wholly_free g ps) (count_from 0 (B - 0)) ≡ free_blocks g B ps
free_start g B ps = ap (λ (n : ℕ). filter (wholly_free g ps) (count_from 0 n)) (let e : B - 0 ≡ B = omega arith in e)

-- ---- the first of them
module _ (g : Geometry) (B : ℕ) (ps : List Page) where
  -- each is on the chip, no one stands twice; B is no block
  pub free_spare : Spare B B (take (eighth B) (free_blocks g B ps))
  free_spare = record { range = All-map (λ b r. (r.0, λ e. omega (arith, e, r.0))) (first_free g B ps); differ = first_diff g B ps }

  -- they have a place for each of 4 B pages
  pub free_room : Fits g → has_free_blocks g B ps ≡ true → (n : ℕ) → n ≤ 4 * B → n ≤ eighth B * g.pages
  free_room f e n h =
      omega (
        arith,
        places_many g B ps f e,
        length_flat g (take (eighth B) (free_blocks g B ps)),
        ap (λ (k : ℕ). k * g.pages) (first_many g B ps e),
      )
