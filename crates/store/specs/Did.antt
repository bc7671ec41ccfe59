-- The operations that a call did: those that it tells, and that the bytes of the image follow.
use Rattle.std.specs.Prelude.{◌≡◌, List, ℕ, take}
use Rattle.chip.specs.declared.power.Power.TheVariants.{Left}
use Rattle.chip.specs.Geometry.{Geometry}
use Rattle.chip.specs.Chip.{Op, pages_of, run}

-- of the operations os a call with power for n did as many whole as it told: the first n, which a run with this power does whole, and the image's pages are those of that run
pub record Did (g : Geometry) (os : List Op) (n : ℕ) (torn i : List ℕ) (ops : ℕ) (i' : List ℕ) : Type 0 where
  pub whole : take ops os ≡ take n os
  pub bytes : pages_of g i' ≡ (run g torn (record { power = Left n; pages = pages_of g i }) os).pages
