-- How the code of geometry.rt says how many blocks an image has.
use Rattle.std.specs.Prelude.{ℕ, ◌/◌, cond, Option, Some, None}
use Rattle.chip.specs.Geometry.{Geometry, block_size, is_chip}

-- the blocks of an image of len bytes, none where that is no chip
abbrev pub chip_blocks : Geometry → ℕ → Option ℕ
chip_blocks g len = cond (is_chip g len (len / block_size g)) (Some (len / block_size g)) None
