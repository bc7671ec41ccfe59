-- Mount: the operations that it does on an image, after all checks. Document 01: 'it sets the obsolete mark of void pages, lowest place on the chip first'.
use Rattle.std.specs.Prelude.{Bool, List, [], map, ℕ, ltb}
use Rattle.lists.specs.Lists.{sort}
use Rattle.chip.specs.declared.page.Mark.TheVariants.{Obsolete}
use Rattle.chip.specs.declared.power.Power.TheVariants.{Left}
use Rattle.chip.specs.Geometry.{Geometry}
use Rattle.chip.specs.Page.{Page}
use Rattle.chip.specs.Chip.{Op, mark, Machine, run}
use Rattle.pages.specs.Steps.{Live, Stood, refused, stand, steps}

-- the void pages that steps 1 to 3 find; an image that they refuse has none
abbrev pub void_of : Stood → List Live
void_of (refused n) = []
void_of (stand v s) = v

-- x has the lower place on the chip
abbrev pub lower_place : Live → Live → Bool
lower_place x y = ltb x.place y.place

-- the void pages of an image, lowest place first
unfoldable pub void_pages : Geometry → List Page → List Live
void_pages g ps = sort lower_place (void_of (steps g ps))

-- the obsolete mark of a page
abbrev pub retire : Live → Op
retire x = mark x.place Obsolete

-- the operations of a mount
abbrev pub mount_ops : Geometry → List Page → List Op
mount_ops g ps = map retire (void_pages g ps)

-- the chip after a mount with an allowance of n: its power and its pages
abbrev pub mounted_by : Geometry → List ℕ → ℕ → List Page → Machine
mounted_by g torn n ps = run g torn (record { power = Left n; pages = ps }) (mount_ops g ps)
