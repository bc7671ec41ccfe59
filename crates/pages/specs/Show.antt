-- Show: the units of a live page that passes its own rules, as a part of the image.
use Rattle.std.specs.Prelude.{Bool, cond, ◌&&◌, List, [], ℕ, ◌+◌, ◌*◌, ltb, eqb, length, take, get_or}
use Rattle.chip.specs.Geometry.{Geometry, page_size, blocks_of}
use Rattle.chip.specs.Page.{Page, is_live}
use Rattle.chip.specs.Chip.{pages_of}
use Rattle.pages.specs.Data.{head_of, obeys}

-- a live page that passes its own rules
abbrev pub is_shown : Geometry → Page → Bool
is_shown g x = is_live g x && obeys g (take g.area x)

-- how many units are shown of it
unfoldable pub shown_units : Geometry → Page → ℕ
shown_units g x = cond (is_shown g x) (head_of (take g.area x)).units 0

-- refusal 1 where the length is no chip's, 4 for a page not on the chip, 0 for none
abbrev pub show_refusal : Geometry → ℕ → ℕ → ℕ
show_refusal g len p = cond (eqb (blocks_of g len) 0) 1 (cond (ltb p (blocks_of g len * g.pages)) 0 4)

-- how many units are shown of page p of an image
abbrev pub show_units : Geometry → List ℕ → ℕ → ℕ
show_units g image p = cond (eqb (show_refusal g (length image) p) 0) (shown_units g (get_or (pages_of g image) p [])) 0

-- where the part starts, and how long it is; with nothing to show the empty part at the start
abbrev pub show_start : Geometry → List ℕ → ℕ → ℕ
show_start g image p = cond (eqb (show_units g image p) 0) 0 (p * page_size g + 8)

abbrev pub show_length : Geometry → List ℕ → ℕ → ℕ
show_length g image p = 12 * show_units g image p
