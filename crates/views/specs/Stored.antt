-- The node table as it is stored in arrays, and a node's view read from its pages and then from the buffer. Defined for any arrays.
use Rattle.std.specs.Prelude.{◌≡◌, Bool, true, false, cond, ℕ, ◌*◌, ◌≤◌, min, leb, eqb, length, take, drop, get_or, Option, Some, None}
use mathlib.Core.List.{List, [], foldl, reverse}
use Rattle.lists.specs.Lists.{all, part}
use Rattle.chip.specs.Geometry.{Geometry}
use Rattle.chip.specs.Page.{Page}
use Rattle.pages.specs.declared.unit.Unit.{Unit}
use Rattle.pages.specs.Units.{decodes}
use Rattle.pages.specs.Data.{head_of}
use Rattle.views.specs.Nodes.{View, untouched, freed, broken, view, apply}
use Rattle.views.specs.Table.{is_good}

-- the pages of node n, the oldest first: its length says how many of its four slots are used
abbrev pub stored_list : List ℕ → List ℕ → ℕ → List ℕ
stored_list lens slots n = take (get_or lens n 0) (part (4 * n) 4 slots)

-- the arrays hold the list ps of node n, the newest first; a list longer than 4 has length 5
pub record Stores (lens slots : List ℕ) (n : ℕ) (ps : List ℕ) : Type 0 where
  pub size : get_or lens n 0 ≡ min 5 (length ps)
  pub pages : length ps ≤ 4 → stored_list lens slots n ≡ reverse ps

-- what 12 bytes do to the view of node n: nothing where they are for another node, or no unit
abbrev pub turn_view : ℕ → View → Option Unit → View
turn_view n w (Some u) = cond (eqb u.node n) (apply w u.update) w
turn_view n w None = w

-- the view of node n after these
abbrev pub view_after : ℕ → View → List (Option Unit) → View
view_after n w ds = foldl (turn_view n) w ds

-- a view after the units: broken where 12 bytes are no unit
abbrev pub view_over : ℕ → View → List (Option Unit) → View
view_over n w ds = cond (all is_good ds) (view_after n w ds) broken

-- a view after the units of a page, whatever its bytes: broken where it claims more units than a page holds
unfoldable pub page_view : Geometry → ℕ → ℕ → View → Page → View
page_view g limit n w x =
    cond (leb (head_of (take g.area x)).units g.units)
    (view_over n w (decodes limit (head_of (take g.area x)).units (drop 8 (take g.area x))))
    broken

-- the view of node n from the pages at these places, in this order; a place that is not on the chip adds nothing
abbrev pub list_view : Geometry → ℕ → List Page → ℕ → List ℕ → View
list_view g limit pages n ps = foldl (λ (w : View) (p : ℕ). page_view g limit n w (get_or pages p [])) untouched ps

abbrev pub is_freed : View → Bool
is_freed untouched = false
is_freed freed = true
is_freed broken = false
is_freed (view l es) = false

-- the length of node n on flash: how many pages its list has, 0 where its pages leave it freed
unfoldable pub length_of : Geometry → ℕ → List Page → List ℕ → List ℕ → ℕ → ℕ
length_of g limit pages lens slots n = cond (is_freed (list_view g limit pages n (stored_list lens slots n))) 0 (length (stored_list lens slots n))

-- a view after the units of the buffer, of which there are at most 960
unfoldable pub buffer_view : ℕ → ℕ → ℕ → List ℕ → View → View
buffer_view limit n count bytes w = cond (leb count 960) (view_over n w (decodes limit count bytes)) broken

-- the view of node n: from its pages, and then from the buffer
abbrev pub node_view : Geometry → ℕ → List Page → List ℕ → List ℕ → ℕ → List ℕ → ℕ → View
node_view g limit pages lens slots count bytes n = buffer_view limit n count bytes (list_view g limit pages n (stored_list lens slots n))
