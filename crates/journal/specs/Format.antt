-- Format: it erases all blocks, lowest first, and then writes commit 1 into the first page of block 0: one page, node 0 reset at level 0.
use Rattle.std.specs.Prelude.{List, [], ◌∷◌, ◌++◌, ℕ, zero, suc, replicate}
use Rattle.lists.specs.Lists.{tab}
use Rattle.chip.specs.declared.page.Mark.TheVariants.{Used, Valid}
use Rattle.chip.specs.declared.power.Power.TheVariants.{Left}
use Rattle.chip.specs.Geometry.{Geometry}
use Rattle.chip.specs.Page.{Page, blank, marked, programmed}
use Rattle.chip.specs.Chip.{Op, erase, Machine, run}
use Rattle.pages.specs.declared.unit.Update.TheVariants.{Reset}
use Rattle.pages.specs.declared.unit.Unit as U
use Rattle.pages.specs.Data.{data_of}
use Rattle.pages.specs.Write.{writes}
use Rattle.views.specs.Nodes.{view}
use Rattle.views.specs.Table.{Node, fresh}

-- the one unit of commit 1
abbrev pub root_reset : U.Unit
root_reset = record { node = 0; update = Reset 0 }

-- the data of commit 1: page 0 of 1
abbrev pub format_data : Geometry → List ℕ
format_data g = data_of g 1 0 1 (root_reset ∷ [])

-- the operations that format a chip of b blocks
abbrev pub format_ops : Geometry → ℕ → List Op
format_ops g b = tab 0 b erase ++ writes 0 (format_data g)

-- the chip after a format with an allowance of n: its power and its pages
abbrev pub formatted_by : Geometry → List ℕ → ℕ → ℕ → List Page → Machine
formatted_by g torn b n ps = run g torn (record { power = Left n; pages = ps }) (format_ops g b)

-- ---- what a finished format leaves
-- the page of commit 1: a blank page written whole
abbrev pub format_page : Geometry → Page
format_page g = marked g Valid 0 (programmed g (format_data g) (marked g Used 0 (blank g)))

-- the n pages of the chip: that page first, all others blank
abbrev pub formatted : Geometry → ℕ → List Page
formatted g zero = []
formatted g (suc n) = format_page g ∷ replicate n (blank g)

-- the node table: one empty leaf, node 0, on page 0; no other node has a unit
abbrev pub format_node : ℕ → Node
format_node zero = record { now = view 0 []; pages = 0 ∷ [] }
format_node (suc n) = fresh

abbrev pub format_table : ℕ → List Node
format_table limit = tab 0 limit format_node
