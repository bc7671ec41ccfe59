-- The table that the arrays of a state show, with the image: for each node number the view from its pages and then from the buffer.
use Rattle.std.specs.Prelude.{List, [], ◌∷◌, ℕ, ◌+◌}
use Rattle.lists.specs.Lists.{tab}
use Rattle.chip.specs.Geometry.{Geometry}
use Rattle.chip.specs.Page.{Page}
use Rattle.chip.specs.Chip.{pages_of}
use Rattle.views.specs.Stored.{node_view}
use Rattle.tree.specs.Tree.{Table}

unfoldable pub shown : Geometry → ℕ → List Page → List ℕ → List ℕ → ℕ → List ℕ → Table
shown g limit pages lens slots count bytes = tab 0 limit (node_view g limit pages lens slots count bytes)

-- that of an image
abbrev pub table_in : Geometry → List ℕ → List ℕ → List ℕ → ℕ → ℕ → List ℕ → Table
table_in g image lens slots limit count bytes = shown g limit (pages_of g image) lens slots count bytes

-- the pages read on a way: the sum of the lengths of its nodes on flash
abbrev pub pages_read : (ℕ → ℕ) → List ℕ → ℕ
pages_read f [] = 0
pages_read f (n ∷ ns) = f n + pages_read f ns
