-- Steps 4 and 5 on the node table as it is stored, with the image.
use Rattle.std.specs.Prelude.{Bool, ◌&&◌, List, ℕ, leb, get_or}
use Rattle.lists.specs.Lists.{all_below}
use Rattle.chip.specs.Geometry.{Geometry}
use Rattle.chip.specs.Page.{Page}
use Rattle.views.specs.Table.{is_whole}
use Rattle.views.specs.Stored.{stored_list, list_view}

-- node n has a list of at most 4 pages, and these do not make a broken view
unfoldable pub well_stored : Geometry → ℕ → List Page → List ℕ → List ℕ → ℕ → Bool
well_stored g limit pages lens slots n = leb (get_or lens n 0) 4 && is_whole (list_view g limit pages n (stored_list lens slots n))

-- every node below limit
abbrev pub all_well_stored : Geometry → ℕ → List Page → List ℕ → List ℕ → Bool
all_well_stored g limit pages lens slots = all_below limit (well_stored g limit pages lens slots)
