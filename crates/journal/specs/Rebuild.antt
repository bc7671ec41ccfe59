-- The commit of a rebuild. Document 02, note 6: 'The new tree goes into blocks that are free already, one block in eight, rounded up; two full nodes fit a page.'
-- and 'Void pages get their mark first'.
use Rattle.std.specs.Prelude.{Bool, List, [], ◌++◌, ℕ, ◌+◌, ◌/◌, leb, length, take}
use Rattle.lists.specs.Lists.{filter, flat}
use Rattle.chip.specs.Geometry.{Geometry}
use Rattle.chip.specs.Page.{Page}
use Rattle.chip.specs.Chip.{Op}
use Rattle.views.specs.Nodes.{View}
use Rattle.journal.specs.Mount.{mount_ops}
use Rattle.journal.specs.Plan.{Plan, count_from, pages_in, wholly_free, sheets, ops_of}
use Rattle.journal.specs.Admissible.{Contents, all_packs}
use Rattle.journal.specs.Policy.{snapshot_assignment}

-- one block in eight, rounded up
abbrev pub eighth : ℕ → ℕ
eighth B = (B + 7) / 8

-- the wholly free blocks of B, lowest first
abbrev pub free_blocks : Geometry → ℕ → List Page → List ℕ
free_blocks g B ps = filter (wholly_free g ps) (count_from 0 B)

-- there are as many of them as a rebuild needs; else 5
unfoldable pub has_free_blocks : Geometry → ℕ → List Page → Bool
has_free_blocks g B ps = leb (eighth B) (length (free_blocks g B ps))

-- its places: all pages of the first of them
abbrev pub free_places : Geometry → ℕ → List Page → List ℕ
free_places g B ps = flat (pages_in g) (take (eighth B) (free_blocks g B ps))

-- every node as w has it, written anew
abbrev pub contents_anew : (ℕ → View) → Contents
contents_anew w = record { after = w; buffered = λ (n : ℕ). []; listed = λ (n : ℕ). [] }

-- nothing is erased; the nodes below limit, packed as those of a snapshot
unfoldable pub rebuild_plan : Geometry → ℕ → ℕ → List Page → (ℕ → View) → Plan
rebuild_plan g limit B ps w =
    record { erased = []; written = sheets (free_places g B ps) (all_packs (contents_anew w) (snapshot_assignment g limit (contents_anew w)) limit) }

-- the marks of the void pages, then commit G + 1
abbrev pub rebuild_ops : Geometry → ℕ → ℕ → List Page → ℕ → (ℕ → View) → List Op
rebuild_ops g limit B ps G w = mount_ops g ps ++ ops_of g G (rebuild_plan g limit B ps w)
