-- The policy computes: full lists anew, holes filled from the oldest block, nothing filled where no room is. Assumes nothing.
use mathlib.Core.Path.{◌≡◌, refl}
use mathlib.Core.Bool.{Bool, true, false}
use mathlib.Core.List.{List, [], ◌∷◌, ◌++◌}
use Prim.Native.Nat.{ℕ}
use lib.Dec.{eqb, ltb}
use lib.ListN.{replicate, get_or}
use Rattle.lists.specs.Lists.{tab}
use Rattle.chip.specs.Geometry.{small}
use Rattle.chip.specs.Page.{Page, is_set, is_free, blank}
use Rattle.chip.specs.Chip.{in_block}
use Rattle.pages.specs.declared.unit.Unit as U
use Rattle.pages.specs.declared.unit.Update.TheVariants.{Insert, Reset}
use Rattle.pages.specs.Units.{decode, encode}
use Rattle.pages.specs.Data.{laid, data_of}
use Rattle.pages.specs.Steps.{commit, index, before}
use Rattle.views.specs.Nodes.{Entry, freed, view}
use Rattle.views.specs.Table.{Node, fresh}
use Rattle.views.specs.Groups.{unit_for}
use Rattle.journal.specs.Plan.{Plan, is_used, node_at, rewrite, unused}
use Rattle.journal.specs.Admissible.{Target, contents_of, in_page, plan_from, unwritten}
use Rattle.journal.specs.Packing.{Packing, Sizes, delta_packing, snapshot_packing}
use Rattle.journal.specs.Policy.{plan_of, snapshot_assignment}

-- ---- packing alone: pages of 10 units; four nodes, of 6 units each if written anew
abbrev sizes : List ℕ → Sizes
sizes parts = record { units = 10; whole = λ (n : ℕ). 6; part = λ (n : ℕ). get_or parts n 0 }

-- what a packing says of nodes 0 to 3, and the free units of its pages
abbrev told : Packing → List (Target × Bool) × List ℕ
told S = (tab 0 4 (λ (n : ℕ). (S.target n, S.is_anew n)), S.rooms)

-- node 2 must be written anew, and comes first; node 0 with two units goes beside it; its list has 1 page, and 2 units are left: no room to turn;
-- node 3 has a page in the oldest block, and no page has room for it
nothing_filled : told (delta_packing (sizes (2 ∷ 0 ∷ 1 ∷ 0 ∷ [])) (λ (n : ℕ). eqb n 2) (λ (n : ℕ). 1) (λ (n : ℕ). eqb n 3) 4)
    ≡ ((in_page 0, false) ∷ (unwritten, false) ∷ (in_page 0, true) ∷ (unwritten, false) ∷ [], 2 ∷ [])
nothing_filled = refl

-- node 0 with two units, nothing else: node 3 of the oldest block fills the hole, and then node 0, with a list of 1 page, has no room to turn
hole_filled : told (delta_packing (sizes (2 ∷ 0 ∷ 0 ∷ 0 ∷ [])) (λ (n : ℕ). false) (λ (n : ℕ). 1) (λ (n : ℕ). eqb n 3) 4)
    ≡ ((in_page 0, false) ∷ (unwritten, false) ∷ (unwritten, false) ∷ (in_page 0, true) ∷ [], 2 ∷ [])
hole_filled = refl

-- the same where the list of node 0 has 3 pages: it turns first, and node 3 has no room
three_first : told (delta_packing (sizes (2 ∷ 0 ∷ 0 ∷ 0 ∷ [])) (λ (n : ℕ). false) (λ (n : ℕ). 3) (λ (n : ℕ). eqb n 3) 4)
    ≡ ((in_page 0, true) ∷ (unwritten, false) ∷ (unwritten, false) ∷ (unwritten, false) ∷ [], 4 ∷ [])
three_first = refl

-- first fit: 6 + 6 does not fit, so node 1 begins a page; node 2, of 4 units, goes back to the first
first_fit_lem : told (delta_packing (sizes (6 ∷ 6 ∷ 4 ∷ 4 ∷ [])) (λ (n : ℕ). ltb n 2) (λ (n : ℕ). 4) (λ (n : ℕ). false) 4)
    ≡ ((in_page 0, true) ∷ (in_page 1, true) ∷ (in_page 0, false) ∷ (in_page 1, false) ∷ [], 0 ∷ 0 ∷ [])
first_fit_lem = refl

-- a snapshot: every node anew
all_anew : told (snapshot_packing (sizes (1 ∷ 0 ∷ 0 ∷ 0 ∷ [])) 4)
    ≡ ((in_page 0, true) ∷ (in_page 1, true) ∷ (in_page 2, true) ∷ (in_page 3, true) ∷ [], 4 ∷ 4 ∷ 4 ∷ 4 ∷ [])
all_anew = refl

-- ---- the plan of a commit: the head is block 0, its first page is used
abbrev image : List Page
image = (data_of small 1 0 1 (unit_for 0 (Reset 0) ∷ []) ++ (0 ∷ 0 ∷ replicate 14 255)) ∷ replicate 95 (blank small)

-- a leaf with its entries and its list, and a buffer of one insert
abbrev entry : ℕ → ℕ → Entry
entry k v = record { key = k; value = v }

abbrev buffer : List U.Unit
buffer = unit_for 0 (Insert 7 99) ∷ []

abbrev leaf : List Entry → List ℕ → Node
leaf es ps = record { now = view 0 es; pages = ps }

-- a list of 4 pages: one unit is buffered, and the node is written anew
full_list : plan_of small 24 3 image (leaf (entry 7 1 ∷ entry 8 2 ∷ []) (3 ∷ 2 ∷ 1 ∷ 0 ∷ []) ∷ replicate 23 fresh) 1 buffer
    ≡ record {
      erased = [];
      written = record { place = 1; packs = record { node = 0; updates = Reset 0 ∷ Insert 7 99 ∷ Insert 8 2 ∷ [] } ∷ [] } ∷ [];
    }
unfolding is_used unused in_block is_set is_free blank laid encode decode commit index before
full_list = refl

-- node 1 stands in block 1, the oldest: it is written anew beside node 0, and so leaves that block
oldest_moved : plan_of small 24 3 image (leaf (entry 7 1 ∷ []) (0 ∷ []) ∷ leaf (entry 5 6 ∷ []) (32 ∷ []) ∷ replicate 22 fresh) 1 buffer
    ≡ record {
      erased = [];
      written = record {
        place = 1;
        packs = record { node = 0; updates = Reset 0 ∷ Insert 7 99 ∷ [] } ∷ record { node = 1; updates = Reset 0 ∷ Insert 5 6 ∷ [] } ∷ [];
      } ∷ [];
    }
unfolding is_used unused in_block is_set is_free blank laid encode decode commit index before
oldest_moved = refl

-- ---- a freed node: written anew it is one unit, its reset
freed_anew : rewrite freed ≡ Reset 255 ∷ []
freed_anew = refl

abbrev freed_at : ℕ → Node
freed_at p = record { now = freed; pages = p ∷ [] }

-- a buffer that frees node 1, whose list has 4 pages: that reset is all that is written
freed_written : plan_of small 24 3 image (leaf [] (0 ∷ []) ∷ leaf (entry 5 6 ∷ []) (3 ∷ 2 ∷ 1 ∷ 0 ∷ []) ∷ replicate 22 fresh) 1 (unit_for 1 (Reset 255) ∷ [])
    ≡ record { erased = []; written = record { place = 1; packs = record { node = 1; updates = Reset 255 ∷ [] } ∷ [] } ∷ [] }
unfolding is_used unused in_block is_set is_free blank laid encode decode commit index before
freed_written = refl

-- node 1 is freed, and its reset stands in block 1, the oldest: a delta writes it anew beside node 0, and so does a snapshot
abbrev two_nodes : List Node
two_nodes = leaf (entry 7 1 ∷ []) (0 ∷ []) ∷ freed_at 32 ∷ replicate 22 fresh

abbrev both : Plan
both = record {
  erased = [];
  written = record {
    place = 1;
    packs = record { node = 0; updates = Reset 0 ∷ Insert 7 99 ∷ [] } ∷ record { node = 1; updates = Reset 255 ∷ [] } ∷ [];
  } ∷ [];
}

freed_moved :
    (plan_of small 24 3 image two_nodes 1 buffer ≡ both)
    × (plan_from small 24 3 image two_nodes 1 (contents_of (node_at two_nodes) buffer) (snapshot_assignment small 24 (contents_of (node_at two_nodes) buffer)) ≡ both)
unfolding is_used unused in_block is_set is_free blank laid encode decode commit index before
freed_moved = (refl, refl)
