-- Examples on the small chip, by computation. Assumes nothing.
use mathlib.Core.Path.{◌≡◌, refl}
use mathlib.Core.List.{List, [], ◌∷◌, ◌++◌, map}
use Prim.Native.Nat.{ℕ}
use lib.ListN.{replicate}
use Rattle.lists.specs.Lists.{tab}
use Rattle.chip.specs.Geometry.{small}
use Rattle.chip.specs.Page.{Page, is_set, blank}
use Rattle.pages.specs.declared.unit.Update.{Update}
use Rattle.pages.specs.declared.unit.Update.TheVariants.{Insert, Delete, Reset}
use Rattle.pages.specs.declared.unit.Unit.{Unit}
use Rattle.pages.specs.Units.{is_reset_value, decode, encode}
use Rattle.pages.specs.Data.{obeys, laid, data_of}
use Rattle.pages.specs.Steps.{commit, index, count, before, is_at, full, steps}
use Rattle.views.specs.Nodes.{entry, freed, view}
use Rattle.views.specs.Table.{events_of, Node, fresh, node_of, is_well, NodesRead, refusal, means, meaning}
use Rattle.views.specs.Stored.{page_view, length_of}

-- a live page: page i of n of commit c, with these units
abbrev on : ℕ → ℕ → ℕ → List Unit → Page
on c i n us = data_of small c i n us ++ (0 ∷ 0 ∷ replicate 14 255)

abbrev at : ℕ → Update → Unit
at n u = record { node = n; update = u }

-- commit c of one page with one unit of node 0
abbrev one : ℕ → Update → Page
one c u = on c 0 1 (at 0 u ∷ [])

-- what a chip with nodes 0 and 1 means
abbrev reads : List Page → NodesRead
reads ps = meaning small 2 ps

abbrev node : ℕ → List ℕ → Node
node l ps = record { now = view l []; pages = ps }

-- a reset of node 0, and n inserts
abbrev many : ℕ → Page
many n = on 1 0 1 (at 0 (Reset 0) ∷ map (λ (k : ℕ). at 0 (Insert k k)) (tab 0 n (λ k. k)))

-- the page of a formatted chip; level 3, and level 4; the greatest node number, and one above it; no reset;
-- commit 2 of two pages behind a formatted page, the second at the lower place, and its page 0 alone; 16 entries, and 17; a list of 4 pages, and of 5
examples :
    (reads (blank small ∷ one 1 (Reset 0) ∷ []) ≡ means (node 0 (1 ∷ []) ∷ fresh ∷ []) 1)
    × (reads (one 1 (Reset 3) ∷ []) ≡ means (node 3 (0 ∷ []) ∷ fresh ∷ []) 1)
    × (reads (one 1 (Reset 4) ∷ []) ≡ refusal 8)
    × (reads (on 1 0 1 (at 1 (Reset 0) ∷ []) ∷ []) ≡ means (fresh ∷ node 0 (0 ∷ []) ∷ []) 1)
    × (reads (on 1 0 1 (at 2 (Reset 0) ∷ []) ∷ []) ≡ refusal 8)
    × (reads (one 1 (Insert 7 99) ∷ []) ≡ refusal 8)
    × (reads (one 1 (Reset 0) ∷ on 2 1 2 (at 1 (Reset 1) ∷ at 0 (Insert 5 50) ∷ []) ∷ on 2 0 2 (at 0 (Insert 7 99) ∷ []) ∷ [])
    ≡ means (record { now = view 0 (entry 5 50 ∷ entry 7 99 ∷ []); pages = 1 ∷ 2 ∷ 0 ∷ [] } ∷ node 1 (1 ∷ []) ∷ []) 2)
    × (reads (one 1 (Reset 0) ∷ blank small ∷ on 2 0 2 (at 0 (Insert 7 99) ∷ []) ∷ []) ≡ means (node 0 (0 ∷ []) ∷ fresh ∷ []) 1)
    × (reads (many 16 ∷ []) ≡ means (record { now = view 0 (tab 0 16 (λ k. entry k k)); pages = 0 ∷ [] } ∷ fresh ∷ []) 1)
    × (reads (many 17 ∷ []) ≡ refusal 8)
    × (reads (one 1 (Reset 0) ∷ one 2 (Delete 7) ∷ one 3 (Delete 7) ∷ one 4 (Delete 7) ∷ []) ≡ means (node 0 (3 ∷ 2 ∷ 1 ∷ 0 ∷ []) ∷ fresh ∷ []) 4)
    × (reads (one 1 (Reset 0) ∷ one 2 (Delete 7) ∷ one 3 (Delete 7) ∷ one 4 (Delete 7) ∷ one 5 (Delete 7) ∷ []) ≡ refusal 8)
unfolding meaning steps is_set blank encode laid obeys commit index count before full is_at decode is_reset_value events_of node_of is_well
examples = (refl, refl, refl, refl, refl, refl, refl, refl, refl, refl, refl, refl)

-- ---- freed nodes
abbrev freed_at : ℕ → Node
freed_at p = record { now = freed; pages = p ∷ [] }

-- the length of node 0 on a chip whose page 0 is this one, alone in its list
abbrev alone : Page → ℕ
alone x = length_of small 2 (x ∷ []) (1 ∷ []) (0 ∷ []) 0

-- a reset, an insert and a reset that frees, on one page, and on three: the list is the page of that reset; an insert after it, and a delete;
-- a reset after it; a value between the levels and 255, and one above; the length of a node on flash, with a level and freed
frees :
    (reads (on 1 0 1 (at 0 (Reset 0) ∷ at 0 (Insert 7 99) ∷ at 0 (Reset 255) ∷ []) ∷ []) ≡ means (freed_at 0 ∷ fresh ∷ []) 1)
    × (reads (one 1 (Reset 0) ∷ one 2 (Insert 7 99) ∷ one 3 (Reset 255) ∷ []) ≡ means (freed_at 2 ∷ fresh ∷ []) 3)
    × (reads (one 1 (Reset 255) ∷ one 2 (Insert 7 99) ∷ []) ≡ refusal 8)
    × (reads (one 1 (Reset 255) ∷ one 2 (Delete 7) ∷ []) ≡ refusal 8)
    × (reads (one 1 (Reset 255) ∷ one 2 (Reset 2) ∷ one 3 (Delete 7) ∷ []) ≡ means (node 2 (2 ∷ 1 ∷ []) ∷ fresh ∷ []) 3)
    × (reads (one 1 (Reset 254) ∷ []) ≡ refusal 8)
    × (reads (one 1 (Reset 256) ∷ []) ≡ refusal 8)
    × (◌≡◌ {A = ℕ} (alone (one 1 (Reset 3))) 1)
    × (◌≡◌ {A = ℕ} (alone (one 1 (Reset 255))) 0)
unfolding meaning steps is_set blank encode laid obeys commit index count before full is_at decode is_reset_value events_of node_of is_well page_view length_of
frees = (refl, refl, refl, refl, refl, refl, refl, refl, refl)
