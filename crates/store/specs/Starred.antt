-- The lines of the requirement that are marked with a star, and lines for the joins after deletes, as one table: what the definitions give, and what the line says.
use Rattle.std.specs.Prelude.{List, [], ◌∷◌, ◌++◌, map, ℕ, zero, suc, ◌+◌, take, replicate}
use Rattle.lists.specs.Lists.{flat}
use Rattle.chip.specs.Geometry.{small}
use Rattle.chip.specs.Page.{Page}
use Rattle.pages.specs.declared.unit.Update.TheVariants.{Insert, Reset}
use Rattle.pages.specs.declared.unit.Unit as U
use Rattle.pages.specs.Units.{encode}
use Rattle.pages.specs.Data.{laid, data_of}
use Rattle.pages.specs.Steps.{Live, Stood, refused, stand, steps}
use Rattle.views.specs.Nodes.{Entry, entry, View, untouched, freed, broken, view}
use Rattle.views.specs.Table as Views
use Rattle.tree.specs.Tree.{Table}
use Rattle.tree.specs.Insert.{inserted}
use Rattle.tree.specs.Delete.{delete}
use Rattle.journal.specs.Format.{format_data}
use Rattle.promise.specs.Calls.{Meaning, invalid, means}
use Rattle.promise.specs.Image.{by_six, checked}

-- a line: what is computed, and what it says
pub record Line : Type 0 where
  pub got : List (List ℕ)
  pub is : List (List ℕ)

-- ---- results as numbers
abbrev pub pair_of : Entry → List ℕ
pair_of e = e.key ∷ e.value ∷ []

-- a node: its level, then its keys, each with its value; 255 where it is freed
abbrev pub node_line : View → List ℕ
node_line untouched = []
node_line freed = 255 ∷ []
node_line broken = []
node_line (view l es) = l ∷ flat pair_of es

abbrev pub place_of : Live → ℕ
place_of x = x.place

-- steps 1 to 3: the refusal; or the places of the void pages, then those of the standing pages
abbrev pub stood_lines : Stood → List (List ℕ)
stood_lines (refused n) = (n ∷ []) ∷ []
stood_lines (stand v s) = map place_of v ∷ map place_of s ∷ []

-- all steps: the refusal, or the nodes
abbrev pub meaning_lines : Meaning → List (List ℕ)
meaning_lines (invalid n) = (n ∷ []) ∷ []
meaning_lines (means t G) = map node_line t

-- ---- what the lines speak of
abbrev pub unit799 : U.Unit
unit799 = record { node = 0; update = Insert 7 99 }

-- a page with this data, used and valid
abbrev pub on_page : List ℕ → Page
on_page d = d ++ (0 ∷ 0 ∷ replicate 14 255)

-- page i of n of commit c, with one unit
abbrev pub page : ℕ → ℕ → ℕ → Page
page c i n = on_page (data_of small c i n (unit799 ∷ []))

-- a page that says it has k units, with 42 of them
abbrev pub crowded : ℕ → Page
crowded k = on_page (laid small 1 0 1 k (flat encode (replicate 42 unit799)))

-- keys 1 to n in order, each with its own number for a value, put into one empty leaf
unfoldable pub up_to : ℕ → Table
up_to zero = view 0 [] ∷ []
up_to (suc n) = inserted (suc n) (suc n) (up_to n)

-- keys n, n + 1, .., c of them, each with its own number
abbrev pub keys : ℕ → ℕ → List ℕ
keys n zero = []
keys n (suc c) = n ∷ n ∷ keys (suc n) c

-- the same as entries
unfoldable pub from : ℕ → ℕ → List Entry
from n zero = []
from n (suc c) = entry n n ∷ from (suc n) c

-- node 0 over three leaves: x keys from 10 on, y from 30 on, z from 50 on
abbrev pub three : ℕ → ℕ → ℕ → Table
three x y z = view 1 (entry 0 1 ∷ entry 30 2 ∷ entry 50 3 ∷ []) ∷ view 0 (from 10 x) ∷ view 0 (from 30 y) ∷ view 0 (from 50 z) ∷ []

-- entries of c children: keys k, k + 20, .., numbers n, n + 1, ..
unfoldable pub row : ℕ → ℕ → ℕ → List Entry
row k n zero = []
row k n (suc c) = entry k n ∷ row (k + 20) (suc n) c

-- c leaves of 8 keys each, from k, k + 20, .. on
unfoldable pub rows : ℕ → ℕ → Table
rows k zero = []
rows k (suc c) = view 0 (from k 8) ∷ rows (k + 20) c

-- node 0 over two nodes of level 1 with 8 leaves of 8 keys each
abbrev pub wide : Table
wide = view 2 (entry 0 1 ∷ entry 160 2 ∷ []) ∷ view 1 (row 0 3 8) ∷ view 1 (row 160 11 8) ∷ rows 0 16

-- node 0 of level 2 over one node with two leaves of 2 and 3 keys
abbrev pub tall : Table
tall = view 2 (entry 0 1 ∷ []) ∷ view 1 (entry 0 2 ∷ entry 20 3 ∷ []) ∷ view 0 (from 1 2) ∷ view 0 (from 20 3) ∷ []

-- node 0 with two leaves, from key 0 and from key 10; the second has a key below 10
abbrev pub low_key : Table
low_key = view 1 (entry 0 1 ∷ entry 10 2 ∷ []) ∷ view 0 (entry 3 5 ∷ []) ∷ view 0 (entry 9 5 ∷ []) ∷ []

-- a chip of one page that resets node 0 to level 4
abbrev pub level_four : Page
level_four = on_page (data_of small 1 0 1 (record { node = 0; update = Reset 4 } ∷ []))

-- ---- the table
abbrev pub starred : List Line
starred =
    -- insert (7, 99) in node 0
    record { got = encode unit799 ∷ []; is = (1 ∷ 0 ∷ 0 ∷ 0 ∷ 7 ∷ 0 ∷ 0 ∷ 0 ∷ 99 ∷ 0 ∷ 0 ∷ 0 ∷ []) ∷ [] }
    -- format's page
    ∷ record { got = take 9 (format_data small) ∷ []; is = (1 ∷ 0 ∷ 0 ∷ 0 ∷ 0 ∷ 1 ∷ 1 ∷ 0 ∷ 3 ∷ []) ∷ [] }
    -- keys 1 to 17 in order
    ∷ record { got = map node_line (up_to 17); is = (1 ∷ 0 ∷ 1 ∷ 10 ∷ 2 ∷ []) ∷ (0 ∷ keys 1 9) ∷ (0 ∷ keys 10 8) ∷ [] }
    -- on to 26
    ∷ record { got = map node_line (up_to 26); is = (1 ∷ 0 ∷ 1 ∷ 10 ∷ 2 ∷ 19 ∷ 3 ∷ []) ∷ (0 ∷ keys 1 9) ∷ (0 ∷ keys 10 9) ∷ (0 ∷ keys 19 8) ∷ [] }
    -- 42 units pass step 2, 43 give 8
    ∷ record { got = stood_lines (steps small (crowded 42 ∷ [])) ++ stood_lines (steps small (crowded 43 ∷ [])); is = [] ∷ (0 ∷ []) ∷ (8 ∷ []) ∷ [] }
    -- greatest commit with page 0 of 2: void
    ∷ record { got = stood_lines (steps small (page 1 0 1 ∷ page 2 0 2 ∷ [])); is = (1 ∷ []) ∷ (0 ∷ []) ∷ [] }
    -- an older commit with page 0 of 2, the greatest whole: standing
    ∷ record { got = stood_lines (steps small (page 2 0 1 ∷ page 1 0 2 ∷ [])); is = [] ∷ (1 ∷ 0 ∷ []) ∷ [] }
    -- greatest void, the next lower with page 0 of 2
    ∷ record { got = stood_lines (steps small (page 1 0 2 ∷ page 2 0 2 ∷ [])); is = (8 ∷ []) ∷ [] }
    -- level 4 in a reset
    ∷ record { got = meaning_lines (by_six (Views.meaning small 24 (level_four ∷ []))); is = (8 ∷ []) ∷ [] }
    -- a key below its leaf's low bound
    ∷ record { got = meaning_lines (checked low_key 1); is = (9 ∷ []) ∷ [] }
    -- a leaf joins its right neighbour
    ∷ record { got = map node_line (delete 10 (three 8 8 8)); is = (1 ∷ 0 ∷ 1 ∷ 50 ∷ 3 ∷ []) ∷ (0 ∷ keys 11 7 ++ keys 30 8) ∷ (255 ∷ []) ∷ (0 ∷ keys 50 8) ∷ [] }
    -- the last leaf joins its left neighbour
    ∷ record { got = map node_line (delete 57 (three 8 8 8)); is = (1 ∷ 0 ∷ 1 ∷ 30 ∷ 2 ∷ []) ∷ (0 ∷ keys 10 8) ∷ (0 ∷ keys 30 8 ++ keys 50 7) ∷ (255 ∷ []) ∷ [] }
    -- an entry moves over from the right neighbour
    ∷ record { got = map node_line (delete 10 (three 8 10 8)); is = (1 ∷ 0 ∷ 1 ∷ 31 ∷ 2 ∷ 50 ∷ 3 ∷ []) ∷ (0 ∷ keys 11 7 ++ keys 30 1) ∷ (0 ∷ keys 31 9) ∷ (0 ∷ keys 50 8) ∷ [] }
    -- and from the left neighbour to the last leaf
    ∷ record { got = map node_line (delete 57 (three 8 10 8)); is = (1 ∷ 0 ∷ 1 ∷ 30 ∷ 2 ∷ 39 ∷ 3 ∷ []) ∷ (0 ∷ keys 10 8) ∷ (0 ∷ keys 30 9) ∷ (0 ∷ keys 39 1 ++ keys 50 7) ∷ [] }
    -- with 8 entries left nothing happens
    ∷ record { got = map node_line (delete 12 (three 9 8 8)); is = (1 ∷ 0 ∷ 1 ∷ 30 ∷ 2 ∷ 50 ∷ 3 ∷ []) ∷ (0 ∷ keys 10 2 ++ keys 13 6) ∷ (0 ∷ keys 30 8) ∷ (0 ∷ keys 50 8) ∷ [] }
    -- a parent joins too, and node 0 takes over
    ∷ record {
      got = map node_line (delete 0 wide);
      is = (1 ∷ flat pair_of (entry 0 3 ∷ row 40 5 6 ++ row 160 11 8)) ∷ (255 ∷ []) ∷ (255 ∷ []) ∷ (0 ∷ keys 1 7 ++ keys 20 8) ∷ (255 ∷ []) ∷ map node_line (rows 40 14);
    }
    -- node 0 takes over two levels
    ∷ record { got = map node_line (delete 1 tall); is = (0 ∷ keys 2 1 ++ keys 20 3) ∷ (255 ∷ []) ∷ (255 ∷ []) ∷ (255 ∷ []) ∷ [] }
    -- a freed number is taken again
    ∷ record { got = map node_line (inserted 9 9 (inserted 8 8 (delete 10 (three 8 8 8)))); is = (1 ∷ 0 ∷ 1 ∷ 30 ∷ 2 ∷ 50 ∷ 3 ∷ []) ∷ (0 ∷ keys 8 2 ++ keys 11 7) ∷ (0 ∷ keys 30 8) ∷ (0 ∷ keys 50 8) ∷ [] }
    ∷ []
