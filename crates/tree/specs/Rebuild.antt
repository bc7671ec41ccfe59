-- A tree rebuilt from its records. Document 02, note 6: 'writes the same records .. in a tree that mount accepts'. Node 0 is the root, then come the leaves, then the
-- interior nodes, each level's numbers rising from left to right, with as few nodes as can be, as even as can be.
use Rattle.std.specs.Prelude.{cond, List, [], ◌∷◌, map, ℕ, zero, suc, ◌+◌, ◌-◌, ◌/◌, leb, length, take, drop}
use Rattle.views.specs.Nodes.{Entry, entry, View, untouched, freed, broken, view}
use Rattle.tree.specs.Tree.{Table, put, first_key, records}
use Rattle.tree.specs.Step6.{top}

-- how many nodes n entries take: a 16th, rounded up
abbrev pub nodes_for : ℕ → ℕ
nodes_for n = (n + 15) / 16

-- n in c parts, as even as can be
abbrev pub even_parts : ℕ → ℕ → List ℕ
even_parts zero n = []
even_parts (suc c) n = n / suc c ∷ even_parts c (n - n / suc c)

-- the entries es in nodes of level l of these sizes, numbered from x on
abbrev pub put_nodes : ℕ → ℕ → List ℕ → List Entry → Table → Table
put_nodes l x [] es t = t
put_nodes l x (q ∷ qs) es t = put_nodes l (suc x) qs (drop q es) (put x (view l (take q es)) t)

-- the entries for these nodes one level higher: a node's key is the least key under it, the first one's lo
abbrev pub entries_above : ℕ → ℕ → List ℕ → List Entry → List Entry
entries_above lo x [] es = []
entries_above lo x (q ∷ qs) es = entry lo x ∷ entries_above (first_key top (drop q es)) (suc x) qs (drop q es)

-- up to 16 entries are node 0; more go into nodes of level l from number x on, and node 0 goes above these, up to `more` levels higher
unfoldable pub layers : ℕ → ℕ → ℕ → List Entry → Table → Table
layers zero l x es t = put 0 (view l es) t
layers (suc more) l x es t =
    let qs = even_parts (nodes_for (length es)) (length es) in
    cond (leb (length es) 16) (put 0 (view l es) t) (layers more (suc l) (x + nodes_for (length es)) (entries_above 0 x qs es) (put_nodes l x qs es t))

-- a number with units that has no node any more is freed
abbrev pub freed_from : View → View
freed_from untouched = untouched
freed_from freed = freed
freed_from broken = freed
freed_from (view l es) = freed

-- node 0 an empty leaf, every other number with units freed
unfoldable pub vacated : Table → Table
vacated t = put 0 (view 0 []) (map freed_from t)

-- the same records, in a table of the same numbers
unfoldable pub rebuild : Table → Table
rebuild t = layers 2 0 1 (records t) (vacated t)
