-- The tree: the views of the nodes by number; to find a key.
use Rattle.std.specs.Prelude.{Bool, true, false, cond, List, [], ◌∷◌, ℕ, zero, suc, ◌+◌, leb, eqb}
use Rattle.lists.specs.Lists.{flat}
use Rattle.views.specs.Nodes.{Entry, View, untouched, freed, broken, view}

abbrev pub level_of : View → ℕ
level_of untouched = 0
level_of freed = 0
level_of broken = 0
level_of (view l es) = l

abbrev pub entries_of : View → List Entry
entries_of untouched = []
entries_of freed = []
entries_of broken = []
entries_of (view l es) = es

-- 1 where a node is, 0 where none is
abbrev pub there : View → ℕ
there untouched = 0
there freed = 0
there broken = 0
there (view l es) = 1

-- the views by node number; what is past the end is untouched
abbrev pub Table : Type 0
Table = List View

abbrev pub at : Table → ℕ → View
at [] n = untouched
at (w ∷ t) zero = w
at (w ∷ t) (suc n) = at t n

-- with view w for node n; a table that is too short becomes longer
abbrev pub put : ℕ → View → Table → Table
put zero w [] = w ∷ []
put zero w (x ∷ t) = w ∷ t
put (suc n) w [] = untouched ∷ put n w []
put (suc n) w (x ∷ t) = x ∷ put n w t

abbrev pub entries_at : Table → ℕ → List Entry
entries_at t n = entries_of (at t n)

-- the greatest number of a node, plus 1
abbrev pub next_over : ℕ → View → ℕ
next_over zero w = there w
next_over (suc m) w = suc (suc m)

abbrev pub next : Table → ℕ
next [] = 0
next (w ∷ t) = next_over (next t) w

-- the least number that is free or unused
abbrev pub least_over : ℕ → View → ℕ
least_over m untouched = 0
least_over m freed = 0
least_over m broken = 0
least_over m (view l es) = suc m

abbrev pub least : Table → ℕ
least [] = 0
least (w ∷ t) = least_over (least t) w

-- how many numbers have a node
abbrev pub nodes : Table → ℕ
nodes [] = 0
nodes (w ∷ t) = there w + nodes t

-- the second least number
abbrev pub least2 : Table → ℕ
least2 t = least (put (least t) (view 0 []) t)

abbrev pub root_level : Table → ℕ
root_level t = level_of (at t 0)

-- ---- to find a key
pub data Found : Type 0 where
  absent : Found
  found : ℕ → Found

abbrev pub is_absent : Found → Bool
is_absent absent = true
is_absent (found v) = false

abbrev pub lookup : ℕ → List Entry → Found
lookup k [] = absent
lookup k (e ∷ es) = cond (eqb e.key k) (found e.value) (lookup k es)

-- the value of the greatest entry key that is not above k, or d
abbrev pub below : ℕ → ℕ → List Entry → ℕ
below k d [] = d
below k d (e ∷ es) = cond (leb e.key k) (below k e.value es) d

abbrev pub child : Table → ℕ → ℕ → ℕ
child t n k = below k 0 (entries_at t n)

-- the first key, or d
abbrev pub first_key : ℕ → List Entry → ℕ
first_key d [] = d
first_key d (e ∷ es) = e.key

-- the nodes from node n of level l down to the leaf of k, the level falling by one each time
abbrev pub path_at : ℕ → ℕ → ℕ → Table → List ℕ
path_at zero n k t = n ∷ []
path_at (suc l) n k t = n ∷ path_at l (child t n k) k t

unfoldable pub path : ℕ → Table → List ℕ
path k t = path_at (root_level t) 0 k t

-- the leaf of k under node n of level l
abbrev pub leaf_at : ℕ → ℕ → ℕ → Table → ℕ
leaf_at zero n k t = n
leaf_at (suc l) n k t = leaf_at l (child t n k) k t

-- the value of k under node n of level l: what its leaf holds
abbrev pub find_at : ℕ → ℕ → ℕ → Table → Found
find_at zero n k t = lookup k (entries_at t n)
find_at (suc l) n k t = find_at l (child t n k) k t

unfoldable pub find : ℕ → Table → Found
find k t = find_at (root_level t) 0 k t

-- the records under node n of level l: its leaves from left to right
abbrev pub records_at : ℕ → Table → ℕ → List Entry
records_at zero t n = entries_at t n
records_at (suc l) t n = flat (λ (e : Entry). records_at l t e.value) (entries_at t n)

unfoldable pub records : Table → List Entry
records t = records_at (root_level t) t 0
