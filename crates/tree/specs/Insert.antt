-- To insert: a node with 17 entries splits, and new nodes take the least numbers that are free or unused.
use Rattle.std.specs.Prelude.{Bool, cond, ◌&&◌, List, [], ◌∷◌, ℕ, zero, suc, ◌+◌, leb, ltb, eqb, length, take, drop}
use Rattle.views.specs.Nodes.{Entry, entry, view, insert_entry}
use Rattle.tree.specs.Tree.{Table, put, entries_at, next, least, least2, root_level, child, first_key}

-- what an insert under a node leaves: the table, and the entry that the parent gains, if any
pub data Up : Type 0 where
  stop : Table → Up
  gains : ℕ → ℕ → Table → Up

abbrev pub table_of : Up → Table
table_of (stop t) = t
table_of (gains k m t) = t

-- the first 9 in key order to node n, the others to node m
unfoldable pub halve : ℕ → ℕ → ℕ → List Entry → Table → Table
halve l n m es t = put m (view l (drop 9 es)) (put n (view l (take 9 es)) t)

-- node 0 becomes one level higher: the 9 go to number m, the others to number o
unfoldable pub raise : ℕ → ℕ → ℕ → List Entry → Table → Table
raise l m o es t = put 0 (view (suc l) (entry 0 m ∷ entry (first_key 0 (drop 9 es)) o ∷ [])) (put o (view l (drop 9 es)) (put m (view l (take 9 es)) t))

-- node n of level l is to hold es: up to 16 it does, with 17 it splits; the split of node 0 takes the two least
unfoldable pub fit_or_split : ℕ → ℕ → List Entry → Table → Up
fit_or_split l n es t =
    cond (leb (length es) 16) (stop (put n (view l es) t))
    (cond (eqb n 0) (stop (raise l (least t) (least2 t) es t)) (gains (first_key 0 (drop 9 es)) (least t) (halve l n (least t) es t)))

unfoldable pub gain : ℕ → ℕ → ℕ → ℕ → Table → Up
gain l n k v t = fit_or_split l n (insert_entry k v (entries_at t n)) t

abbrev pub pass : ℕ → ℕ → Up → Up
pass l n (stop t) = stop t
pass l n (gains k m t) = gain l n k m t

unfoldable pub insert_at : ℕ → ℕ → ℕ → ℕ → Table → Up
insert_at zero n k v t = gain 0 n k v t
insert_at (suc l) n k v t = pass (suc l) n (insert_at l (child t n k) k v t)

-- the table after an insert, however many numbers it takes
unfoldable pub inserted : ℕ → ℕ → Table → Table
inserted k v t = table_of (insert_at (root_level t) 0 k v t)

pub data TreeStep : Type 0 where
  refusal : ℕ → TreeStep
  done : Table → TreeStep

-- 5: a node number of `limit` or more
unfoldable pub allowed : ℕ → Table → TreeStep
allowed limit t = cond (leb (next t) limit) (done t) (refusal 5)

unfoldable pub insert : ℕ → ℕ → ℕ → Table → TreeStep
insert limit k v t = allowed limit (inserted k v t)

-- ---- when that is, told of the table before
-- whether the node of level l on the way to k gets 17 entries
abbrev pub spills : ℕ → ℕ → ℕ → ℕ → Table → Bool
spills zero n k v t = ltb 16 (length (insert_entry k v (entries_at t n)))
spills (suc l) n k v t = spills l (child t n k) k v t && ltb 16 (suc (length (entries_at t n)))

-- the numbers that an insert needs: one for each node that splits, two for node 0
abbrev pub takes : ℕ → Bool → ℕ
takes n b = cond b (cond (eqb n 0) 2 1) 0

abbrev pub needs : ℕ → ℕ → ℕ → ℕ → Table → ℕ
needs zero n k v t = takes n (spills zero n k v t)
needs (suc l) n k v t = needs l (child t n k) k v t + takes n (spills (suc l) n k v t)
