-- To delete: the leaf's entry goes, thin nodes join their neighbours or take an entry of them, and node 0 takes over an only child.
use Rattle.std.specs.Prelude.{cond, List, [], ◌∷◌, ◌++◌, ℕ, zero, suc, ◌+◌, ◌-◌, leb, ltb, eqb, length, take, drop}
use Rattle.views.specs.Nodes.{Entry, entry, freed, view, delete_entry}
use Rattle.tree.specs.Tree.{Table, at, put, entries_at, root_level, child, first_key}

-- what a delete under a node leaves: the table, and whether the node lost an entry
pub data Down : Type 0 where
  kept : Table → Down
  lost : Table → Down

abbrev pub leaves : Down → Table
leaves (kept t) = t
leaves (lost t) = t

-- two neighbours under one parent, and the parent's entries before and behind them
pub data Two : Type 0 where
  alone : Two
  two : List Entry → Entry → Entry → List Entry → Two

abbrev pub behind : Entry → Two → Two
behind e alone = alone
behind e (two bs a b ds) = two (e ∷ bs) a b ds

-- the child of k and its right neighbour under the same parent, or the left one if it is last
abbrev pub neighbours : ℕ → List Entry → Two
neighbours k [] = alone
neighbours k (a ∷ []) = alone
neighbours k (a ∷ b ∷ []) = two [] a b []
neighbours k (a ∷ b ∷ c ∷ es) = cond (ltb k b.key) (two [] a b (c ∷ es)) (behind a (neighbours k (b ∷ c ∷ es)))

-- both go into the left one, the right number is freed, and the parent loses the right one's entry
unfoldable pub join : ℕ → ℕ → List Entry → Entry → Entry → List Entry → List Entry → Table → Table
join l n bs a b ds es t = put n (view (suc l) (bs ++ (a ∷ ds))) (put b.value freed (put a.value (view l es) t))

-- the first m of both stay in the left one; the parent's key for the right one becomes that one's least key
unfoldable pub share : ℕ → ℕ → ℕ → List Entry → Entry → Entry → List Entry → List Entry → Table → Table
share l n m bs a b ds es t =
    put n (view (suc l) (bs ++ (a ∷ entry (first_key 0 (drop m es)) b.value ∷ ds)))
    (put b.value (view l (drop m es)) (put a.value (view l (take m es)) t))

-- the nearest entry moves over, from the longer to the shorter: x on the left and y on the right before, so many on the left after
abbrev pub moved : ℕ → ℕ → ℕ
moved x y = cond (ltb x y) (suc x) (x - 1)

-- neighbours of level l under node n: together 16 or fewer they join, otherwise an entry moves over; without a neighbour nothing happens
unfoldable pub settle : ℕ → ℕ → Two → Table → Down
settle l n alone t = kept t
settle l n (two bs a b ds) t =
    cond (leb (length (entries_at t a.value) + length (entries_at t b.value)) 16)
    (lost (join l n bs a b ds (entries_at t a.value ++ entries_at t b.value) t))
    (kept (share l n (moved (length (entries_at t a.value)) (length (entries_at t b.value))) bs a b ds (entries_at t a.value ++ entries_at t b.value) t))

-- child c of node n, on the way to k: if it lost an entry and has fewer than 8, it looks at its neighbour
abbrev pub mend : ℕ → ℕ → ℕ → ℕ → Down → Down
mend l n c k (kept t) = kept t
mend l n c k (lost t) = cond (ltb (length (entries_at t c)) 8) (settle l n (neighbours k (entries_at t n)) t) (kept t)

-- the entry is taken out of its leaf; a parent that lost an entry follows the same rule
unfoldable pub delete_at : ℕ → ℕ → ℕ → Table → Down
delete_at zero n k t = lost (put n (view 0 (delete_entry k (entries_at t n))) t)
delete_at (suc l) n k t = mend l n (child t n k) k (delete_at l (child t n k) k t)

-- node 0 takes over child c, which is freed
unfoldable pub take_over : ℕ → Table → Table
take_over c t = put c freed (put 0 (at t c) t)

-- while node 0 is above level 0 with one entry, it takes over its child
abbrev pub collapsed : ℕ → Table → Table
collapsed zero t = t
collapsed (suc l) t = cond (eqb (length (entries_at t 0)) 1) (collapsed l (take_over (child t 0 0) t)) t

unfoldable pub delete : ℕ → Table → Table
delete k t = collapsed (root_level t) (leaves (delete_at (root_level t) 0 k t))
