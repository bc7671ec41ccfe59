-- Step 6: the views are those of a tree whose root is node 0.
use Rattle.std.specs.Prelude.{◌≡◌, Bool, true, false, ◌&&◌, List, [], ◌∷◌, ℕ, zero, suc, ◌^◌, ◌≤◌, ltb, leb, eqb, length}
use Rattle.lists.specs.Lists.{count, flat}
use Rattle.views.specs.Nodes.{Entry, View, untouched, freed, broken, view, Rising}
use Rattle.tree.specs.Tree.{there, Table, at, entries_at, root_level, child, first_key}

-- the root has no end: every key is below it
abbrev pub top : ℕ
top = 2 ^ 32

-- a node of level l
abbrev pub is_level : ℕ → View → Bool
is_level l untouched = false
is_level l freed = false
is_level l broken = false
is_level l (view m es) = eqb m l

-- all keys from lo to below hi
abbrev pub keys_in : ℕ → ℕ → List Entry → Bool
keys_in lo hi [] = true
keys_in lo hi (e ∷ es) = leb lo e.key && (ltb e.key hi && keys_in lo hi es)

-- each value passes `ok` from its entry key to the next one, the last to hi
abbrev pub are_subtrees : (ℕ → ℕ → ℕ → Bool) → ℕ → List Entry → Bool
are_subtrees ok hi [] = true
are_subtrees ok hi (e ∷ es) = ok e.value e.key (first_key hi es) && are_subtrees ok hi es

-- node n is the top of a tree of level l with keys from lo to below hi
abbrev pub is_subtree : ℕ → Table → ℕ → ℕ → ℕ → Bool
is_subtree zero t n lo hi = is_level 0 (at t n) && keys_in lo hi (entries_at t n)
is_subtree (suc l) t n lo hi =
    is_level (suc l) (at t n)
    && (leb 1 (length (entries_at t n))
    && (leb (length (entries_at t n)) 16
    && (eqb (first_key 0 (entries_at t n)) lo
    && (keys_in lo hi (entries_at t n) && are_subtrees (is_subtree l t) hi (entries_at t n)))))

-- the node numbers reached from node n of level l
abbrev pub reached : ℕ → Table → ℕ → List ℕ
reached zero t n = n ∷ []
reached (suc l) t n = n ∷ flat (λ (e : Entry). reached l t e.value) (entries_at t n)

-- how often number n stands among these
abbrev pub times : ℕ → List ℕ → ℕ
times n ns = count (λ (m : ℕ). eqb m n) ns

-- each node is among the numbers exactly once; the first view is that of number n
abbrev pub once_from : ℕ → Table → List ℕ → Bool
once_from n [] ns = true
once_from n (w ∷ t) ns = eqb (times n ns) (there w) && once_from (suc n) t ns

-- node 0 has a reset, its tree obeys the rules, and each node is reached from it exactly once; else 9
unfoldable pub step6 : Table → Bool
step6 t = is_level (root_level t) (at t 0) && (is_subtree (root_level t) t 0 0 top && once_from 0 t (reached (root_level t) t 0))

-- node n of level l, and on the way to the leaf of k the level falls by one each time
abbrev pub Leads : ℕ → ℕ → ℕ → Table → Type 0
Leads zero n k t = is_level 0 (at t n) ≡ true
Leads (suc l) n k t = (is_level (suc l) (at t n) ≡ true) × Leads l (child t n k) k t

-- what step 4 leaves of a node: at most 16 entries, their keys rising
pub record NodeFits (es : List Entry) : Type 0 where
  pub rising : Rising es
  pub few : length es ≤ 16

-- a table that passes, whatever wrote it: its numbers may have gaps, its nodes may be thin
pub record Tree (t : Table) : Type 0 where
  pub views : (n : ℕ) → NodeFits (entries_at t n)
  pub passes : step6 t ≡ true
