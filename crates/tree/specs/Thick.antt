-- Trees that are thin, and trees that are not.
use Rattle.std.specs.Prelude.{◌≡◌, Bool, false, ◌||◌, List, [], ◌∷◌, ℕ, zero, suc, ◌<◌, ◌≤◌, ltb, length}
use Rattle.views.specs.Nodes.{Entry, View, untouched, freed, broken, view}
use Rattle.tree.specs.Tree.{Table, at, entries_at, root_level}

-- the fewest entries of a node of level l that is not the root, a leaf's c
abbrev pub least_of : ℕ → ℕ → ℕ
least_of c zero = c
least_of c (suc l) = 8

-- every node but node 0 has at least 8 entries, a leaf at least c
abbrev pub Filled : ℕ → Table → Type 0
Filled c t = (n l : ℕ) (es : List Entry) → 0 < n → at t n ≡ view l es → least_of c l ≤ length es

-- and node 0 above level 0 at least 2
pub record Thick (c : ℕ) (t : Table) : Type 0 where
  pub nodes : Filled c t
  pub root : 0 < root_level t → 2 ≤ length (entries_at t 0)

-- ---- thin trees. Document 02, note 6: 'an interior node other than node 0 has fewer than 8 entries, or node 0 above level 0 has fewer than 2. Leaves may be thin.'
-- the fewest entries of an interior node n
abbrev pub fewest : ℕ → ℕ
fewest zero = 2
fewest (suc n) = 8

abbrev pub is_thin : ℕ → View → Bool
is_thin n untouched = false
is_thin n freed = false
is_thin n broken = false
is_thin n (view zero es) = false
is_thin n (view (suc l) es) = ltb (length es) (fewest n)

-- some node is thin; the first view is that of number n
abbrev pub thin_from : ℕ → Table → Bool
thin_from n [] = false
thin_from n (w ∷ t) = is_thin n w || thin_from (suc n) t

unfoldable pub thin : Table → Bool
thin t = thin_from 0 t
