-- Note 7 in examples, computed: a tree that is not thin and grows to level 3, and a thin one that would grow to level 4. Assumes nothing.
use mathlib.Core.Path.{◌≡◌, refl}
use mathlib.Core.Bool.{true, false}
use mathlib.Core.List.{List, [], ◌∷◌, ◌++◌}
use Prim.Native.Nat.{ℕ, zero, suc, ◌+◌}
use lib.ListN.{length}
use Rattle.views.specs.Nodes.{Entry, entry, View, view}
use Rattle.tree.specs.Tree.{Table, entries_at, next, root_level}
use Rattle.tree.specs.Step6.{step6}
use Rattle.tree.specs.Insert.{halve, raise, fit_or_split, gain, insert_at, inserted}
use Rattle.tree.specs.Thick.{thin}

-- c entries: keys k, k + d, .., values n, n + 1, ..
unfoldable pub spaced : ℕ → ℕ → ℕ → ℕ → List Entry
spaced k d n zero = []
spaced k d n (suc c) = entry k n ∷ spaced (k + d) d (suc n) c

-- c nodes of level l, with x entries each that are e apart: their first keys k, k + d, .., the values one after the other from n on
unfoldable pub peers : ℕ → ℕ → ℕ → ℕ → ℕ → ℕ → ℕ → List View
peers l x e k d n zero = []
peers l x e k d n (suc c) = view l (spaced k e n x) ∷ peers l x e (k + d) d (n + x) c

-- c groups of 8 leaves with one key each, under keys k, k + 1000, ..
unfoldable pub peer_groups : ℕ → ℕ → List View
peer_groups k zero = []
peer_groups k (suc c) = peers 0 1 1 k 50 0 8 ++ peer_groups (k + 1000) c

-- node 0 of level 2 over 16 nodes; the first has 16 leaves, the others 8; the first leaf has 16 keys: 153 nodes, not thin
abbrev pub thick_full : Table
thick_full =
    view 2 (spaced 0 1000 1 16) ∷ view 1 (spaced 0 50 17 16) ∷ peers 1 8 50 1000 1000 33 15
    ++ (view 0 (spaced 0 1 0 16) ∷ peers 0 1 1 50 50 0 15 ++ peer_groups 1000 15)

-- an insert into the first leaf splits a node of each level, and node 0 has two entries at level 3
pub grows : (step6 thick_full ≡ true) × (thin thick_full ≡ false) × (length thick_full ≡ 153) × (next (inserted 16 0 thick_full) ≡ 157)
    × (root_level (inserted 16 0 thick_full) ≡ 3) × (length (entries_at (inserted 16 0 thick_full) 0) ≡ 2) × (thin (inserted 16 0 thick_full) ≡ false)
unfolding spaced peers peer_groups step6 thin inserted insert_at gain fit_or_split halve raise
grows = (refl, refl, refl, refl, refl, refl, refl)

-- node 0 of level 3 over 16 nodes; the first node of each level has 16 entries, the others one: 94 nodes, thin
abbrev pub thin_full : Table
thin_full =
    view 3 (spaced 0 1000000 1 16) ∷ view 2 (spaced 0 10000 17 16) ∷ peers 2 1 1 1000000 1000000 33 15
    ++ (view 1 (spaced 0 100 48 16) ∷ peers 1 1 1 10000 10000 64 15 ++ peers 1 1 1 1000000 1000000 79 15
    ++ (view 0 (spaced 0 1 0 16) ∷ peers 0 1 1 100 100 0 15 ++ peers 0 1 1 10000 10000 0 15 ++ peers 0 1 1 1000000 1000000 0 15))

-- an insert into the first leaf would make node 0 one of level 4, with numbers to spare: that trees are not thin is needed
pub rises : (step6 thin_full ≡ true) × (thin thin_full ≡ true) × (length thin_full ≡ 94) × (next (inserted 16 0 thin_full) ≡ 99) × (root_level (inserted 16 0 thin_full) ≡ 4)
unfolding spaced peers step6 thin inserted insert_at gain fit_or_split halve raise
rises = (refl, refl, refl, refl, refl)
