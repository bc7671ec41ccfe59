-- Thin trees and rebuilt trees, computed. Assumes nothing.
use mathlib.Core.Path.{◌≡◌, refl}
use mathlib.Core.Bool.{true, false}
use mathlib.Core.List.{List, [], ◌∷◌, ◌++◌}
use Prim.Native.Nat.{ℕ, suc, ◌*◌}
use lib.ListN.{length, replicate}
use Rattle.lists.specs.Lists.{tab}
use Rattle.views.specs.Nodes.{Entry, entry, untouched, freed, view}
use Rattle.tree.specs.Tree.{Table, at, entries_at, next, records}
use Rattle.tree.specs.Step6.{step6}
use Rattle.tree.specs.Thick.{thin}
use Rattle.tree.specs.Rebuild.{layers, vacated, rebuild}
use Rattle.tree.proofs.Examples.{counting_from}

-- c entries for the nodes from n on
abbrev entries_for : ℕ → ℕ → List Entry
entries_for n c = tab n c (λ m. entry m m)

-- node 0 above level 0 with one entry, with two; another interior node with seven, with eight; leaves with none; a freed number
pub thin_examples :
    (thin (view 0 [] ∷ []) ≡ false)
    × (thin (view 1 (entries_for 0 1) ∷ view 0 [] ∷ []) ≡ true)
    × (thin (view 1 (entries_for 0 2) ∷ view 0 [] ∷ view 0 [] ∷ []) ≡ false)
    × (thin (view 2 (entries_for 0 2) ∷ view 1 (entries_for 0 8) ∷ view 1 (entries_for 8 7) ∷ []) ≡ true)
    × (thin (view 2 (entries_for 0 2) ∷ untouched ∷ freed ∷ view 1 (entries_for 0 8) ∷ view 1 (entries_for 8 8) ∷ []) ≡ false)
unfolding thin
thin_examples = (refl, refl, refl, refl, refl)

-- 0 records; 1 record under two thin nodes; 16 in two leaves; 17 in three leaves at high numbers
pub rebuild_examples :
    (rebuild (view 0 [] ∷ untouched ∷ freed ∷ []) ≡ view 0 [] ∷ untouched ∷ freed ∷ [])
    × (rebuild (view 2 (entry 0 3 ∷ []) ∷ untouched ∷ view 0 (counting_from 5 1) ∷ view 1 (entry 0 2 ∷ []) ∷ [])
    ≡ view 0 (counting_from 5 1) ∷ untouched ∷ freed ∷ freed ∷ [])
    × (rebuild (view 1 (entry 0 1 ∷ entry 13 2 ∷ []) ∷ view 0 (counting_from 5 8) ∷ view 0 (counting_from 13 8) ∷ []) ≡ view 0 (counting_from 5 16) ∷ freed ∷ freed ∷ [])
    × (rebuild (view 1 (entry 0 4 ∷ entry 11 3 ∷ entry 17 5 ∷ []) ∷ untouched ∷ untouched ∷ view 0 (counting_from 11 6) ∷ view 0 (counting_from 5 6) ∷ view 0 (counting_from 17 5) ∷ [])
    ≡ view 1 (entry 0 1 ∷ entry 13 2 ∷ []) ∷ view 0 (counting_from 5 8) ∷ view 0 (counting_from 13 9) ∷ freed ∷ freed ∷ freed ∷ [])
unfolding rebuild vacated layers records counting_from
rebuild_examples = (refl, refl, refl, refl)

-- 257 records in 17 leaves, 16 of them under one node and the last under a thin one
abbrev before : Table
before =
    view 2 (entry 0 18 ∷ entry 257 20 ∷ [])
    ∷ (tab 0 16 (λ i. view 0 (counting_from (suc (16 * i)) 16))
    ++ (view 0 (counting_from 257 1) ∷ view 1 (entry 0 1 ∷ tab 1 15 (λ i. entry (suc (16 * i)) (suc i))) ∷ untouched ∷ view 1 (entry 257 17 ∷ []) ∷ untouched ∷ []))

-- how many entries each number has
abbrev sizes : Table → List ℕ
sizes t = tab 0 (length t) (λ n. length (entries_at t n))

-- rebuilt: 17 leaves, two nodes above them, and node 0 at level 2
pub rebuild_more :
    (step6 before ≡ true)
    × (thin before ≡ true)
    × (at (rebuild before) 0 ≡ view 2 (entry 0 18 ∷ entry 121 19 ∷ []))
    × (at (rebuild before) 18 ≡ view 1 (entry 0 1 ∷ tab 1 7 (λ i. entry (suc (15 * i)) (suc i))))
    × (at (rebuild before) 19 ≡ view 1 (tab 8 8 (λ i. entry (suc (15 * i)) (suc i)) ++ (entry 242 17 ∷ [])))
    × (at (rebuild before) 20 ≡ freed)
    × (at (rebuild before) 21 ≡ untouched)
    × (sizes (rebuild before) ≡ 2 ∷ (replicate 15 15 ++ (16 ∷ 16 ∷ 8 ∷ 9 ∷ 0 ∷ 0 ∷ [])))
    × (next (rebuild before) ≡ 20)
    × (step6 (rebuild before) ≡ true)
    × (thin (rebuild before) ≡ false)
    × (records (rebuild before) ≡ counting_from 1 257)
unfolding rebuild vacated layers records counting_from step6 thin
rebuild_more = (refl, refl, refl, refl, refl, refl, refl, refl, refl, refl, refl, refl)
