-- Note 1 in examples, computed. Assumes nothing.
use mathlib.Core.Path.{◌≡◌, refl}
use mathlib.Core.Bool.{true}
use mathlib.Core.List.{List, [], ◌∷◌, ◌++◌}
use Prim.Native.Nat.{ℕ, zero, suc, ◌+◌}
use Rattle.views.specs.Nodes.{Entry, entry, View, untouched, freed, view}
use Rattle.tree.specs.Tree.{Table}
use Rattle.tree.specs.Step6.{step6}
use Rattle.tree.specs.Insert.{halve, done, refusal, allowed, raise, fit_or_split, gain, insert_at, inserted, insert}
use Rattle.tree.specs.Delete.{join, share, settle, delete_at, take_over, delete}
use Rattle.tree.specs.Units.{after_units}
use Rattle.tree.specs.DeleteUnits.{join_units, to_left, to_right, share_units, settle_units, delete_units_at, over_units, delete_units_from, delete_units, frees}
use Rattle.pages.specs.declared.unit.Update.TheVariants.{Insert, Delete, Reset}
use Rattle.views.specs.Groups.{unit_for}
use lib.ListN.{length}
use Rattle.tree.proofs.Examples.{counting_from as from}

abbrev pub leaf : ℕ → ℕ → View
leaf n c = view 0 (from n c)

-- three leaves: x keys from 10 on, y from 30 on, z from 50 on
abbrev pub three : ℕ → ℕ → ℕ → Table
three x y z = view 1 (entry 0 1 ∷ entry 30 2 ∷ entry 50 3 ∷ []) ∷ leaf 10 x ∷ leaf 30 y ∷ leaf 50 z ∷ []

-- entries of c children: keys k, k + 20, .., numbers n, n + 1, ..
unfoldable pub row : ℕ → ℕ → ℕ → List Entry
row k n zero = []
row k n (suc c) = entry k n ∷ row (k + 20) (suc n) c

-- c leaves of x keys each, from k, k + 20, .. on
unfoldable pub rows : ℕ → ℕ → ℕ → Table → Table
rows k x zero t = t
rows k x (suc c) t = leaf k x ∷ rows (k + 20) x c t

-- two nodes of level 1 with 8 leaves of 8 keys each
abbrev pub wide : Table
wide = view 2 (entry 0 1 ∷ entry 160 2 ∷ []) ∷ view 1 (row 0 3 8) ∷ view 1 (row 160 11 8) ∷ rows 0 8 16 []

-- node 0 over 16 leaves of 16 keys each, with numbers 1 to 4 and 6 to 17
abbrev pub gapped : Table
gapped = view 1 (row 0 1 4 ++ row 80 6 12) ∷ rows 0 16 4 (untouched ∷ rows 80 16 12 [])

-- a join to the right; a join to the left, of the last child; a move from the right, and from the left to the last child
-- 8 entries stay alone; a parent that joins too, and node 0 takes over one level; two levels; a number freed is taken again, the least one
pub examples :
    (delete 10 (three 8 8 8) ≡ view 1 (entry 0 1 ∷ entry 50 3 ∷ []) ∷ view 0 (from 11 7 ++ from 30 8) ∷ freed ∷ leaf 50 8 ∷ [])
    × (delete 57 (three 8 8 8) ≡ view 1 (entry 0 1 ∷ entry 30 2 ∷ []) ∷ leaf 10 8 ∷ view 0 (from 30 8 ++ from 50 7) ∷ freed ∷ [])
    × (delete 10 (three 8 10 8) ≡ view 1 (entry 0 1 ∷ entry 31 2 ∷ entry 50 3 ∷ []) ∷ view 0 (from 11 7 ++ from 30 1) ∷ leaf 31 9 ∷ leaf 50 8 ∷ [])
    × (delete 57 (three 8 10 8) ≡ view 1 (entry 0 1 ∷ entry 30 2 ∷ entry 39 3 ∷ []) ∷ leaf 10 8 ∷ leaf 30 9 ∷ view 0 (from 39 1 ++ from 50 7) ∷ [])
    × (delete 12 (three 9 8 8) ≡ view 1 (entry 0 1 ∷ entry 30 2 ∷ entry 50 3 ∷ []) ∷ view 0 (from 10 2 ++ from 13 6) ∷ leaf 30 8 ∷ leaf 50 8 ∷ [])
    × (delete 1 (view 1 (entry 0 1 ∷ entry 30 2 ∷ []) ∷ leaf 1 8 ∷ leaf 30 8 ∷ []) ≡ view 0 (from 2 7 ++ from 30 8) ∷ freed ∷ freed ∷ [])
    × (delete 1 (view 2 (entry 0 1 ∷ entry 30 2 ∷ []) ∷ view 1 (entry 0 3 ∷ entry 20 4 ∷ []) ∷ view 1 (entry 30 5 ∷ []) ∷ leaf 1 2 ∷ leaf 20 3 ∷ leaf 30 4 ∷ [])
    ≡ view 1 (entry 0 3 ∷ entry 30 5 ∷ []) ∷ freed ∷ freed ∷ view 0 (from 2 1 ++ from 20 3) ∷ freed ∷ leaf 30 4 ∷ [])
    × (delete 1 (view 2 (entry 0 1 ∷ []) ∷ view 1 (entry 0 2 ∷ entry 20 3 ∷ []) ∷ leaf 1 2 ∷ leaf 20 3 ∷ [])
    ≡ view 0 (from 2 1 ++ from 20 3) ∷ freed ∷ freed ∷ freed ∷ [])
    × (delete 5 (view 0 (from 5 1) ∷ []) ≡ view 0 [] ∷ [])
    × (inserted 9 9 (view 1 (entry 0 1 ∷ entry 50 3 ∷ []) ∷ leaf 10 16 ∷ untouched ∷ leaf 50 8 ∷ [])
    ≡ view 1 (entry 0 1 ∷ entry 18 2 ∷ entry 50 3 ∷ []) ∷ leaf 9 9 ∷ leaf 18 8 ∷ leaf 50 8 ∷ [])
    × (inserted 9 9 (inserted 8 8 (delete 10 (three 8 8 8)))
    ≡ view 1 (entry 0 1 ∷ entry 30 2 ∷ entry 50 3 ∷ []) ∷ view 0 (from 8 2 ++ from 11 7) ∷ leaf 30 8 ∷ leaf 50 8 ∷ [])
    × (delete 0 wide ≡ view 1 (entry 0 3 ∷ row 40 5 6 ++ row 160 11 8) ∷ freed ∷ freed ∷ view 0 (from 1 7 ++ from 20 8) ∷ freed ∷ rows 40 8 14 [])
    × (step6 (delete 0 wide) ≡ true)
    × (inserted 19 1 gapped
    ≡ view 2 (entry 0 18 ∷ entry 160 19 ∷ []) ∷ leaf 0 9 ∷ rows 20 16 3 (view 0 (from 9 7 ++ (entry 19 1 ∷ [])) ∷ rows 80 16 12 (view 1 (entry 0 1 ∷ entry 9 5 ∷ row 20 2 3 ++ row 80 6 4) ∷ view 1 (row 160 10 8) ∷ [])))
    × (step6 (inserted 19 1 gapped) ≡ true)
    × (insert 19 19 1 gapped ≡ refusal 5)
    × (insert 20 19 1 gapped ≡ done (inserted 19 1 gapped))
    × (insert 4 17 17 (view 0 (from 1 16) ∷ untouched ∷ []) ≡ done (view 1 (entry 0 1 ∷ entry 10 2 ∷ []) ∷ leaf 1 9 ∷ leaf 10 8 ∷ []))
    × (insert 2 17 17 (view 0 (from 1 16) ∷ []) ≡ refusal 5)
    × (insert 3 17 17 (view 0 (from 1 16) ∷ []) ≡ done (view 1 (entry 0 1 ∷ entry 10 2 ∷ []) ∷ leaf 1 9 ∷ leaf 10 8 ∷ []))
unfolding from row rows delete delete_at take_over settle join share insert inserted insert_at gain fit_or_split raise halve allowed step6
examples = (refl, refl, refl, refl, refl, refl, refl, refl, refl, refl, refl, refl, refl, refl, refl, refl, refl, refl, refl, refl)

-- c nodes of level 1 with one leaf each, keys k, k + 20, .., leaves n, n + 1, ..
unfoldable pub ones : ℕ → ℕ → ℕ → Table → Table
ones k n zero t = t
ones k n (suc c) t = view 1 (entry k n ∷ []) ∷ ones (k + 20) (suc n) c t

-- three joins of thin nodes, the last of node 0's two children with 16 entries: 55 units
abbrev pub most : Table
most =
    view 3 (entry 0 1 ∷ entry 400 2 ∷ []) ∷ view 2 (entry 0 3 ∷ entry 40 4 ∷ []) ∷ view 2 (row 400 5 15)
    ∷ view 1 (entry 0 20 ∷ entry 20 21 ∷ []) ∷ view 1 (row 40 22 15) ∷ ones 400 37 15 (leaf 1 1 ∷ leaf 20 16 ∷ rows 0 0 30 [])

-- two joins, after which node 0 takes over two levels: 57 units
abbrev pub chain : Table
chain =
    view 3 (entry 0 1 ∷ []) ∷ view 2 (entry 0 2 ∷ entry 40 3 ∷ []) ∷ view 1 (entry 0 4 ∷ entry 20 5 ∷ []) ∷ view 1 (row 40 6 15) ∷ leaf 1 1 ∷ leaf 20 16 ∷ rows 0 0 15 []

-- the units: of a join, of a move to either side, of one entry, of node 0 that takes over; at most 57 of them
pub unit_examples :
    (delete_units 57 (three 8 8 8)
    ≡ unit_for 3 (Delete 57) ∷ unit_for 2 (Insert 50 50) ∷ unit_for 2 (Insert 51 51) ∷ unit_for 2 (Insert 52 52) ∷ unit_for 2 (Insert 53 53) ∷ unit_for 2 (Insert 54 54)
    ∷ unit_for 2 (Insert 55 55) ∷ unit_for 2 (Insert 56 56) ∷ unit_for 3 (Reset 255) ∷ unit_for 0 (Delete 50) ∷ [])
    × (delete_units 57 (three 8 10 8) ≡ unit_for 3 (Delete 57) ∷ unit_for 2 (Delete 39) ∷ unit_for 3 (Insert 39 39) ∷ unit_for 0 (Delete 50) ∷ unit_for 0 (Insert 39 3) ∷ [])
    × (delete_units 10 (three 8 10 8) ≡ unit_for 1 (Delete 10) ∷ unit_for 1 (Insert 30 30) ∷ unit_for 2 (Delete 30) ∷ unit_for 0 (Delete 30) ∷ unit_for 0 (Insert 31 2) ∷ [])
    × (delete_units 12 (three 9 8 8) ≡ unit_for 1 (Delete 12) ∷ [])
    × (delete_units 1 (view 2 (entry 0 1 ∷ []) ∷ view 1 (entry 0 2 ∷ entry 20 3 ∷ []) ∷ leaf 1 2 ∷ leaf 20 1 ∷ [])
    ≡ unit_for 2 (Delete 1) ∷ unit_for 2 (Insert 20 20) ∷ unit_for 3 (Reset 255) ∷ unit_for 1 (Delete 20)
    ∷ unit_for 0 (Reset 1) ∷ unit_for 0 (Insert 0 2) ∷ unit_for 1 (Reset 255) ∷ unit_for 0 (Reset 0) ∷ unit_for 0 (Insert 2 2) ∷ unit_for 0 (Insert 20 20) ∷ unit_for 2 (Reset 255) ∷ [])
    × (length (delete_units 0 wide) ≡ 29)
    × (frees (delete_units 0 wide) ≡ 3)
    × (after_units (delete_units 0 wide) wide ≡ delete 0 wide)
    × (step6 most ≡ true)
    × (length (delete_units 1 most) ≡ 55)
    × (after_units (delete_units 1 most) most ≡ delete 1 most)
    × (step6 chain ≡ true)
    × (length (delete_units 1 chain) ≡ 57)
unfolding from row rows ones step6 delete delete_at take_over settle join share delete_units delete_units_from delete_units_at settle_units join_units share_units to_left to_right over_units after_units
unit_examples = (refl, refl, refl, refl, refl, refl, refl, refl, refl, refl, refl, refl, refl)
