-- The paper's lines on the tree, computed. Assumes nothing.
use mathlib.Core.Path.{◌≡◌, refl}
use mathlib.Core.Bool.{true, false}
use mathlib.Core.List.{List, [], ◌∷◌}
use Prim.Native.Nat.{ℕ, zero, suc}
use Rattle.views.specs.Nodes.{Entry, entry, View, untouched, view}
use Rattle.tree.specs.Tree.{Table, found, absent, find}
use Rattle.tree.specs.Step6.{step6}
use Rattle.tree.specs.Insert.{fit_or_split, gain, halve, raise, insert_at, inserted, done, refusal, allowed, insert}
use Rattle.tree.specs.Delete.{delete, delete_at}

-- keys n to n + c - 1, each with its own number for a value
unfoldable pub counting_from : ℕ → ℕ → List Entry
counting_from n zero = []
counting_from n (suc c) = entry n n ∷ counting_from (suc n) c

-- keys 1 to n inserted in order into one empty leaf
unfoldable pub up_to : ℕ → Table
up_to zero = view 0 [] ∷ []
up_to (suc n) = inserted (suc n) (suc n) (up_to n)

abbrev pub root : View
root = view 1 (entry 0 1 ∷ entry 10 2 ∷ [])

abbrev pub leaf : ℕ → View
leaf k = view 0 (entry k 5 ∷ [])

-- 17 keys, 26 keys; a key below its leaf's low bound; refusal 5; then each sentence of step 6, kept and broken
pub examples :
    (up_to 17 ≡ root ∷ view 0 (counting_from 1 9) ∷ view 0 (counting_from 10 8) ∷ [])
    × (up_to 26 ≡ view 1 (entry 0 1 ∷ entry 10 2 ∷ entry 19 3 ∷ []) ∷ view 0 (counting_from 1 9) ∷ view 0 (counting_from 10 9) ∷ view 0 (counting_from 19 8) ∷ [])
    × (step6 (up_to 26) ≡ true)
    × (step6 (root ∷ view 0 (counting_from 1 9) ∷ view 0 (counting_from 9 8) ∷ []) ≡ false)
    × (insert 3 17 17 (up_to 16) ≡ done (up_to 17))
    × (insert 2 17 17 (up_to 16) ≡ refusal 5)
    × (find 9 (up_to 17) ≡ found 9)
    × (find 9 (delete 9 (up_to 17)) ≡ absent)
    × (step6 (root ∷ leaf 3 ∷ leaf 10 ∷ []) ≡ true)
    × (step6 (view 1 (entry 0 4 ∷ entry 10 2 ∷ []) ∷ untouched ∷ leaf 10 ∷ untouched ∷ leaf 3 ∷ []) ≡ true)
    × (step6 (root ∷ view 0 [] ∷ leaf 10 ∷ []) ≡ true)
    × (step6 (untouched ∷ leaf 3 ∷ []) ≡ false)
    × (step6 (view 1 [] ∷ []) ≡ false)
    × (step6 (root ∷ leaf 3 ∷ untouched ∷ []) ≡ false)
    × (step6 (view 2 (entry 0 1 ∷ entry 10 2 ∷ []) ∷ leaf 3 ∷ leaf 10 ∷ []) ≡ false)
    × (step6 (view 1 (entry 1 1 ∷ entry 10 2 ∷ []) ∷ leaf 3 ∷ leaf 10 ∷ []) ≡ false)
    × (step6 (root ∷ leaf 10 ∷ leaf 12 ∷ []) ≡ false)
    × (step6 (root ∷ leaf 3 ∷ leaf 10 ∷ leaf 11 ∷ []) ≡ false)
    × (step6 (view 1 (entry 0 1 ∷ entry 10 1 ∷ []) ∷ view 0 [] ∷ []) ≡ false)
unfolding up_to counting_from inserted insert_at gain fit_or_split halve raise insert allowed find delete delete_at step6
examples = (refl, refl, refl, refl, refl, refl, refl, refl, refl, refl, refl, refl, refl, refl, refl, refl, refl, refl, refl)
