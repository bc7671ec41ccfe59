-- The units of a delete, from the leaf upward; a freed node has a reset of value 255. Where node 0's two children join and it would take over
-- the joined one, node 0 is written at once.
use Rattle.std.specs.Prelude.{Bool, false, cond, ◌&&◌, List, [], ◌∷◌, ◌++◌, map, ℕ, zero, suc, ◌+◌, ◌-◌, leb, ltb, eqb, length, drop}
use Rattle.lists.specs.Lists.{count}
use Rattle.pages.specs.declared.unit.Update.{Update}
use Rattle.pages.specs.declared.unit.Update.TheVariants.{Insert, Delete, Reset}
use Rattle.pages.specs.declared.unit.Unit as U
use Rattle.views.specs.Nodes.{Entry, entry, inserted, anew}
use Rattle.views.specs.Groups.{unit_for}
use Rattle.tree.specs.Tree.{Table, entries_at, root_level, child, first_key}
use Rattle.tree.specs.Delete.{Down, kept, lost, leaves, Two, alone, two, neighbours, mend, delete_at, take_over}

abbrev pub first_of : List Entry → Entry
first_of [] = entry 0 0
first_of (e ∷ es) = e

-- updates of the left one, of the right one and of the parent
abbrev pub three_units : ℕ → ℕ → ℕ → List Update → List Update → List Update → List U.Unit
three_units a b n us vs ws = map (unit_for a) us ++ (map (unit_for b) vs ++ map (unit_for n) ws)

-- the right one's entries ys into the left one; the right one is freed; the parent loses its entry
unfoldable pub join_units : ℕ → Entry → Entry → List Entry → List U.Unit
join_units n a b ys = three_units a.value b.value n (map inserted ys) (Reset 255 ∷ []) (Delete b.key ∷ [])

-- entry e moves to the left one or to the right one; the parent's key for the right one becomes k
unfoldable pub to_left : ℕ → Entry → Entry → Entry → ℕ → List U.Unit
to_left n a b e k = three_units a.value b.value n (inserted e ∷ []) (Delete e.key ∷ []) (Delete b.key ∷ Insert k b.value ∷ [])

unfoldable pub to_right : ℕ → Entry → Entry → Entry → ℕ → List U.Unit
to_right n a b e k = three_units a.value b.value n (Delete e.key ∷ []) (inserted e ∷ []) (Delete b.key ∷ Insert k b.value ∷ [])

unfoldable pub share_units : ℕ → Entry → Entry → List Entry → List Entry → List U.Unit
share_units n a b xs ys =
    cond (ltb (length xs) (length ys))
    (to_left n a b (first_of ys) (first_key 0 (drop 1 ys)))
    (to_right n a b (first_of (drop (length xs - 1) xs)) (first_of (drop (length xs - 1) xs)).key)

unfoldable pub settle_units : ℕ → Two → Table → List U.Unit
settle_units n alone t = []
settle_units n (two bs a b ds) t =
    cond (leb (length (entries_at t a.value) + length (entries_at t b.value)) 16)
    (join_units n a b (entries_at t b.value))
    (share_units n a b (entries_at t a.value) (entries_at t b.value))

abbrev pub mend_units : ℕ → ℕ → ℕ → Down → List U.Unit
mend_units n c k (kept t) = []
mend_units n c k (lost t) = cond (ltb (length (entries_at t c)) 8) (settle_units n (neighbours k (entries_at t n)) t) []

unfoldable pub delete_units_at : ℕ → ℕ → ℕ → Table → List U.Unit
delete_units_at zero n k t = unit_for n (Delete k) ∷ []
delete_units_at (suc l) n k t = delete_units_at l (child t n k) k t ++ mend_units n (child t n k) k (delete_at l (child t n k) k t)

-- node 0 is written anew with the level and the entries of its child, which is freed
unfoldable pub over_units : ℕ → ℕ → Table → List U.Unit
over_units l c t = map (unit_for 0) (anew l (entries_at t c)) ++ (unit_for c (Reset 255) ∷ [])

abbrev pub collapse_units : ℕ → Table → List U.Unit
collapse_units zero t = []
collapse_units (suc l) t = cond (eqb (length (entries_at t 0)) 1) (over_units l (child t 0 0) t ++ collapse_units l (take_over (child t 0 0) t)) []

-- two children and no others, together 16 or fewer
abbrev pub merging : Two → Table → Bool
merging alone t = false
merging (two [] a b []) t = leb (length (entries_at t a.value) + length (entries_at t b.value)) 16
merging (two [] a b (d ∷ ds)) t = false
merging (two (c ∷ bs) a b ds) t = false

-- node 0 is written anew with both, and both are freed
abbrev pub merge_units : ℕ → Two → Table → List U.Unit
merge_units l alone t = []
merge_units l (two bs a b ds) t =
    map (unit_for 0) (anew l (entries_at t a.value ++ entries_at t b.value)) ++ (unit_for a.value (Reset 255) ∷ unit_for b.value (Reset 255) ∷ [])

abbrev pub top_units : ℕ → ℕ → ℕ → Down → List U.Unit
top_units l c k (kept t) = collapse_units (suc l) t
top_units l c k (lost t) =
    cond (ltb (length (entries_at t c)) 8 && merging (neighbours k (entries_at t 0)) t)
    (merge_units l (neighbours k (entries_at t 0)) t)
    (mend_units 0 c k (lost t) ++ collapse_units (suc l) (leaves (mend l 0 c k (lost t))))

unfoldable pub delete_units_from : ℕ → ℕ → Table → List U.Unit
delete_units_from zero k t = delete_units_at 0 0 k t
delete_units_from (suc l) k t = delete_units_at l (child t 0 k) k t ++ top_units l (child t 0 k) k (delete_at l (child t 0 k) k t)

unfoldable pub delete_units : ℕ → Table → List U.Unit
delete_units k t = delete_units_from (root_level t) k t

-- how many nodes these units free
abbrev pub is_free : Update → Bool
is_free (Insert k v) = false
is_free (Delete k) = false
is_free (Reset l) = eqb l 255

abbrev pub frees : List U.Unit → ℕ
frees us = count (λ (x : U.Unit). is_free x.update) us
