-- After an insert or a delete no view of the table is broken, if none was; each of them pushes a unit at least. Assumes nothing.
use mathlib.Core.Path.{◌≡◌, refl}
use mathlib.Core.Bool.{true}
use mathlib.Core.List.{List, [], ◌∷◌, ◌++◌}
use Prim.Native.Nat.{ℕ, zero, suc, ◌+◌, ◌<◌}
use native.Mathlib.Omega.{arith}
use lib.Dec.{leb, ltb, eqb}
use lib.ListN.{length, take, drop, length-append}
use Rattle.lists.specs.Lists.{all}
use Rattle.lists.proofs.Tests.{cases, and_left, and_right, and_intro}
use Rattle.views.specs.Nodes.{Entry, View, freed, view, insert_entry, delete_entry}
use Rattle.views.specs.Table.{is_whole}
use Rattle.tree.specs.Tree.{Table, at, put, entries_at, least, least2, root_level, child}
use Rattle.tree.specs.Insert.{Up, stop, gains, table_of, halve, raise, fit_or_split, gain, pass, insert_at, inserted}
use Rattle.tree.specs.Delete.{Down, kept, lost, leaves, Two, alone, two, neighbours, join, share, moved, settle, mend, delete_at, take_over, collapsed, delete}
use Rattle.tree.specs.Units.{anew_at}
use Rattle.tree.specs.InsertUnits.{halve_units, raise_units, hold_units, gain_units, insert_units_at, insert_units}
use Rattle.tree.specs.DeleteUnits.{delete_units_at, delete_units_from, delete_units}

-- no view of the table is broken
abbrev pub Whole : Table → Type 0
Whole t = all is_whole t ≡ true

whole_put : (n : ℕ) (w : View) (t : Table) → is_whole w ≡ true → Whole t → Whole (put n w t)
whole_put zero w [] a h = and_intro (is_whole w) true a refl
whole_put zero w (x ∷ t) a h = and_intro (is_whole w) (all is_whole t) a (and_right (is_whole x) (all is_whole t) h)
whole_put (suc n) w [] a h = whole_put n w [] a refl
whole_put (suc n) w (x ∷ t) a h =
    and_intro (is_whole x) (all is_whole (put n w t)) (and_left (is_whole x) (all is_whole t) h) (whole_put n w t a (and_right (is_whole x) (all is_whole t) h))

pub whole_at : (n : ℕ) (t : Table) → Whole t → is_whole (at t n) ≡ true
whole_at n [] h = refl
whole_at zero (x ∷ t) h = and_left (is_whole x) (all is_whole t) h
whole_at (suc n) (x ∷ t) h = whole_at n t (and_right (is_whole x) (all is_whole t) h)

-- ---- an insert
whole_halve : (l n m : ℕ) (es : List Entry) (t : Table) → Whole t → Whole (halve l n m es t)
unfolding halve
whole_halve l n m es t h = whole_put m (view l (drop 9 es)) (put n (view l (take 9 es)) t) refl (whole_put n (view l (take 9 es)) t refl h)

whole_raise : (l m o : ℕ) (es : List Entry) (t : Table) → Whole t → Whole (raise l m o es t)
unfolding raise
whole_raise l m o es t h =
    whole_put 0 _ (put o (view l (drop 9 es)) (put m (view l (take 9 es)) t)) refl
    (whole_put o (view l (drop 9 es)) (put m (view l (take 9 es)) t) refl (whole_put m (view l (take 9 es)) t refl h))

whole_hold : (l n : ℕ) (es : List Entry) (t : Table) → Whole t → Whole (table_of (fit_or_split l n es t))
unfolding fit_or_split
whole_hold l n es t h =
    cases (leb (length es) 16)
    (λ p. rw p (whole_put n (view l es) t refl h))
    (λ p. cases (eqb n 0) (λ q. rw (p, q) (whole_raise l (least t) (least2 t) es t h)) (λ q. rw (p, q) (whole_halve l n (least t) es t h)))

whole_gain : (l n k v : ℕ) (t : Table) → Whole t → Whole (table_of (gain l n k v t))
unfolding gain
whole_gain l n k v t h = whole_hold l n (insert_entry k v (entries_at t n)) t h

whole_pass : (l n : ℕ) (r : Up) → Whole (table_of r) → Whole (table_of (pass l n r))
whole_pass l n (stop t) h = h
whole_pass l n (gains k m t) h = whole_gain l n k m t h

whole_insert : (l n k v : ℕ) (t : Table) → Whole t → Whole (table_of (insert_at l n k v t))
unfolding insert_at
whole_insert zero n k v t h = whole_gain 0 n k v t h
whole_insert (suc l) n k v t h = whole_pass (suc l) n (insert_at l (child t n k) k v t) (whole_insert l (child t n k) k v t h)

pub whole_inserted : (k v : ℕ) (t : Table) → Whole t → Whole (inserted k v t)
unfolding inserted
whole_inserted k v t h = whole_insert (root_level t) 0 k v t h

-- ---- a delete
whole_join : (l n : ℕ) (bs : List Entry) (a b : Entry) (ds es : List Entry) (t : Table) → Whole t → Whole (join l n bs a b ds es t)
unfolding join
whole_join l n bs a b ds es t h =
    whole_put n _ (put b.value freed (put a.value (view l es) t)) refl
    (whole_put b.value freed (put a.value (view l es) t) refl (whole_put a.value (view l es) t refl h))

whole_share : (l n m : ℕ) (bs : List Entry) (a b : Entry) (ds es : List Entry) (t : Table) → Whole t → Whole (share l n m bs a b ds es t)
unfolding share
whole_share l n m bs a b ds es t h =
    whole_put n _ (put b.value (view l (drop m es)) (put a.value (view l (take m es)) t)) refl
    (whole_put b.value (view l (drop m es)) (put a.value (view l (take m es)) t) refl (whole_put a.value (view l (take m es)) t refl h))

whole_settle : (l n : ℕ) (p : Two) (t : Table) → Whole t → Whole (leaves (settle l n p t))
unfolding settle
whole_settle l n alone t h = h
whole_settle l n (two bs a b ds) t h =
    let xs = entries_at t a.value in
    let ys = entries_at t b.value in
    cases (leb (length xs + length ys) 16)
    (λ p. rw p (whole_join l n bs a b ds (xs ++ ys) t h))
    (λ p. rw p (whole_share l n (moved (length xs) (length ys)) bs a b ds (xs ++ ys) t h))

whole_mend : (l n c k : ℕ) (d : Down) → Whole (leaves d) → Whole (leaves (mend l n c k d))
whole_mend l n c k (kept t) h = h
whole_mend l n c k (lost t) h =
    cases (ltb (length (entries_at t c)) 8) (λ p. rw p (whole_settle l n (neighbours k (entries_at t n)) t h)) (λ p. rw p h)

whole_delete : (l n k : ℕ) (t : Table) → Whole t → Whole (leaves (delete_at l n k t))
unfolding delete_at
whole_delete zero n k t h = whole_put n (view 0 (delete_entry k (entries_at t n))) t refl h
whole_delete (suc l) n k t h = whole_mend l n (child t n k) k (delete_at l (child t n k) k t) (whole_delete l (child t n k) k t h)

whole_over : (c : ℕ) (t : Table) → Whole t → Whole (take_over c t)
unfolding take_over
whole_over c t h = whole_put c freed (put 0 (at t c) t) refl (whole_put 0 (at t c) t (whole_at c t h) h)

whole_collapsed : (l : ℕ) (t : Table) → Whole t → Whole (collapsed l t)
whole_collapsed zero t h = h
whole_collapsed (suc l) t h =
    cases (eqb (length (entries_at t 0)) 1)
    (λ p. rw p (whole_collapsed l (take_over (child t 0 0) t) (whole_over (child t 0 0) t h)))
    (λ p. rw p h)

pub whole_deleted : (k : ℕ) (t : Table) → Whole t → Whole (delete k t)
unfolding delete
whole_deleted k t h = whole_collapsed (root_level t) (leaves (delete_at (root_level t) 0 k t)) (whole_delete (root_level t) 0 k t h)

-- ---- an insert pushes a unit at least
some_hold : (l n k v : ℕ) (es : List Entry) (t : Table) → 0 < length (hold_units l n k v es t)
unfolding hold_units raise_units halve_units anew_at
some_hold l n k v es t =
    cases (leb (length es) 16)
    (λ p. rw p (omega arith))
    (λ p. cases (eqb n 0) (λ q. rw (p, q) (omega arith)) (λ q. rw (p, q) (omega arith)))

some_insert : (l n k v : ℕ) (t : Table) → 0 < length (insert_units_at l n k v t)
unfolding insert_units_at gain_units
some_insert zero n k v t = some_hold 0 n k v (insert_entry k v (entries_at t n)) t
some_insert (suc l) n k v t = rw length-append (omega (arith, some_insert l (child t n k) k v t))

pub some_inserted : (k v : ℕ) (t : Table) → 0 < length (insert_units k v t)
unfolding insert_units
some_inserted k v t = some_insert (root_level t) 0 k v t

-- and so does a delete
some_delete : (l n k : ℕ) (t : Table) → 0 < length (delete_units_at l n k t)
unfolding delete_units_at
some_delete zero n k t = omega arith
some_delete (suc l) n k t = rw length-append (omega (arith, some_delete l (child t n k) k t))

some_from : (l k : ℕ) (t : Table) → 0 < length (delete_units_from l k t)
unfolding delete_units_from
some_from zero k t = some_delete 0 0 k t
some_from (suc l) k t = rw length-append (omega (arith, some_delete l (child t 0 k) k t))

pub some_deleted : (k : ℕ) (t : Table) → 0 < length (delete_units k t)
unfolding delete_units
some_deleted k t = some_from (root_level t) k t
