-- The units of an insert, from the leaf upward.
use Rattle.std.specs.Prelude.{cond, List, [], ◌∷◌, ◌++◌, ℕ, zero, suc, leb, eqb, length, take, drop}
use Rattle.pages.specs.declared.unit.Update.TheVariants.{Insert}
use Rattle.pages.specs.declared.unit.Unit as U
use Rattle.views.specs.Nodes.{Entry, entry, insert_entry}
use Rattle.views.specs.Groups.{unit_for}
use Rattle.tree.specs.Tree.{Table, entries_at, least, least2, root_level, child, first_key}
use Rattle.tree.specs.Insert.{Up, stop, gains, insert_at}
use Rattle.tree.specs.Units.{anew_at}

-- both halves are written anew
unfoldable pub halve_units : ℕ → ℕ → ℕ → List Entry → List U.Unit
halve_units l n m es = anew_at l n (take 9 es) ++ anew_at l m (drop 9 es)

-- and node 0, one level higher
unfoldable pub raise_units : ℕ → ℕ → ℕ → List Entry → List U.Unit
raise_units l m o es = halve_units l m o es ++ anew_at (suc l) 0 (entry 0 m ∷ entry (first_key 0 (drop 9 es)) o ∷ [])

unfoldable pub hold_units : ℕ → ℕ → ℕ → ℕ → List Entry → Table → List U.Unit
hold_units l n k v es t =
    cond (leb (length es) 16) (unit_for n (Insert k v) ∷ [])
    (cond (eqb n 0) (raise_units l (least t) (least2 t) es) (halve_units l n (least t) es))

unfoldable pub gain_units : ℕ → ℕ → ℕ → ℕ → Table → List U.Unit
gain_units l n k v t = hold_units l n k v (insert_entry k v (entries_at t n)) t

abbrev pub pass_units : ℕ → ℕ → Up → List U.Unit
pass_units l n (stop t) = []
pass_units l n (gains k m t) = gain_units l n k m t

unfoldable pub insert_units_at : ℕ → ℕ → ℕ → ℕ → Table → List U.Unit
insert_units_at zero n k v t = gain_units 0 n k v t
insert_units_at (suc l) n k v t = insert_units_at l (child t n k) k v t ++ pass_units (suc l) n (insert_at l (child t n k) k v t)

unfoldable pub insert_units : ℕ → ℕ → Table → List U.Unit
insert_units k v t = insert_units_at (root_level t) 0 k v t
