-- What the functions of a delete rely on and ensure: on any arrays, and where they show a tree.
use Rattle.std.specs.Prelude.{◌≡◌, Bool, true, false, cond, List, ◌++◌, map, ℕ, zero, suc, ◌+◌, ◌<◌, ◌≤◌, length, get_or, Some, Option, IfSome, IfNone, is_none}
use Rattle.lists.specs.Lists.{All}
use Rattle.pages.specs.declared.unit.Unit as U
use Rattle.pages.specs.Units.{decodes, Valid}
use Rattle.views.specs.Nodes.{Entry, entry, view}
use Rattle.tree.specs.declared.balance.Fall.{Fall}
use Rattle.tree.specs.declared.balance.Pair.{Pair}
use Rattle.tree.specs.Tree.{there, Table, at, entries_at, child, is_absent, find_at}
use Rattle.tree.specs.Delete.{Down, kept, lost, leaves, Two, two, neighbours, settle, mend, delete_at, take_over, collapsed}
use Rattle.tree.specs.Units.{after_units}
use Rattle.tree.specs.DeleteUnits.{settle_units, mend_units, delete_units_at, over_units, collapse_units, merging, merge_units, top_units}
use Rattle.tree.specs.Free.{free_numbers}
use Rattle.tree.specs.BalanceCode.{right_of}
use Rattle.tree.specs.UpdateCode.{FrontKept}

-- ---- what the arrays show
-- `show` is the table for a count of units and the bytes of a buffer: here it is t, free are its numbers, and the buffer holds the units us
pub record TableHeld (show : ℕ → List ℕ → Table) (limit count : ℕ) (bytes free : List ℕ) (us : List U.Unit) (t : Table) : Type 0 where
  pub table : show count bytes ≡ t
  pub numbers : free ≡ free_numbers t
  pub units : decodes limit count bytes ≡ map Some us

-- the units vs are valid, and table t becomes u by them
pub record UnitsMake (limit : ℕ) (t : Table) (vs : List U.Unit) (u : Table) : Type 0 where
  pub after : after_units vs t ≡ u
  pub valid : All (Valid limit) vs

-- ---- what is left under a node
-- whether it lost an entry
abbrev pub is_lost : Down → Bool
is_lost (kept t) = false
is_lost (lost t) = true

-- an answer r of node n, which says what d says; the buffer holds the units us then
pub record Fell (show : ℕ → List ℕ → Table) (limit n : ℕ) (us : List U.Unit) (d : Down) (bytes free : List ℕ) (r : Fall) : Type 0 where
  pub holds : TableHeld show limit r.count bytes free us (leaves d)
  pub lost : r.lost ≡ is_lost d
  pub len : r.len ≡ length (entries_at (leaves d) n)

-- ---- the neighbours under node n of level l + 1
-- p names those at the indexes i and i + 1 of its entries es
pub record IsPair (n : ℕ) (es : List Entry) (i : ℕ) (p : Pair) : Type 0 where
  pub parent : p.parent ≡ n
  pub left : p.left ≡ (get_or es i (entry 0 0)).value
  pub right : right_of p ≡ get_or es (i + 1) (entry 0 0)

-- both are nodes of level l, and the units of settle make its table
pub record Settling (limit l n k : ℕ) (t : Table) : Type 0 where
  pub node : at t n ≡ view (suc l) (entries_at t n)
  pub left : (bs : List Entry) (a b : Entry) (ds : List Entry) → neighbours k (entries_at t n) ≡ two bs a b ds → at t a.value ≡ view l (entries_at t a.value)
  pub right : (bs : List Entry) (a b : Entry) (ds : List Entry) → neighbours k (entries_at t n) ≡ two bs a b ds → at t b.value ≡ view l (entries_at t b.value)
  pub makes : UnitsMake limit t (settle_units n (neighbours k (entries_at t n)) t) (leaves (settle l n (neighbours k (entries_at t n)) t))

-- what a function ensures that settles two neighbours under node n, which has the entries es
pub record Settles (show : ℕ → List ℕ → Table) (limit n k : ℕ) (es : List Entry) (count : ℕ) (old free new after : List ℕ) (r : Fall) : Type 0 where
  pub keeps : FrontKept count old r.count new
  pub is : (l : ℕ) (us : List U.Unit) (t : Table) → TableHeld show limit count old free us t → es ≡ entries_at t n → Settling limit l n k t
      → count + length (settle_units n (neighbours k es) t) ≤ 960
      → Fell show limit n (us ++ settle_units n (neighbours k es) t) (settle l n (neighbours k es) t) new after r

-- what a function ensures that mends node n after its child's answer r
pub record Mends (show : ℕ → List ℕ → Table) (limit n k : ℕ) (es : List Entry) (r : Fall) (old free new after : List ℕ) (f : Fall) : Type 0 where
  pub keeps : FrontKept r.count old f.count new
  pub is : (l c : ℕ) (us : List U.Unit) (d : Down) → Fell show limit c us d old free r → es ≡ entries_at (leaves d) n
      → (length (entries_at (leaves d) c) < 8 → Settling limit l n k (leaves d)) → r.count + length (mend_units n c k d) ≤ 960
      → Fell show limit n (us ++ mend_units n c k d) (mend l n c k d) new after f

-- ---- the way down to the leaf of k
-- node n of level l + 1 and its child c on the way, before the child's delete in t and after it in u
pub record Joint (limit l n c k : ℕ) (t u : Table) : Type 0 where
  pub same : entries_at u n ≡ entries_at t n
  pub settling : length (entries_at u c) < 8 → Settling limit l n k u

-- from node n of level l
abbrev pub DeleteWay : ℕ → ℕ → ℕ → ℕ → Table → Type 0
DeleteWay limit zero n k t = (there (at t n) ≡ 1) × UnitsMake limit t (delete_units_at 0 n k t) (leaves (delete_at 0 n k t))
DeleteWay limit (suc l) n k t = Joint limit l n (child t n k) k t (leaves (delete_at l (child t n k) k t)) × DeleteWay limit l (child t n k) k t

-- a delete under node n of level l, None where the key is absent: that is told on any arrays, and an absent key changes nothing
pub record Falls (show : ℕ → List ℕ → Table) (limit l n k count : ℕ) (old free new after : List ℕ) (r : Option Fall) : Type 0 where
  pub keeps : IfSome r (λ (f : Fall). FrontKept count old f.count new)
  pub absent : is_none r ≡ is_absent (find_at l n k (show count old))
  pub stays : IfNone r ((new ≡ old) × (after ≡ free))
  pub is : IfSome r
      (λ (f : Fall). (us : List U.Unit) (t : Table) → TableHeld show limit count old free us t → DeleteWay limit l n k t
      → count + length (delete_units_at l n k t) ≤ 960
      → Fell show limit n (us ++ delete_units_at l n k t) (delete_at l n k t) new after f)

-- ---- node 0 that takes over its only child
-- child c of level l is a node, and the units make the table
pub record TakesOver (limit l c : ℕ) (t : Table) : Type 0 where
  pub root : there (at t 0) ≡ 1
  pub child : at t c ≡ view l (entries_at t c)
  pub makes : UnitsMake limit t (over_units l c t) (take_over c t)

-- as long as it has one entry
abbrev pub Collapsing : ℕ → ℕ → Table → Type 0
Collapsing limit zero t = Unit {0}
Collapsing limit (suc l) t = length (entries_at t 0) ≡ 1 → TakesOver limit l (child t 0 0) t × Collapsing limit l (take_over (child t 0 0) t)

-- what a function ensures that does this for node 0 of level l
pub record Collapses (show : ℕ → List ℕ → Table) (limit l count : ℕ) (old free new after : List ℕ) (used : ℕ) : Type 0 where
  pub keeps : FrontKept count old used new
  pub is : (us : List U.Unit) (t : Table) → TableHeld show limit count old free us t → Collapsing limit l t → count + length (collapse_units l t) ≤ 960
      → TableHeld show limit used new after (us ++ collapse_units l t) (collapsed l t)

-- ---- node 0 of level l + 1 after its child's delete
-- the units where its thin child and the neighbour are w, and the table then
abbrev pub thin_units : ℕ → Two → Table → List U.Unit
thin_units l w t = cond (merging w t) (merge_units l w t) (settle_units 0 w t ++ collapse_units (suc l) (leaves (settle l 0 w t)))

abbrev pub thin_table : ℕ → Two → Table → Table
thin_table l w t = collapsed (suc l) (leaves (settle l 0 w t))

-- what a function ensures for node 0 with two entries es
pub record MergesOrShares (show : ℕ → List ℕ → Table) (limit level k : ℕ) (es : List Entry) (count : ℕ) (old free new after : List ℕ) (used : ℕ) : Type 0 where
  pub keeps : FrontKept count old used new
  pub is : (l : ℕ) (us : List U.Unit) (t : Table) → level ≡ suc l → TableHeld show limit count old free us t → es ≡ entries_at t 0 → Settling limit l 0 k t
      → there (at (thin_table l (neighbours k es) t) 0) ≡ 1 → UnitsMake limit t (thin_units l (neighbours k es) t) (thin_table l (neighbours k es) t)
      → count + length (thin_units l (neighbours k es) t) ≤ 960
      → TableHeld show limit used new after (us ++ thin_units l (neighbours k es) t) (thin_table l (neighbours k es) t)

-- what is relied on where its child c answered d
pub record Topping (limit l c k : ℕ) (d : Down) : Type 0 where
  pub settling : length (entries_at (leaves d) c) < 8 → Settling limit l 0 k (leaves d)
  pub collapsing : Collapsing limit (suc l) (leaves (mend l 0 c k d))
  pub root : there (at (collapsed (suc l) (leaves (mend l 0 c k d))) 0) ≡ 1
  pub makes : UnitsMake limit (leaves d) (top_units l c k d) (collapsed (suc l) (leaves (mend l 0 c k d)))

-- what a function ensures for node 0 with the entries es after its child's answer r
pub record Finishes (show : ℕ → List ℕ → Table) (limit level k : ℕ) (es : List Entry) (r : Fall) (old free new after : List ℕ) (used : ℕ) : Type 0 where
  pub keeps : FrontKept r.count old used new
  pub is : (l c : ℕ) (us : List U.Unit) (d : Down) → level ≡ suc l → Fell show limit c us d old free r → es ≡ entries_at (leaves d) 0 → Topping limit l c k d
      → r.count + length (top_units l c k d) ≤ 960
      → TableHeld show limit used new after (us ++ top_units l c k d) (collapsed (suc l) (leaves (mend l 0 c k d)))
