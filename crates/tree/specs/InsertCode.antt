-- What the inner functions of the insert ensure: on any arrays, and where the free numbers are those of a table.
use Rattle.std.specs.Prelude.{◌≡◌, Bool, true, false, cond, List, [], ◌∷◌, map, ℕ, zero, suc, ◌+◌, ◌<◌, ◌≤◌, ltb, leb, eqb, length, Option, Some, None, IfSome, IfNone, is_none}
use Rattle.lists.specs.Lists.{count}
use Rattle.chip.specs.Geometry.{Geometry}
use Rattle.pages.specs.declared.unit.Unit as U
use Rattle.pages.specs.declared.unit.Update.TheVariants.{Insert}
use Rattle.numbers.specs.NumberSet.{is_in}
use Rattle.views.specs.Nodes.{Entry, entry, view, insert_entry}
use Rattle.views.specs.Groups.{unit_for}
use Rattle.tree.specs.declared.insert.Rise.{Rise}
use Rattle.tree.specs.declared.insert.Gain.{Gain}
use Rattle.tree.specs.Tree.{there, Table, at, put, entries_at, least, root_level, child}
use Rattle.tree.specs.Step6.{Leads}
use Rattle.tree.specs.Insert.{Up, stop, gains, table_of, fit_or_split, insert_at}
use Rattle.tree.specs.InsertUnits.{hold_units, insert_units_at}
use Rattle.tree.specs.Free.{is_open, free_numbers}
use Rattle.tree.specs.Shown.{table_in}
use Rattle.tree.specs.UpdateCode.{UnitsPushed, FrontKept}

-- the entries of a root above two nodes
abbrev pub root_entries : ℕ → ℕ → ℕ → List Entry
root_entries low k high = entry 0 low ∷ entry k high ∷ []

-- how many numbers have no node
abbrev pub spare : Table → ℕ
spare t = count is_in (map is_open t)

-- how many numbers node n and those above it take, where it is to hold len entries and those above it take `need` if it splits
abbrev pub needs_of : ℕ → ℕ → ℕ → ℕ
needs_of need n len = cond (leb len 16) 0 (cond (eqb n 0) 2 (need + 1))

-- how many numbers the nodes from the leaf of k up to node n of level l and those above it take
abbrev pub needs_from : ℕ → ℕ → ℕ → ℕ → ℕ → Table → ℕ
needs_from need zero n k v t = needs_of need n (length (insert_entry k v (entries_at t n)))
needs_from need (suc l) n k v t = needs_from (needs_of need n (suc (length (entries_at t n)))) l (child t n k) k v t

-- ---- what an insert under a node leaves
abbrev pub gives_of : Up → Bool
gives_of (stop t) = false
gives_of (gains k m t) = true

-- an entry for the parent
abbrev pub gained : ℕ → ℕ → Option Gain
gained k m = Some (record { key = k; number = m })

abbrev pub gain_of : Up → Option Gain
gain_of (stop t) = None
gain_of (gains k m t) = gained k m

-- the units us are pushed, the parent gains what `up` says, and the set has the free numbers of its table
pub record Went (us : List U.Unit) (up : Up) (count : ℕ) (old new after : List ℕ) (r : Rise) : Type 0 where
  pub units : UnitsPushed us count old new r.count
  pub gain : r.gain ≡ gain_of up
  pub numbers : after ≡ free_numbers (table_of up)

-- ---- one node that gains an entry
-- the parent gains nothing, and there are count units
pub record Stops (count : ℕ) (r : Rise) : Type 0 where
  pub gain : r.gain ≡ None
  pub used : r.count ≡ count

-- one unit, where the buffer has room; no number is taken
pub record FitsOne (n k v count : ℕ) (old new : List ℕ) (r : Rise) : Type 0 where
  pub keeps : FrontKept count old r.count new
  pub gain : r.gain ≡ None
  pub is : count < 960 → n < 65536 → UnitsPushed (unit_for n (Insert k v) ∷ []) count old new r.count

-- the least number of a table that has one to spare, taken out of the set: that of the table with a node of that number
pub record TakesLeast (free after : List ℕ) (r : Option ℕ) : Type 0 where
  pub is : (t : Table) → free ≡ free_numbers t → length t ≤ 256 → 0 < spare t
      → (r ≡ Some (least t)) × ((l : ℕ) (es : List Entry) → after ≡ free_numbers (put (least t) (view l es) t))
  pub few : IfSome r (λ (m : ℕ). m < 256)

-- node n changes: from the free numbers of a table with node n and `need` numbers to spare, and with room in the buffer,
-- it pushes the units us and leaves up
pub record ChangesNode (n need : ℕ) (us : Table → List U.Unit) (up : Table → Up) (count : ℕ) (old free new after : List ℕ) (r : Rise) : Type 0 where
  pub keeps : FrontKept count old r.count new
  pub is : (t : Table) → free ≡ free_numbers t → length t ≤ 256 → there (at t n) ≡ 1 → need ≤ spare t → count + length (us t) ≤ 960
      → Went (us t) (up t) count old new after r

-- node n of level l is to hold es, with (k, v) among them
abbrev pub FitsOrSplits : ℕ → ℕ → ℕ → ℕ → List Entry → ℕ → List ℕ → List ℕ → List ℕ → List ℕ → Rise → Type 0
FitsOrSplits l n k v es count old free new after r = ChangesNode n (needs_of 0 n (length es)) (hold_units l n k v es) (fit_or_split l n es) count old free new after r

-- (k, v) at leaf n with the entries es, where the nodes above it take `need` numbers if it splits; where that is refused, nothing is pushed, and no
-- number is taken
pub record Lands (need n k v count : ℕ) (es : List Entry) (old free new after : List ℕ) (r : Option Rise) : Type 0 where
  pub refuses : (t : Table) → free ≡ free_numbers t → length t ≤ 256 → is_none r ≡ ltb (spare t) (needs_of need n (length (insert_entry k v es)))
  pub stays : IfNone r ((new ≡ old) × (after ≡ free))
  pub held : IfSome r (λ (x : Rise). FitsOrSplits 0 n k v (insert_entry k v es) count old free new after x)

-- node n of level l with the entries es after its child's answer a: it gains what the child gave up, or the answer stays
pub record PassesUp (l n : ℕ) (es : List Entry) (a : Rise) (old free new after : List ℕ) (r : Rise) : Type 0 where
  pub gained : (x : Gain) → a.gain ≡ Some x → FitsOrSplits l n x.key x.number (insert_entry x.key x.number es) a.count old free new after r
  pub same : a.gain ≡ None → (new ≡ old) × (after ≡ free) × (r ≡ a)

-- ---- an insert under a node
-- on the way to the leaf of k, each node has one entry more with what its child gives up at an insert of (k, v)
abbrev pub Fresh : ℕ → ℕ → ℕ → ℕ → Table → Type 0
Fresh zero n k v t = Unit {0}
Fresh (suc l) n k v t =
    ((j m : ℕ) (u : Table) → insert_at l (child t n k) k v t ≡ gains j m u → length (insert_entry j m (entries_at t n)) ≡ suc (length (entries_at t n)))
    × Fresh l (child t n k) k v t

-- where node n of level l is on the way to the leaf of k
pub record InsertWay (l n k v : ℕ) (t : Table) : Type 0 where
  pub leads : Leads l n k t
  pub fresh : Fresh l n k v t
  pub low : l ≤ root_level t

-- units that are pushed for what is left of table t, with numbers for the nodes above
pub record Outcome (need : ℕ) (t : Table) (us : List U.Unit) (up : Up) (count : ℕ) (old new after : List ℕ) (r : Rise) : Type 0 where
  pub went : Went us up count old new after r
  pub long : length (table_of up) ≡ length t
  pub left : gives_of up ≡ true → need ≤ spare (table_of up)

-- an insert of (k, v) under node n of level l: whether it is refused is told by the free numbers; then nothing is pushed or taken
pub record Rises (g : Geometry) (image lens slots : List ℕ) (limit l n need k v count : ℕ) (old free new after : List ℕ) (r : Option Rise) : Type 0 where
  pub keeps : IfSome r (λ (x : Rise). FrontKept count old x.count new)
  pub whole : IfNone r ((new ≡ old) × (after ≡ free))
  pub refuses : free ≡ free_numbers (table_in g image lens slots limit count old)
      → is_none r ≡ ltb (spare (table_in g image lens slots limit count old)) (needs_from need l n k v (table_in g image lens slots limit count old))
  pub is : IfSome r
      (λ (x : Rise). free ≡ free_numbers (table_in g image lens slots limit count old) → InsertWay l n k v (table_in g image lens slots limit count old)
      → count + length (insert_units_at l n k v (table_in g image lens slots limit count old)) ≤ 960
      → Outcome need (table_in g image lens slots limit count old) (insert_units_at l n k v (table_in g image lens slots limit count old))
      (insert_at l n k v (table_in g image lens slots limit count old)) count old new after x)
