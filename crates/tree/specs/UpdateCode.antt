-- What the code of an insert and of a delete relies on and ensures: on any arrays, and where they show a tree.
use Rattle.std.specs.Prelude.{◌≡◌, List, ◌++◌, map, ℕ, ◌+◌, ◌*◌, ◌<◌, ◌≤◌, length, take, Some, Option, IfSome, IfNone, is_none}
use Rattle.lists.specs.Lists.{All}
use Rattle.chip.specs.Geometry.{Geometry}
use Rattle.pages.specs.declared.unit.Unit as U
use Rattle.pages.specs.Units.{decodes}
use Rattle.views.specs.Nodes.{Entry}
use Rattle.views.specs.PassCode.{pushed}
use Rattle.tree.specs.Tree.{Table, entries_at, is_absent, find}
use Rattle.tree.specs.Step6.{top, Tree}
use Rattle.tree.specs.Thick.{Thick}
use Rattle.tree.specs.Insert.{inserted, refusal, done, insert}
use Rattle.tree.specs.Delete.{delete}
use Rattle.tree.specs.InsertUnits.{insert_units}
use Rattle.tree.specs.DeleteUnits.{delete_units}
use Rattle.tree.specs.Free.{free_numbers}
use Rattle.tree.specs.Shown.{table_in}

-- ---- the buffer
-- the units us behind the count units of a buffer, and the count after them
pub record UnitsPushed (us : List U.Unit) (count : ℕ) (old new : List ℕ) (used : ℕ) : Type 0 where
  pub bytes : new ≡ pushed old count us
  pub size : used ≡ count + length us
  pub long : length old ≡ 11520

-- on any arrays: the buffer keeps its length and the units that it had, and has room for those it has then
pub record FrontKept (count : ℕ) (old : List ℕ) (used : ℕ) (new : List ℕ) : Type 0 where
  pub same : length new ≡ length old
  pub front : take (12 * count) new ≡ take (12 * count) old
  pub more : count ≤ used
  pub room : used ≤ 960

-- ---- what an update relies on
-- a tree that is not thin with its free numbers, entries of 32 bits, and a buffer of units with room for 60 more
pub record Ready (limit count : ℕ) (free bytes : List ℕ) (us : List U.Unit) (t : Table) : Type 0 where
  pub tree : Tree t
  pub words : (n : ℕ) → All (λ (e : Entry). (e.key < top) × (e.value < top)) (entries_at t n)
  pub numbers : free ≡ free_numbers t
  pub thick : Thick 0 t
  pub units : decodes limit count bytes ≡ map Some us
  pub room : count ≤ 900

-- ---- what it ensures there
-- the units vs behind the units us: the table u, its free numbers, and the units of the buffer then
pub record Stepped (g : Geometry) (image lens slots : List ℕ) (limit count : ℕ) (us vs : List U.Unit) (u : Table) (new free : List ℕ) (used : ℕ) : Type 0 where
  pub table : table_in g image lens slots limit used new ≡ u
  pub numbers : free ≡ free_numbers u
  pub units : decodes limit used new ≡ map Some (us ++ vs)
  pub few : used ≤ count + 60

-- an insert of (k, v): how many units there are then, or None where it is refused, which leaves every byte of the buffer, and the numbers
pub record Inserts (g : Geometry) (image lens slots : List ℕ) (limit k v count : ℕ) (old free new after : List ℕ) (r : Option ℕ) : Type 0 where
  pub keeps : IfSome r (λ (used : ℕ). FrontKept count old used new)
  pub stays : IfNone r ((new ≡ old) × (after ≡ free))
  pub refused : IfNone r
      ((us : List U.Unit) → Ready limit count free old us (table_in g image lens slots limit count old)
      → insert limit k v (table_in g image lens slots limit count old) ≡ refusal 5)
  pub done : IfSome r
      (λ (used : ℕ). (us : List U.Unit) → Ready limit count free old us (table_in g image lens slots limit count old)
      → (insert limit k v (table_in g image lens slots limit count old) ≡ done (inserted k v (table_in g image lens slots limit count old)))
      × Stepped g image lens slots limit count us (insert_units k v (table_in g image lens slots limit count old)) (inserted k v (table_in g image lens slots limit count old)) new after used)

-- a delete of k: how many units there are then, or None where k is absent; that is told on any arrays, and an absent key leaves every byte of the buffer,
-- and the numbers
pub record Deletes (g : Geometry) (image lens slots : List ℕ) (limit k count : ℕ) (old free new after : List ℕ) (r : Option ℕ) : Type 0 where
  pub keeps : IfSome r (λ (used : ℕ). FrontKept count old used new)
  pub found : is_none r ≡ is_absent (find k (table_in g image lens slots limit count old))
  pub stays : IfNone r ((new ≡ old) × (after ≡ free))
  pub is : IfSome r
      (λ (used : ℕ). (us : List U.Unit) → Ready limit count free old us (table_in g image lens slots limit count old)
      → Stepped g image lens slots limit count us (delete_units k (table_in g image lens slots limit count old)) (delete k (table_in g image lens slots limit count old)) new after used)
