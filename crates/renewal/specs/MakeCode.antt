-- What the plan of a rebuild is made of, and how the code of make.rt holds it.
use Rattle.std.specs.Prelude.{◌≡◌, Bool, true, List, ℕ, ◌*◌, ◌<◌, ◌≤◌, leb, length, take}
use Rattle.lists.specs.Lists.{All, flat, tab}
use Rattle.chip.specs.Geometry.{Geometry}
use Rattle.chip.specs.Page.{Page}
use Rattle.pages.specs.declared.unit.Update.{Update}
use Rattle.tree.specs.Tree.{Table, at, next}
use Rattle.tree.specs.Step6.{Tree}
use Rattle.tree.specs.Free.{free_numbers}
use Rattle.tree.specs.Rebuild.{rebuild}
use Rattle.journal.specs.Plan.{pages_in, rewrite}
use Rattle.journal.specs.Rebuild.{eighth, free_blocks, has_free_blocks, rebuild_plan}
use Rattle.plan.specs.declared.make.Plan.{Plan}
use Rattle.execution.specs.WriteCode.{Holds}
use Rattle.execution.specs.ExecutionCode.{named_plan}
use Rattle.renewal.specs.LayersCode.{HoldsAnew, Listed}

-- the wholly free blocks of B in front of an array, r of them
pub record FindsFree (g : Geometry) (B : ℕ) (ps : List Page) (ring : List ℕ) (r : ℕ) : Type 0 where
  pub list : take r ring ≡ free_blocks g B ps
  pub count : r ≡ length (free_blocks g B ps)
  pub few : r ≤ B
  pub size : length ring ≡ 32

-- a chip whose pages ps mean the tree t, with enough wholly free blocks, which stand in front of an array
pub record Rebuildable (g : Geometry) (B : ℕ) (t : Table) (ps : List Page) (lens slots ring : List ℕ) : Type 0 where
  pub tree : Tree t
  pub size : length t ≡ 8 * B
  pub listed : Listed (8 * B) t lens slots
  pub least : 3 ≤ B
  pub most : B ≤ 32
  pub enough : has_free_blocks g B ps ≡ true
  pub front : take (eighth B) ring ≡ take (eighth B) (free_blocks g B ps)

-- ---- the parts of the plan
-- tree t laid anew: the arrays hold it, and its numbers are those below r
pub record LaysAnew (limit : ℕ) (t : Table) (sizes units : List ℕ) (r : ℕ) : Type 0 where
  pub holds : HoldsAnew limit (rebuild t) sizes units
  pub numbers : r ≡ next (rebuild t)
  pub few : r ≤ 256

-- of the numbers below limit those from n on
abbrev pub numbers_from : ℕ → ℕ → List Bool
numbers_from n limit = tab 0 limit (leb n)

-- n pages on places of the blocks bs, and nothing is erased
pub record LaysPages (g : Geometry) (bs : List ℕ) (n : ℕ) (r : Plan) : Type 0 where
  pub pages : r.pages ≡ n
  pub places : take n r.places ≡ take n (flat (pages_in g) bs)
  pub none : r.erases ≡ 0

-- ---- the plan
-- what is written of each number
abbrev pub anew_of : Table → ℕ → List Update
anew_of t n = rewrite (at (rebuild t) n)

-- the arrays hold the plan of the rebuild of t and what it writes, and the numbers that no node has then
pub record MakesRebuild (g : Geometry) (B : ℕ) (t : Table) (ps : List Page) (targets sizes units free : List ℕ) (r : Plan) : Type 0 where
  pub plan : named_plan (8 * B) (anew_of t) targets r ≡ rebuild_plan g (8 * B) B ps (at (rebuild t))
  pub holds : Holds g (8 * B) (anew_of t) targets sizes units r.pages
  pub few : r.pages ≤ 128
  pub on : All (λ (p : ℕ). p < B * g.pages) (take r.pages r.places)
  pub none : r.erases ≡ 0
  pub numbers : free ≡ free_numbers (rebuild t)
