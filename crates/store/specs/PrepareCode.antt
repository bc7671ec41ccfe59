-- What the tests of a rebuild answer, before any operation.
use Rattle.std.specs.Prelude.{Option, Result, Ok, Err, ◌≡◌, Bool, true, false, List, ℕ, ◌<◌, ◌≤◌, length, take}
use Rattle.chip.specs.Geometry.{Geometry, blocks_of}
use Rattle.chip.specs.Chip.{pages_of}
use Rattle.tree.specs.Tree.{Table}
use Rattle.journal.specs.Rebuild.{eighth, free_blocks}
use Rattle.promise.specs.Plain.{last_number}
use Rattle.promise.specs.Calls.{means}
use Rattle.promise.specs.Image.{image_meaning}
use Rattle.store.specs.declared.answer.Refusal.{Refusal}
use Rattle.store.specs.declared.answer.Refusal.TheVariants.{Last, Nodes}
use Rattle.store.specs.declared.check.Meaning.{Meaning}
use Rattle.store.specs.CheckCode.{Read, Unread}
use Rattle.store.specs.Rebuild.{has_free_blocks}

-- the image means a tree and G
pub record MeansTree (g : Geometry) (image : List ℕ) (G : ℕ) : Type 0 where
  pub tree : Table
  pub is : image_meaning g image ≡ means tree G

-- 6: no number is left
pub record IsLast (g : Geometry) (image : List ℕ) : Type 0 where
  pub number : ℕ
  pub meant : MeansTree g image number
  pub last : last_number ≤ number

-- 5: too few blocks are wholly free
pub record IsFull (g : Geometry) (image : List ℕ) : Type 0 where
  pub number : ℕ
  pub meant : MeansTree g image number
  pub left : number < last_number
  pub blocks : has_free_blocks g image ≡ false

-- all pass: the arrays hold the lists of the nodes and the blocks to write
pub record IsReady (g : Geometry) (image lens slots ring : List ℕ) (G : ℕ) (v : Option ℕ) : Type 0 where
  pub free : List ℕ
  pub thin : Bool
  pub read : Read g image lens slots free G v thin
  pub left : G < last_number
  pub blocks : has_free_blocks g image ≡ true
  pub front : take (eighth (blocks_of g (length image))) ring ≡ take (eighth (blocks_of g (length image))) (free_blocks g (blocks_of g (length image)) (pages_of g image))

-- refused with 7, 8 or 9, with 6, or with 5
pub data Unready (g : Geometry) (image : List ℕ) : Refusal → Type 0 where
  unread : (e : Refusal) → Unread g image e → Unready g image e
  no_number : IsLast g image → Unready g image Last
  no_blocks : IsFull g image → Unready g image Nodes

-- the answer says which of them is met first
abbrev pub Prepares : Geometry → List ℕ → List ℕ → List ℕ → List ℕ → Result Meaning Refusal → Type 0
Prepares g image lens slots ring (Err e) = Unready g image e
Prepares g image lens slots ring (Ok m) = IsReady g image lens slots ring m.commit m.void
