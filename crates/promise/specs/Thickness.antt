-- Trees stay thick. Document 02, note 1: 'Source document 001, 4.3, keeps nodes half full; so should the tree.' Where a list starts with a tree in which every node but the root has
-- 8 entries or more, a leaf c or more, it stays so, for any c up to 8: with 0 leaves may be thin. A finished format is such a start with c = 8, and so is a finished rebuild of a tree. The proofs are in proofs/.
use Rattle.std.specs.Prelude.{◌≡◌, List, [], ◌∷◌, ◌++◌, ℕ, suc, ◌*◌, length}
use Rattle.chip.specs.Geometry.{Nand, geometry_of, blocks_of}
use Rattle.tree.specs.Tree.{Table}
use Rattle.tree.specs.Step6.{Tree}
use Rattle.tree.specs.Rebuild.{rebuild}
use Rattle.promise.specs.Plain.{Plain, leaf}
use Rattle.promise.specs.Calls.{Store, means}
use Rattle.promise.specs.Steps.{Step, Only, last_image, Named, Uncut, Unstuck, Runs, Mounted, Started, Formatted, Rebuilt, starts, Mode, promised, unpromised, mode_for, next_mode}
use Rattle.promise.specs.History.{TreeOf, KeepsThick, AllUpdates}
use Rattle.promise.specs.Promise.{Course, plain_at}

-- K and P are trees of the chip, thick by c
pub record ThickPlain (c : ℕ) (p : Plain) : Type 0 where
  pub kept : TreeOf c p.blocks p.kept
  pub present : TreeOf c p.blocks p.present

module _ (S : Store) where
  -- and the tree of the image is K
  pub record ThickAt (c : ℕ) (p : Plain) (i : S.Image) : Type 0 where
    pub plain : ThickPlain c p
    pub image : S.meaning p.nand i ≡ means p.kept p.number

  -- so where there is a plain store
  abbrev pub ThickIn : ℕ → Mode → S.Image → Type 0
  ThickIn c (promised p) i = ThickAt c p i
  ThickIn c unpromised i = Unit {0}

  -- the plain store after a list in which formats may be cut, and mounts may name the other part
  abbrev pub last_mode : Mode → S.Image → List (Step S) → Mode
  last_mode m i [] = m
  last_mode m i (x ∷ xs) = last_mode (next_mode S (mode_for S m x) i x) x.image xs

  -- ---- at any place of a list, with the calls xs before it and ys behind it
  -- of a list of the promise, from a start with such a tree
  abbrev pub StaysThick : Type 0
  StaysThick = (c : ℕ) (nand : Nand) (K : Table) (G : ℕ) (s : S.State) (i : S.Image) (xs ys : List (Step S)) → Course S nand K G s i (xs ++ ys)
      → TreeOf c (blocks_of (geometry_of nand) (S.size i)) K → AllUpdates S (KeepsThick c) (xs ++ ys) → ThickAt c (plain_at S nand K G i xs) (last_image S i xs)

  -- so after a finished format every node but the root has 8 entries or more
  abbrev pub FormattedThick : Type 0
  FormattedThick = (nand : Nand) (s : S.State) (i : S.Image) (xs ys : List (Step S)) → Formatted S nand s i → Runs S (Only S s) i (xs ++ ys) → Named S nand (xs ++ ys) → Uncut S (xs ++ ys)
      → AllUpdates S (KeepsThick 8) (xs ++ ys) → ThickAt 8 (plain_at S nand (leaf (blocks_of (geometry_of nand) (S.size i))) 1 i xs) (last_image S i xs)

  -- and after a finished rebuild of a tree of the chip's numbers
  abbrev pub RebuiltThick : Type 0
  RebuiltThick = (nand : Nand) (K : Table) (G : ℕ) (s : S.State) (i : S.Image) (xs ys : List (Step S)) → Rebuilt S nand K G s i → Tree K
      → length K ≡ 8 * blocks_of (geometry_of nand) (S.size i) → Runs S (Only S s) i (xs ++ ys) → Named S nand (xs ++ ys) → Uncut S (xs ++ ys) → AllUpdates S (KeepsThick 8) (xs ++ ys)
      → ThickAt 8 (plain_at S nand (rebuild K) (suc G) i xs) (last_image S i xs)

  -- formats may be cut, and mounts may name the other part: nothing is said from there to the next finished format
  abbrev pub AnyThick : Type 0
  AnyThick = (c : ℕ) (nand : Nand) (K : Table) (G : ℕ) (s : S.State) (i : S.Image) (xs ys : List (Step S)) → Started S nand K G s i → Runs S (Only S s) i (xs ++ ys)
      → TreeOf c (blocks_of (geometry_of nand) (S.size i)) K → AllUpdates S (KeepsThick c) (xs ++ ys) → ThickIn c (last_mode (promised (starts S nand K G i)) i xs) (last_image S i xs)

  -- from any mounted chip, as long as no commit or forecast answers 6 before the last number
  abbrev pub ForeignThick : Type 0
  ForeignThick = (c : ℕ) (nand : Nand) (K : Table) (G : ℕ) (s : S.State) (i : S.Image) (xs ys : List (Step S)) → Mounted S nand K G s i → Runs S (Only S s) i (xs ++ ys)
      → Named S nand (xs ++ ys) → Uncut S (xs ++ ys) → Unstuck S (xs ++ ys) → TreeOf c (blocks_of (geometry_of nand) (S.size i)) K → AllUpdates S (KeepsThick c) (xs ++ ys)
      → ThickAt c (plain_at S nand K G i xs) (last_image S i xs)
