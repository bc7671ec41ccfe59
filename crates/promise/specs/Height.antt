-- No insert meets the height. Document 02, note 7: 'With thin trees gone, a root at level 3 can never split: 16 entries of at least 8 entries of at least 8 leaves are 1,024 nodes,
-- and a chip has 256 at most. Show this for every store that a format, mount or rebuild started, state and image passed on as in the promise, up to the first commit where 01 leaves
-- commit open'. The proofs are in proofs/.
use Rattle.std.specs.Prelude.{◌≡◌, cond, List, ◌++◌, ℕ, suc, ◌+◌, ◌*◌, ◌<◌, ◌≤◌, leb, length}
use Rattle.chip.specs.Geometry.{Nand, geometry_of, blocks_of}
use Rattle.tree.specs.Tree.{Table, entries_at, root_level, nodes}
use Rattle.tree.specs.Step6.{top, Tree}
use Rattle.tree.specs.Insert.{refusal, done, inserted, insert, needs}
use Rattle.tree.specs.Rebuild.{rebuild}
use Rattle.promise.specs.Plain.{Plain, leaf}
use Rattle.promise.specs.Calls.{Store}
use Rattle.promise.specs.Steps.{Step, Only, Named, Uncut, Unstuck, Runs, Mounted, Started, Formatted, Rebuilt, starts, Mode, promised, unpromised}
use Rattle.promise.specs.History.{KeepsThick, AllUpdates}
use Rattle.promise.specs.Promise.{Course, plain_at}
use Rattle.promise.specs.Thickness.{last_mode}

-- node 0 is at level 3 at most, and at level 3 it has fewer than 16 entries. Whatever is inserted, and whether there are numbers for it or not, it stays at level 3 at most;
-- 5 is met exactly when the nodes that split need more numbers than are left below 8 × B
pub record Low (B : ℕ) (t : Table) : Type 0 where
  pub level : root_level t ≤ 3
  pub entries : root_level t ≡ 3 → length (entries_at t 0) < 16
  pub inserts : (k v : ℕ) → k < top → root_level (inserted k v t) ≤ 3
  pub five : (k v : ℕ) → k < top → insert (8 * B) k v t ≡ cond (leb (nodes t + needs (root_level t) 0 k v t) (8 * B)) (done (inserted k v t)) (refusal 5)

-- K and P are such trees
pub record LowPlain (p : Plain) : Type 0 where
  pub kept : Low p.blocks p.kept
  pub present : Low p.blocks p.present

-- so where there is a plain store
abbrev pub LowIn : Mode → Type 0
LowIn (promised p) = LowPlain p
LowIn unpromised = Unit {0}

module _ (S : Store) where
  -- ---- at any place of a list, with the calls xs before it and ys behind it. K is a tree of the chip's numbers; that it is not thin, what a mount gives says
  -- of a list of the promise
  abbrev pub StaysLow : Type 0
  StaysLow = (nand : Nand) (K : Table) (G : ℕ) (s : S.State) (i : S.Image) (xs ys : List (Step S)) → Course S nand K G s i (xs ++ ys)
      → Tree K → length K ≡ 8 * blocks_of (geometry_of nand) (S.size i) → AllUpdates S (KeepsThick 0) (xs ++ ys) → LowPlain (plain_at S nand K G i xs)

  -- so after a finished format
  abbrev pub FormattedLow : Type 0
  FormattedLow = (nand : Nand) (s : S.State) (i : S.Image) (xs ys : List (Step S)) → Formatted S nand s i → Runs S (Only S s) i (xs ++ ys) → Named S nand (xs ++ ys) → Uncut S (xs ++ ys)
      → AllUpdates S (KeepsThick 0) (xs ++ ys) → LowPlain (plain_at S nand (leaf (blocks_of (geometry_of nand) (S.size i))) 1 i xs)

  -- and after a finished rebuild
  abbrev pub RebuiltLow : Type 0
  RebuiltLow = (nand : Nand) (K : Table) (G : ℕ) (s : S.State) (i : S.Image) (xs ys : List (Step S)) → Rebuilt S nand K G s i → Tree K → length K ≡ 8 * blocks_of (geometry_of nand) (S.size i)
      → Runs S (Only S s) i (xs ++ ys) → Named S nand (xs ++ ys) → Uncut S (xs ++ ys) → AllUpdates S (KeepsThick 0) (xs ++ ys) → LowPlain (plain_at S nand (rebuild K) (suc G) i xs)

  -- from any mounted chip, as long as no commit or forecast answers 6 before the last number: there 01 leaves commit open
  abbrev pub ForeignLow : Type 0
  ForeignLow = (nand : Nand) (K : Table) (G : ℕ) (s : S.State) (i : S.Image) (xs ys : List (Step S)) → Mounted S nand K G s i → Runs S (Only S s) i (xs ++ ys)
      → Named S nand (xs ++ ys) → Uncut S (xs ++ ys) → Unstuck S (xs ++ ys) → Tree K → length K ≡ 8 * blocks_of (geometry_of nand) (S.size i) → AllUpdates S (KeepsThick 0) (xs ++ ys) → LowPlain (plain_at S nand K G i xs)

  -- formats may be cut, and mounts may name the other part: nothing is said from there to the next finished format
  abbrev pub AnyLow : Type 0
  AnyLow = (nand : Nand) (K : Table) (G : ℕ) (s : S.State) (i : S.Image) (xs ys : List (Step S)) → Started S nand K G s i → Runs S (Only S s) i (xs ++ ys)
      → Tree K → length K ≡ 8 * blocks_of (geometry_of nand) (S.size i) → AllUpdates S (KeepsThick 0) (xs ++ ys) → LowIn (last_mode S (promised (starts S nand K G i)) i xs)
