-- Where a rebuild finished, a list of calls starts, whoever began the chip: what the laws of starts say of the calls of this crate. Assumes nothing.
use mathlib.Core.Path.{◌≡◌, sym, ap, ◌∙◌}
use mathlib.Core.List.{List, ◌++◌}
use Prim.Native.Nat.{ℕ, suc, ◌*◌, ◌<◌}
use lib.ListN.{length}
use Rattle.chip.specs.Geometry.{Nand, geometry_of, blocks_of}
use Rattle.tree.specs.Tree.{Table, find}
use Rattle.tree.specs.Step6.{top}
use Rattle.tree.specs.Rebuild.{rebuild}
use Rattle.promise.specs.Calls.{means}
use Rattle.promise.specs.Image.{image_meaning}
use Rattle.promise.specs.Steps.{Step, Only, last_image, Named, Uncut, Runs, Rebuilt}
use Rattle.promise.specs.History.{TreeOf, KeepsThick, AllUpdates}
use Rattle.promise.specs.Promise as P
use Rattle.promise.specs.Thickness.{ThickAt}
use Rattle.promise.specs.Erases as E
use Rattle.promise.specs.Wear as W
use Rattle.promise.proofs.Images.{ReadTree, image_tree}
use Rattle.promise.proofs.Promise.{rebuild_starts, rebuild_cut}
use Rattle.promise.proofs.Trees.{rebuild_keeps}
use Rattle.promise.proofs.Thickness.{rebuilt_thick}
use Rattle.promise.proofs.Figures.{rebuilt_unworn}
use Rattle.promise.proofs.Wear.{rebuilt_unbroken}
use Rattle.store.specs.declared.state.State.{State}
use Rattle.store.specs.Ensured.{index}

-- a finished rebuild is a start; a cut one leaves the old tree or the new one
pub index_rebuild_starts : P.RebuildStarts index
index_rebuild_starts = rebuild_starts index

pub index_rebuild_cut : P.RebuildCut index
index_rebuild_cut = rebuild_cut index

-- the new tree is one of the chip, and each key has the value that it had: the tree of an image is a tree
pub index_rebuild_keeps : (nand : Nand) (i : List ℕ) (K : Table) (G : ℕ) → image_meaning (geometry_of nand) i ≡ means K G
    → TreeOf 0 (blocks_of (geometry_of nand) (length i)) (rebuild K) × ((k : ℕ) → k < top → find k (rebuild K) ≡ find k K)
index_rebuild_keeps nand i K G e =
    let t = image_tree (geometry_of nand) i K G e in
    rebuild_keeps nand (length i) K t.tree t.size

-- figures start at 0, and erases pay
pub index_rebuilt_unworn : E.RebuiltUnworn index
index_rebuilt_unworn = rebuilt_unworn index

pub index_rebuilt_unbroken : W.RebuiltUnbroken index
index_rebuilt_unbroken = rebuilt_unbroken index

-- every node but the root has 8 entries or more, and it stays so
pub index_rebuilt_thick : (nand : Nand) (K : Table) (G : ℕ) (s : State) (i : List ℕ) (xs ys : List (Step index)) → Rebuilt index nand K G s i → Runs index (Only index s) i (xs ++ ys)
    → Named index nand (xs ++ ys) → Uncut index (xs ++ ys) → AllUpdates index (KeepsThick 8) (xs ++ ys)
    → ThickAt index 8 (P.plain_at index nand (rebuild K) (suc G) i xs) (last_image index i xs)
index_rebuilt_thick nand K G s i xs ys f =
    let t : ReadTree (8 * blocks_of (geometry_of nand) (length f.was)) K = image_tree (geometry_of nand) f.was K G f.image in
    rebuilt_thick index nand K G s i xs ys f t.tree (t.size ∙ ap (λ (n : ℕ). 8 * blocks_of (geometry_of nand) n) (sym f.says.same_size))
