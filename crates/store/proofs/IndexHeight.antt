-- No insert of a list meets the height: what the laws of heights say of the calls of this crate. The tree of an image has the chip's numbers. Assumes nothing.
use mathlib.Core.Path.{sym, ap, ◌∙◌}
use mathlib.Core.List.{List, ◌++◌}
use Prim.Native.Nat.{ℕ, suc, ◌*◌}
use lib.ListN.{length}
use Rattle.chip.specs.Geometry.{Nand, geometry_of, blocks_of}
use Rattle.tree.specs.Tree.{Table}
use Rattle.tree.specs.Rebuild.{rebuild}
use Rattle.promise.specs.Steps.{Step, Only, Named, Uncut, Unstuck, Runs, Mounted, Started, Rebuilt, starts, promised}
use Rattle.promise.specs.History.{KeepsThick, AllUpdates}
use Rattle.promise.specs.Promise.{Course, plain_at}
use Rattle.promise.specs.Thickness.{last_mode}
use Rattle.promise.specs.Height.{LowPlain, LowIn, FormattedLow}
use Rattle.promise.proofs.Images.{ReadTree, image_tree}
use Rattle.promise.proofs.Height.{stays_low, formatted_low, rebuilt_low, foreign_low, any_low}
use Rattle.store.specs.declared.state.State.{State}
use Rattle.store.specs.Ensured.{index}

module _ (nand : Nand) (K : Table) (G : ℕ) (s : State) (i : List ℕ) (xs ys : List (Step index)) where
  -- ---- at any place of a list, with the calls xs before it and ys behind it
  pub index_stays_low : Course index nand K G s i (xs ++ ys) → AllUpdates index (KeepsThick 0) (xs ++ ys) → LowPlain (plain_at index nand K G i xs)
  index_stays_low c = let t = image_tree (geometry_of nand) i K G c.started.mounted.image in stays_low index nand K G s i xs ys c t.tree t.size

  pub index_foreign_low : Mounted index nand K G s i → Runs index (Only index s) i (xs ++ ys) → Named index nand (xs ++ ys) → Uncut index (xs ++ ys) → Unstuck index (xs ++ ys)
      → AllUpdates index (KeepsThick 0) (xs ++ ys) → LowPlain (plain_at index nand K G i xs)
  index_foreign_low m r d u y = let t = image_tree (geometry_of nand) i K G m.image in foreign_low index nand K G s i xs ys m r d u y t.tree t.size

  pub index_any_low : Started index nand K G s i → Runs index (Only index s) i (xs ++ ys) → AllUpdates index (KeepsThick 0) (xs ++ ys)
      → LowIn (last_mode index (promised (starts index nand K G i)) i xs)
  index_any_low f r = let t = image_tree (geometry_of nand) i K G f.mounted.image in any_low index nand K G s i xs ys f r t.tree t.size

  -- K is the tree before the rebuild
  pub index_rebuilt_low : Rebuilt index nand K G s i → Runs index (Only index s) i (xs ++ ys) → Named index nand (xs ++ ys) → Uncut index (xs ++ ys)
      → AllUpdates index (KeepsThick 0) (xs ++ ys) → LowPlain (plain_at index nand (rebuild K) (suc G) i xs)
  index_rebuilt_low f =
      let t : ReadTree (8 * blocks_of (geometry_of nand) (length f.was)) K = image_tree (geometry_of nand) f.was K G f.image in
      rebuilt_low index nand K G s i xs ys f t.tree (t.size ∙ ap (λ (n : ℕ). 8 * blocks_of (geometry_of nand) n) (sym f.says.same_size))

pub index_formatted_low : FormattedLow index
index_formatted_low = formatted_low index
