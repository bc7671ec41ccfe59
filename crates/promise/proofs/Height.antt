-- At any place of a list no insert meets the height: K and P are thick trees of the chip. Assumes nothing.
use mathlib.Core.Path.{◌≡◌}
use Prim.Native.Nat.{ℕ, suc, ◌*◌}
use lib.ListN.{length}
use Rattle.chip.specs.Geometry.{Nand, geometry_of, blocks_of}
use Rattle.tree.specs.Tree.{Table}
use Rattle.tree.specs.Step6.{Tree}
use Rattle.tree.specs.Rebuild.{rebuild}
use Rattle.tree.proofs.Laws.{thin_thick}
use Rattle.promise.specs.Plain.{Plain, leaf}
use Rattle.promise.specs.Calls.{Store}
use Rattle.promise.specs.Steps.{last_image, Mounted, Mode, promised, unpromised, starts, last_plain}
use Rattle.promise.specs.History.{TreeOf}
use Rattle.promise.specs.Thickness.{ThickPlain, ThickIn, last_mode}
use Rattle.promise.specs.Height.{LowPlain, LowIn, StaysLow, FormattedLow, RebuiltLow, ForeignLow, AnyLow}
use Rattle.promise.proofs.Promise.{format_starts, rebuild_starts}
use Rattle.promise.proofs.Trees.{blocks_most, tree_low, rebuild_keeps}
use Rattle.promise.proofs.Thickness.{formatted_tree, stays_thick, any_thick, foreign_thick}

-- thick trees are low
low_plain : (c : ℕ) (p : Plain) → ThickPlain c p → LowPlain p
low_plain c p h = record { kept = tree_low c p.blocks p.kept h.kept; present = tree_low c p.blocks p.present h.present }

module _ (S : Store) where
  low_in : (m : Mode) (i : S.Image) → ThickIn S 0 m i → LowIn m
  low_in (promised p) i h = low_plain 0 p h.plain
  low_in unpromised i h = tt

  -- what a mount gives is not thin
  mounted_tree : (nand : Nand) (K : Table) (G : ℕ) (s : S.State) (i : S.Image) → Mounted S nand K G s i → Tree K
      → length K ≡ 8 * blocks_of (geometry_of nand) (S.size i) → TreeOf 0 (blocks_of (geometry_of nand) (S.size i)) K
  mounted_tree nand K G s i m t l =
      record { tree = t; size = l; blocks = blocks_most nand (S.size i); thick = thin_thick K m.thick }

  -- ---- the statements
  pub stays_low : StaysLow S
  stays_low nand K G s i xs ys r t l k =
      low_plain 0 (last_plain S (starts S nand K G i) i xs) (stays_thick S 0 nand K G s i xs ys r (mounted_tree nand K G s i r.started.mounted t l) k).plain

  pub formatted_low : FormattedLow S
  formatted_low nand s i xs ys f r d u k =
      low_plain 0 (last_plain S (starts S nand (leaf (blocks_of (geometry_of nand) (S.size i))) 1 i) i xs)
      (stays_thick S 0 nand (leaf (blocks_of (geometry_of nand) (S.size i))) 1 s i xs ys (record { started = format_starts S nand s i f; runs = r; named = d; uncut = u }) (formatted_tree S 0 nand s i f) k).plain

  pub rebuilt_low : RebuiltLow S
  rebuilt_low nand K G s i xs ys f t l r d u k =
      low_plain 0 (last_plain S (starts S nand (rebuild K) (suc G) i) i xs)
      (stays_thick S 0 nand (rebuild K) (suc G) s i xs ys (record { started = rebuild_starts S nand K G s i f; runs = r; named = d; uncut = u }) (rebuild_keeps nand (S.size i) K t l).0 k).plain

  pub foreign_low : ForeignLow S
  foreign_low nand K G s i xs ys m r d u y t l k =
      low_plain 0 (last_plain S (starts S nand K G i) i xs) (foreign_thick S 0 nand K G s i xs ys m r d u y (mounted_tree nand K G s i m t l) k).plain

  pub any_low : AnyLow S
  any_low nand K G s i xs ys f r t l k =
      low_in (last_mode S (promised (starts S nand K G i)) i xs) (last_image S i xs) (any_thick S 0 nand K G s i xs ys f r (mounted_tree nand K G s i f.mounted t l) k)
