-- Inserts and deletes of keys of 32 bits are lawful updates: they make thick trees of thick trees, and say what becomes of each key; the height of such trees; and a tree rebuilt. Assumes nothing.
use mathlib.Core.Path.{◌≡◌, refl, sym, ap, ◌∙◌, subst}
use mathlib.Core.Logic.{⊎_elim}
use Prim.Native.Nat.{ℕ, suc, ◌*◌, ◌-◌, ◌<◌, ◌≤◌}
use native.Mathlib.Omega.{arith}
use lib.Dec.{eqb}
use lib.ListN.{length, length-replicate}
use borrow.Author.Tests.{eqb-true, eqb-false}
use Rattle.lists.proofs.Tests.{cases, same_or_not}
use Rattle.chip.specs.Geometry.{Nand, geometry_of, blocks_of}
use Rattle.chip.proofs.Sizes.{chip_size}
use Rattle.views.specs.Nodes.{untouched}
use Rattle.tree.specs.Tree.{Table, nodes, root_level, lookup, find}
use Rattle.tree.specs.Insert.{TreeStep, refusal, done, insert}
use Rattle.tree.specs.Delete.{delete}
use Rattle.tree.specs.Step6.{top, Tree}
use Rattle.tree.specs.Thick.{Thick}
use Rattle.tree.specs.Rebuild.{rebuild}
use Rattle.tree.proofs.Laws.{find_is, first_tree, first_thick, thick_zero, nodes_length, next_length, thick_level, root_entries_lem, inserted_level, inserted_thick, insert_done, insert_keeps, insert_exact, find_inserted, find_inserted_other, delete_keeps, delete_thick, delete_units_lem, find_deleted, find_deleted_other, rebuild_tree}
use Rattle.promise.specs.Plain.{when, is_refused, table_after, said_if, holds, gone, insertion, deletion, leaf}
use Rattle.promise.specs.History.{TreeOf, KeepsThick, after_said, Lawful}
use Rattle.promise.specs.Promise.{RebuildKeeps}
use Rattle.promise.specs.Height.{Low}

-- a chip has 32 blocks at most
pub blocks_most : (nand : Nand) (size : ℕ) → blocks_of (geometry_of nand) size ≤ 32
blocks_most nand size =
    let B = blocks_of (geometry_of nand) size in
    ⊎_elim (λ (z : B ≡ 0). omega arith) (λ (z : B ≡ 0 → ⊥). (chip_size (geometry_of nand) size B refl z).most) (same_or_not B 0)

pub leaf_tree : (c B : ℕ) → 0 < B → B ≤ 32 → TreeOf c B (leaf B)
unfolding leaf
leaf_tree c B h most =
    record {
      tree = first_tree (8 * B - 1);
      size = ap suc (length-replicate (8 * B - 1) untouched) ∙ omega arith;
      blocks = most;
      thick = first_thick c (8 * B - 1);
    }

-- node 0 of such a tree is at level 3 at most
module _ (c B : ℕ) (t : Table) (T : TreeOf c B t) where
  few_nodes : nodes t ≤ 256
  few_nodes = omega (arith, nodes_length t, T.size, T.blocks)

  tree_level : root_level t ≤ 3
  tree_level = thick_level t T.tree (thick_zero c t T.thick) few_nodes

  -- and an insert leaves it there, whatever it inserts
  pub tree_low : Low B t
  tree_low =
      record {
        level = tree_level;
        entries = λ e. omega (arith, root_entries_lem t T.tree (thick_zero c t T.thick) few_nodes e);
        inserts = λ k v h. inserted_level k v t T.tree h (thick_zero c t T.thick) few_nodes;
        five = λ k v h. insert_exact (8 * B) k v t T.tree h (omega (arith, next_length t, T.size));
      }

-- ---- inserts and deletes keep such trees
insert_by : (c B k v : ℕ) (t : Table) (r : TreeStep) → insert (8 * B) k v t ≡ r → c ≤ 8 → k < top → TreeOf c B t → TreeOf c B (table_after t r)
insert_by c B k v t (refusal n) e l h T = T
insert_by c B k v t (done u) e l h T =
    let I = insert_keeps (8 * B) k v t u T.tree h T.size e in
    record {
      tree = I.tree;
      size = I.long;
      blocks = T.blocks;
      thick = subst (λ (w : Table). Thick c w) (sym I.is) (inserted_thick c k v t T.tree h l T.thick);
    }

pub insert_keeps_thick : (c k v : ℕ) → c ≤ 8 → k < top → KeepsThick c (insertion k v)
unfolding insertion
insert_keeps_thick c k v l h B t T r = insert_by c B k v t (insert (8 * B) k v t) refl l h T

pub delete_keeps_thick : (c k : ℕ) → c ≤ 8 → k < top → KeepsThick c (deletion k)
unfolding deletion
delete_keeps_thick c k l h B t T r =
    let E = delete_units_lem k t T.tree h (tree_level c B t T) in
    record {
      tree = (delete_keeps k t T.tree h).tree;
      size = E.long ∙ T.size;
      blocks = T.blocks;
      thick = delete_thick c k t T.tree h l T.thick.nodes;
    }

-- ---- what becomes of each key
insert_value : (B j v k : ℕ) (t : Table) (r : TreeStep) → insert (8 * B) j v t ≡ r → when 5 (is_refused r) ≡ 0 → TreeOf 0 B t → j < top → k < top
    → find k (table_after t r) ≡ after_said (said_if (eqb j k) (holds v)) (find k t)
insert_value B j v k t (refusal n) e h T a b = absurd (omega arith)
insert_value B j v k t (done u) e h T a b =
    let d = insert_done (8 * B) j v t u e in
    cases (eqb j k)
    (λ q. rw (q, ← eqb-true j k q, ← d.0) (find_inserted j v t T.tree a))
    (λ q. rw (q, ← d.0) (find_inserted_other j v t T.tree a k b (eqb-false j k q)))

pub insert_lawful : (k v : ℕ) → k < top → Lawful (insertion k v)
unfolding insertion
insert_lawful k v h =
    record {
      tree = insert_keeps_thick 0 k v (omega arith) h;
      value = λ B t j T r b. insert_value B k v j t (insert (8 * B) k v t) refl r T h b;
    }

delete_value : (B j k : ℕ) (t : Table) → TreeOf 0 B t → j < top → k < top → find k (delete j t) ≡ after_said (said_if (eqb j k) gone) (find k t)
delete_value B j k t T a b =
    cases (eqb j k)
    (λ q. rw (q, ← eqb-true j k q) (find_deleted j t T.tree a))
    (λ q. rw q (find_deleted_other j t T.tree a k b (eqb-false j k q)))

pub delete_lawful : (k : ℕ) → k < top → Lawful (deletion k)
unfolding deletion
delete_lawful k h = record { tree = delete_keeps_thick 0 k (omega arith) h; value = λ B t j T r b. delete_value B k j t T h b }

-- ---- a tree rebuilt
pub rebuild_thick : (nand : Nand) (size : ℕ) (K : Table) → Tree K → length K ≡ 8 * blocks_of (geometry_of nand) size → TreeOf 8 (blocks_of (geometry_of nand) size) (rebuild K)
rebuild_thick nand size K T l =
    let R = rebuild_tree (blocks_of (geometry_of nand) size) K (blocks_most nand size) T l in
    record { tree = R.tree; size = R.size; blocks = blocks_most nand size; thick = R.eights }

pub rebuild_keeps : RebuildKeeps
rebuild_keeps nand size K T l =
    let R = rebuild_tree (blocks_of (geometry_of nand) size) K (blocks_most nand size) T l in
    (record { tree = R.tree; size = R.size; blocks = blocks_most nand size; thick = thick_zero 8 (rebuild K) R.eights }, λ k h. find_is k (rebuild K) R.tree h ∙ ap (lookup k) R.records ∙ sym (find_is k K T h))
