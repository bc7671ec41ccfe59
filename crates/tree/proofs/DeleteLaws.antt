-- The laws of the delete that joins, on every table that passes step 6. Assumes nothing.
use mathlib.Core.Path.{◌≡◌, sym, ap, ◌∙◌, subst}
use mathlib.Core.List.{List}
use Prim.Native.Nat.{ℕ, ◌<◌, ◌≤◌}
use native.Mathlib.Omega.{arith}
use lib.ListN.{length}
use Rattle.views.specs.Nodes.{Entry, delete_entry}
use Rattle.tree.specs.Tree.{entries_of, there, Table, at, entries_at, root_level, absent, lookup, find, records}
use Rattle.tree.specs.Step6.{top, Tree}
use Rattle.tree.specs.Delete.{leaves, delete_at, delete}
use Rattle.tree.specs.Thick.{Filled, Thick}
use Rattle.tree.specs.DeleteUnits.{delete_units_at, collapse_units}
use Rattle.tree.proofs.Entries.{delete_same, delete_other}
use Rattle.tree.proofs.Shape.{Shape, there_le}
use Rattle.tree.proofs.Shaped.{Shaped, top_at, level_at}
use Rattle.tree.proofs.Step6.{tree_of, shape_of}
use Rattle.tree.proofs.Records.{records_of, Kept, find_is, records_between}
use Rattle.tree.proofs.ThickLaws.{at_wide, filled_full, full_thick}
use Rattle.tree.proofs.DeleteAt.{becomes_there, Thinned, deletes}
use Rattle.tree.proofs.TakeOver.{Ends, collapses}

-- ---- the delete
module _ (k : ℕ) (t : Table) (T : Shaped t) (hk : k < top) where
  abbrev l : ℕ
  l = T.level

  abbrev s : Shape T.level
  s = T.shape

  pub thinned : Thinned k t (delete_at T.level 0 k t) (delete_units_at T.level 0 k t) T.level 0 top T.shape
  thinned =
      subst (λ (n : ℕ). Thinned k t (delete_at T.level n k t) (delete_units_at T.level n k t) T.level 0 top T.shape) T.root
      (deletes k t l 0 top s T.sub (λ j. omega (arith, T.once j, there_le (at t j))) (omega arith) hk)

  ends : Ends (leaves (delete_at T.level 0 k t)) (delete k t) (collapse_units T.level (leaves (delete_at T.level 0 k t))) T.level thinned.shape
  unfolding delete
  ends =
      let th = thinned in
      rw (level_at t T)
      (collapses (leaves (delete_at l 0 k t)) l th.shape
      (record { root = th.becomes.same ∙ T.root; sub = th.becomes.sub; once = λ j. omega (arith, th.becomes.counts j, T.once j) }))

  pub delete_tree : Kept (delete_entry k) t (delete k t)
  delete_tree = record {
    tree = tree_of (delete k t) ends.tree;
    records = records_of (delete k t) ends.tree ∙ ends.is ∙ thinned.becomes.records ∙ ap (delete_entry k) (sym (records_of t T));
  }

  pub delete_fills : (c : ℕ) → c ≤ 8 → Filled c t → Thick c (delete k t)
  delete_fills c c8 h = full_thick c (delete k t) ends.tree ends.wide (ends.full c (thinned.nearly c c8 (filled_full c t T h)))

  pub delete_roots : 0 < root_level (delete k t) → 2 ≤ length (entries_at (delete k t) 0)
  delete_roots p =
      let E = ends.tree in
      subst (λ (es : List Entry). 2 ≤ length es) (sym (ap entries_of (top_at (delete k t) E))) (at_wide E.level E.shape ends.wide (omega (arith, level_at (delete k t) E)))

  pub delete_there : (j : ℕ) → there (at (delete k t) j) ≡ 1 → there (at t j) ≡ 1
  delete_there j p = becomes_there (delete_entry k) t (leaves (delete_at l 0 k t)) l 0 top s thinned.shape thinned.becomes T.sub j (ends.fewer j p)

-- step 6 is kept, with at most 16 rising entries a node; the records are those before without the key
pub delete_keeps : (k : ℕ) (t : Table) → Tree t → k < top → Kept (delete_entry k) t (delete k t)
delete_keeps k t g h = delete_tree k t (shape_of t g) h

-- no node but the root gets thin: leaves and interior nodes (c = 8), or interior nodes alone (c = 0); node 0 is then a leaf or has two entries or more
pub delete_thick : (c k : ℕ) (t : Table) → Tree t → k < top → c ≤ 8 → Filled c t → Thick c (delete k t)
delete_thick c k t g h c8 f = delete_fills k t (shape_of t g) h c c8 f

-- whatever the tree was, node 0 is then a leaf or has two entries or more
pub delete_root : (k : ℕ) (t : Table) → Tree t → k < top → 0 < root_level (delete k t) → 2 ≤ length (entries_at (delete k t) 0)
delete_root k t g h p = delete_roots k t (shape_of t g) h p

-- no number is new
pub delete_fewer : (k : ℕ) (t : Table) → Tree t → k < top → (j : ℕ) → there (at (delete k t) j) ≡ 1 → there (at t j) ≡ 1
delete_fewer k t g h = delete_there k t (shape_of t g) h

module _ (k : ℕ) (t : Table) (g : Tree t) (h : k < top) where
  pub find_deleted : find k (delete k t) ≡ absent
  find_deleted = let K = delete_keeps k t g h in find_is k (delete k t) K.tree h ∙ ap (lookup k) K.records ∙ delete_same k 0 top (records t) (records_between t g)

  pub find_deleted_other : (j : ℕ) → j < top → (k ≡ j → ⊥) → find j (delete k t) ≡ find j t
  find_deleted_other j hj n =
      let K = delete_keeps k t g h in
      find_is j (delete k t) K.tree hj ∙ ap (lookup j) K.records ∙ delete_other j k (records t) n ∙ sym (find_is j t g hj)
