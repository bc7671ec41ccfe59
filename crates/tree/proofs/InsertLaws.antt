-- The laws of the insert that takes the least numbers, on every table that passes step 6. Assumes nothing.
use mathlib.Core.Path.{◌≡◌, sym, ap, ◌∙◌}
use Prim.Native.Nat.{ℕ, ◌<◌, ◌≤◌}
use Rattle.views.specs.Nodes.{insert_entry}
use Rattle.tree.specs.Tree.{Table, found, lookup, find, records}
use Rattle.tree.specs.Step6.{top, Tree}
use Rattle.tree.specs.Insert.{inserted}
use Rattle.tree.specs.Thick.{Filled, Thick}
use Rattle.tree.proofs.Entries.{insert_same, insert_other}
use Rattle.tree.proofs.Shaped.{Shaped, level_at}
use Rattle.tree.proofs.Step6.{tree_of, shape_of}
use Rattle.tree.proofs.Records.{records_of, Kept, find_is}
use Rattle.tree.proofs.ThickLaws.{filled_full, thick_wide, full_filled, full_thick}
use Rattle.tree.proofs.InsertRoot.{RootIn, insert_root}

module _ (k v : ℕ) (t : Table) (T : Shaped t) (hk : k < top) where
  rooted : RootIn (insert_entry k v) (inserted k v t) T.level T.shape
  unfolding inserted
  rooted = rw (level_at t T) (insert_root k v t hk T.level T.shape T.sub T.root T.once)

  pub inserted_tree : Kept (insert_entry k v) t (inserted k v t)
  inserted_tree = record {
    tree = tree_of (inserted k v t) rooted.tree;
    records = records_of (inserted k v t) rooted.tree ∙ rooted.is ∙ ap (insert_entry k v) (sym (records_of t T));
  }

  pub inserted_fills : (c : ℕ) → c ≤ 8 → Filled c t → Filled c (inserted k v t)
  inserted_fills c c8 h = full_filled c (inserted k v t) rooted.tree (rooted.full c c8 (filled_full c t T h))

  pub inserted_thicks : (c : ℕ) → c ≤ 8 → Thick c t → Thick c (inserted k v t)
  inserted_thicks c c8 h =
      full_thick c (inserted k v t) rooted.tree (rooted.wide (thick_wide c t T h)) (rooted.full c c8 (filled_full c t T h.nodes))

-- step 6 is kept, with at most 16 rising entries a node; the records are those before with the key
pub inserted_keeps : (k v : ℕ) (t : Table) → Tree t → k < top → Kept (insert_entry k v) t (inserted k v t)
inserted_keeps k v t g h = inserted_tree k v t (shape_of t g) h

-- no node but the root gets thin, and node 0 above level 0 keeps two entries or more
pub inserted_filled : (c k v : ℕ) (t : Table) → Tree t → k < top → c ≤ 8 → Filled c t → Filled c (inserted k v t)
inserted_filled c k v t g h c8 f = inserted_fills k v t (shape_of t g) h c c8 f

pub inserted_thick : (c k v : ℕ) (t : Table) → Tree t → k < top → c ≤ 8 → Thick c t → Thick c (inserted k v t)
inserted_thick c k v t g h c8 f = inserted_thicks k v t (shape_of t g) h c c8 f

module _ (k v : ℕ) (t : Table) (g : Tree t) (h : k < top) where
  pub find_inserted : find k (inserted k v t) ≡ found v
  find_inserted = let K = inserted_keeps k v t g h in find_is k (inserted k v t) K.tree h ∙ ap (lookup k) K.records ∙ insert_same k v (records t)

  pub find_inserted_other : (j : ℕ) → j < top → (k ≡ j → ⊥) → find j (inserted k v t) ≡ find j t
  find_inserted_other j hj n =
      let K = inserted_keeps k v t g h in
      find_is j (inserted k v t) K.tree hj ∙ ap (lookup j) K.records ∙ insert_other j k v (records t) n ∙ sym (find_is j t g hj)
