-- The laws of a tree rebuilt from its records. Assumes nothing.
use mathlib.Core.Path.{◌≡◌, refl, sym, ap, ◌∙◌}
use mathlib.Core.Logic.{⊎_elim}
use mathlib.Core.Bool.{true, false}
use mathlib.Core.List.{List, [], ◌∷◌}
use Prim.Native.Nat.{ℕ, zero, suc, ◌*◌, ◌<◌, ◌≤◌}
use native.Mathlib.Omega.{arith}
use lib.Dec.{ltb}
use lib.ListN.{length}
use borrow.Author.Tests.{lt-ltb, le-ltb}
use Rattle.lists.specs.Lists.{none, all, flat, bit}
use Rattle.lists.proofs.Alls.{All-append}
use Rattle.lists.proofs.Tests.{below_or_not}
use Rattle.views.specs.Nodes.{Entry, View, untouched, freed, broken, view}
use Rattle.views.specs.Table.{is_whole}
use Rattle.tree.specs.Tree.{level_of, there, Table, at, entries_at, next, nodes, root_level, records_at, records}
use Rattle.tree.specs.Step6.{Tree}
use Rattle.tree.specs.Thick.{Thick, thin}
use Rattle.tree.specs.Rebuild.{freed_from, vacated, layers, rebuild}
use Rattle.tree.proofs.Tables.{at_beyond}
use Rattle.tree.proofs.Step6.{tree_of}
use Rattle.tree.proofs.Records.{records_of, records_between}
use Rattle.tree.proofs.Validity.{Small, Smalls}
use Rattle.tree.proofs.ThinLaws.{thick_thin, thick_zero}
use Rattle.tree.proofs.NodeCount.{nodes_length, records_most}
use Rattle.tree.proofs.LayerFacts.{nodes_beside, layers_next, layers_length, layers_beyond, layers_dense}
use Rattle.tree.proofs.Layers.{Rooted, layers_rooted}
use Rattle.tree.proofs.LayerNodes.{layers_thick, Levels, layers_levels, layers_small}
use Rattle.tree.proofs.Vacated.{vacated_other, vacated_next, vacated_length, vacated_dense, vacated_filled, vacated_levels, vacated_small, vacated_near}
use Rattle.tree.proofs.FewestNodes.{fewest_nodes}

-- ---- each fact by itself
-- its numbers: node 0, a 16th of the records rounded up, and a 16th of these where they are above 16
pub rebuild_next : (t : Table) → next (rebuild t) ≡ suc (nodes_beside 2 (length (records t)))
unfolding rebuild
rebuild_next t = layers_next 2 0 1 (records t) (vacated t) (vacated_next t) (omega arith) ∙ omega arith

pub rebuild_length : (t : Table) → Tree t → length (rebuild t) ≡ length t
unfolding rebuild
rebuild_length t g =
    let n = fewest_nodes t g in
    let e = vacated_length t (omega (arith, nodes_length t)) in
    layers_length 2 0 1 (records t) (vacated t) (omega arith) (omega (arith, nodes_length t)) ∙ e

pub rebuild_rooted : (t : Table) → Tree t → length (records t) ≤ 4096 → Rooted (rebuild t) (records t)
unfolding rebuild
rebuild_rooted t g h =
    layers_rooted 2 0 1 (record { number = 0; entries = records t }) (vacated t) (vacated_near t (records t) (records_between t g)) (omega arith)

pub rebuild_eights : (t : Table) → Thick 8 (rebuild t)
unfolding rebuild
rebuild_eights t = layers_thick 2 0 1 (records t) (vacated t) (λ p. absurd (omega arith)) (vacated_filled 8 t)

pub rebuild_levels : (t : Table) → Levels 2 (rebuild t)
unfolding rebuild
rebuild_levels t = layers_levels 2 2 0 1 (records t) (vacated t) (omega arith) (vacated_levels 2 t)

-- a number from the next one on is freed where it had a view
pub rebuild_beyond : (t : Table) (n : ℕ) → next (rebuild t) ≤ n → at (rebuild t) n ≡ freed_from (at t n)
unfolding rebuild
rebuild_beyond t n h =
    let e : next (layers 2 0 1 (records t) (vacated t)) ≡ suc (nodes_beside 2 (length (records t))) = rebuild_next t in
    layers_beyond 2 0 1 (records t) (vacated t) n (omega arith) (omega arith) ∙ vacated_other t n (omega arith)

pub rebuild_below : (t : Table) (n : ℕ) → n < next (rebuild t) → there (at (rebuild t) n) ≡ 1
unfolding rebuild
rebuild_below t n h =
    let e : next (layers 2 0 1 (records t) (vacated t)) ≡ suc (nodes_beside 2 (length (records t))) = rebuild_next t in
    layers_dense 2 0 1 (records t) (vacated t) (omega arith) (vacated_dense t) n (omega arith)

rebuild_dense : (t : Table) (n : ℕ) → there (at (rebuild t) n) ≡ bit (ltb n (next (rebuild t)))
rebuild_dense t n =
    ⊎_elim
    (λ (h : n < next (rebuild t)). rw (lt-ltb n (next (rebuild t)) h) (rebuild_below t n h))
    (λ (h : next (rebuild t) ≤ n). rw (le-ltb n (next (rebuild t)) h) (at_beyond (rebuild t) n h))
    (below_or_not n (next (rebuild t)))

-- ---- views that are untouched, and views that are not broken
freed_untouched : (w : View) → freed_from w ≡ untouched → w ≡ untouched
freed_untouched untouched e = refl
freed_untouched freed e = e
freed_untouched broken e = let z : ◌≡◌ {A = ℕ} 0 1 = cc in absurd (omega arith)
freed_untouched (view l es) e = let z : ◌≡◌ {A = ℕ} 0 1 = cc in absurd (omega arith)

rebuild_unused : (t : Table) (n : ℕ) → at (rebuild t) n ≡ untouched → at t n ≡ untouched
rebuild_unused t n e =
    ⊎_elim
    (λ (h : n < next (rebuild t)). absurd (omega (arith, rebuild_below t n h, ap there e)))
    (λ (h : next (rebuild t) ≤ n). freed_untouched (at t n) (sym (rebuild_beyond t n h) ∙ e))
    (below_or_not n (next (rebuild t)))

there_whole : (w : View) → there w ≡ 1 → is_whole w ≡ true
there_whole untouched h = refl
there_whole freed h = refl
there_whole broken h = absurd (omega arith)
there_whole (view l es) h = refl

freed_whole : (w : View) → is_whole (freed_from w) ≡ true
freed_whole untouched = refl
freed_whole freed = refl
freed_whole broken = refl
freed_whole (view l es) = refl

whole_at : (t : Table) (n : ℕ) → is_whole (at (rebuild t) n) ≡ true
whole_at t n =
    ⊎_elim
    (λ (h : n < next (rebuild t)). there_whole (at (rebuild t) n) (rebuild_below t n h))
    (λ (h : next (rebuild t) ≤ n). ap is_whole (rebuild_beyond t n h) ∙ freed_whole (at t n))
    (below_or_not n (next (rebuild t)))

all_whole : (u : Table) → ((n : ℕ) → is_whole (at u n) ≡ true) → all is_whole u ≡ true
all_whole [] f = refl
all_whole (w ∷ u) f = rw (f 0) (all_whole u (λ n. f (suc n)))

pub rebuild_whole : (t : Table) → all is_whole (rebuild t) ≡ true
rebuild_whole t = all_whole (rebuild t) (whole_at t)

-- ---- all of it, for a chip of B blocks: u is tree t rebuilt
pub record TreeAnew (B : ℕ) (t u : Table) : Type 0 where
  pub tree : Tree u
  pub thick : thin u ≡ false
  -- each node but node 0, leaves too, has 8 entries or more
  pub eights : Thick 8 u
  pub records : records u ≡ records t
  pub level : root_level u ≤ 2
  pub size : length u ≡ 8 * B
  pub numbers : next u ≤ 8 * B
  -- no tree with these records has fewer nodes, and they have the numbers from 0 on
  pub fewest : next u ≤ nodes t
  pub dense : (n : ℕ) → there (at u n) ≡ bit (ltb n (next u))
  pub levels : (n : ℕ) → level_of (at u n) ≤ 2
  -- what has no view had none, and the other way where no node came
  pub unused : (n : ℕ) → at u n ≡ untouched → at t n ≡ untouched
  pub stays : (n : ℕ) → next u ≤ n → at t n ≡ untouched → at u n ≡ untouched
  pub whole : all is_whole u ≡ true

pub rebuild_tree : (B : ℕ) (t : Table) → B ≤ 32 → Tree t → length t ≡ 8 * B → TreeAnew B t (rebuild t)
rebuild_tree B t b g s =
    let R = rebuild_rooted t g (records_most B t b g s) in
    let f = fewest_nodes t g in
    let n = rebuild_next t in
    record {
      tree = tree_of (rebuild t) R.tree;
      thick = thick_thin (rebuild t) (thick_zero 8 (rebuild t) (rebuild_eights t));
      eights = rebuild_eights t;
      records = records_of (rebuild t) R.tree ∙ R.is;
      level = rebuild_levels t 0;
      size = rebuild_length t g ∙ s;
      numbers = omega (arith, nodes_length t);
      fewest = omega arith;
      dense = rebuild_dense t;
      levels = rebuild_levels t;
      unused = rebuild_unused t;
      stays = λ n h e. rebuild_beyond t n h ∙ ap freed_from e;
      whole = rebuild_whole t;
    }

-- ---- keys and values of 32 bits stay so
flat_small : (f : ℕ → List Entry) → ((n : ℕ) → Small (f n)) → (es : List Entry) → Small (flat (λ (e : Entry). f e.value) es)
flat_small f h [] = none
flat_small f h (e ∷ es) = All-append (h e.value) (flat_small f h es)

small_at : (t : Table) → Smalls t → (l n : ℕ) → Small (records_at l t n)
small_at t s zero n = s n
small_at t s (suc l) n = flat_small (records_at l t) (λ m. small_at t s l m) (entries_at t n)

pub small_records : (t : Table) → Smalls t → Small (records t)
unfolding records
small_records t s = small_at t s (root_level t) 0

pub rebuild_small : (B : ℕ) (t : Table) → B ≤ 32 → Tree t → length t ≡ 8 * B → Smalls t → Smalls (rebuild t)
unfolding rebuild
rebuild_small B t b g e s =
    layers_small 2 0 1 (records t) (vacated t) (omega (arith, fewest_nodes t g, nodes_length t)) (small_records t s) (vacated_small t)
