-- An image that passes the tests of a rebuild: its tree, what is written of each node, and the laws of the commit. Assumes nothing.
use mathlib.Core.Path.{◌≡◌, refl, sym, ap, subst, ◌∙◌}
use mathlib.Core.Logic.{⊎_elim}
use mathlib.Core.Bool.{Bool, true, cond}
use mathlib.Core.List.{List, [], ◌∷◌, map, reverse}
use Prim.Native.Nat.{ℕ, zero, suc, ◌+◌, ◌*◌, ◌≤◌, ◌<◌}
use native.Mathlib.Omega.{arith}
use lib.ListN.{length, get_or, set, length-reverse}
use Rattle.std.specs.Prelude.{Option}
use Rattle.lists.specs.Lists.{All, none, more, modify}
use Rattle.lists.proofs.Alls.{All-modify}
use Rattle.lists.proofs.Tests.{below_or_not, clash}
use Rattle.chip.specs.declared.page.Mark.TheVariants.{Obsolete}
use Rattle.chip.specs.Geometry.{Geometry, Fits, block_size, blocks_of, page_size}
use Rattle.chip.specs.Page.{Page, marked}
use Rattle.chip.specs.Chip.{pages_of}
use Rattle.chip.proofs.ImageLaws.{length_pages}
use Rattle.chip.proofs.Sizes.{blocks_pages}
use Rattle.chip.proofs.Runs.{Sized}
use Rattle.pages.specs.Steps.{Live}
use Rattle.pages.proofs.UnitLaws.{freed_value}
use Rattle.views.specs.Nodes.{View, untouched, freed, broken, view}
use Rattle.views.specs.Table.{Node, fresh, is_whole}
use Rattle.views.specs.Stored.{stored_list, buffer_view, list_view, node_view}
use Rattle.views.proofs.Groups.{well_is}
use Rattle.views.proofs.Meanings.{Kept, node_in, kept_node, kept_well}
use Rattle.tree.specs.Tree.{Table, at, entries_of, level_of, there}
use Rattle.tree.specs.Step6.{NodeFits}
use Rattle.tree.specs.Rebuild.{rebuild}
use Rattle.tree.specs.Shown.{shown}
use Rattle.tree.specs.CheckCode.{pages_table}
use Rattle.tree.proofs.FindLaws.{at_tab}
use Rattle.tree.proofs.Step6.{at_length}
use Rattle.tree.proofs.Validity.{Smalls}
use Rattle.tree.proofs.RebuildLaws.{TreeAnew, rebuild_tree, rebuild_small, rebuild_below, rebuild_next}
use Rattle.journal.specs.Mount.{mount_ops, retire, void_pages}
use Rattle.journal.specs.Plan.{node_at}
use Rattle.journal.proofs.MountLaws.{image_sized, mount_clean}
use Rattle.journal.proofs.PlanFair.{Bytes, fair_kept}
use Rattle.journal.proofs.PlanKept.{chip_of}
use Rattle.journal.proofs.PlanNodes.{Fair, Small, nothing, released, some, bare_node}
use Rattle.journal.proofs.RebuildLaws.{Renewable}
use Rattle.journal.proofs.RebuildMarks.{done_all_lem, run_all, unvoided}
use Rattle.journal.proofs.RebuildSafe.{RebuildSafe, rebuilds}
use Rattle.promise.specs.Calls as P
use Rattle.promise.specs.Calls.{invalid}
use Rattle.promise.specs.Image.{views_of, by_six, image_meaning}
use Rattle.promise.proofs.Images.{ReadTree, image_tree}
use Rattle.renewal.specs.LayersCode.{Listed}
use Rattle.renewal.specs.MakeCode.{Rebuildable}
use Rattle.store.specs.AdmitCode.{ChipOf}
use Rattle.store.specs.PrepareCode.{IsReady}
use Rattle.store.specs.Rebuild.{has_free_blocks}
use Rattle.store.proofs.SettledViews.{fair_entries, image_bytes}
use Rattle.store.proofs.Wholes.{whole_at}

-- ---- the marks leave bytes
set_bytes : (n : ℕ) (xs : List ℕ) → Bytes xs → Bytes (set xs n 0)
set_bytes n [] h = none
set_bytes zero (x ∷ xs) (more a h) = more {x = 0} (let z : 0 < 256 = omega arith in z) h
set_bytes (suc n) (x ∷ xs) (more a h) = more a (set_bytes n xs h)

mark_bytes : (g : Geometry) (v : List Live) (ps : List Page) → All Bytes ps → All Bytes (done_all_lem g ps (map retire v))
mark_bytes g [] ps h = h
mark_bytes g (x ∷ v) ps h =
    mark_bytes g v (modify x.place (marked g Obsolete 0) ps) (All-modify x.place (marked g Obsolete 0) (λ y k. set_bytes _ y k) ps h)

-- ---- a view of the table of some nodes is that of the node
pub at_views : (nodes : List Node) (n : ℕ) → at (views_of nodes) n ≡ (node_at nodes n).now
at_views [] n = refl
at_views (x ∷ nodes) zero = refl
at_views (x ∷ nodes) (suc n) = at_views nodes n

-- a view of a tree with entries of 32 bits is fair
view_fair : (w : View) → NodeFits (entries_of w) → level_of w ≤ 2 → All Small (entries_of w) → is_whole w ≡ true → Fair w
view_fair untouched f l s h = nothing
view_fair freed f l s h = released freed_value
view_fair broken f l s h = clash h refl
view_fair (view l es) f k s h = let z : l ≤ 3 = omega arith in some {l = l} {es = es} z f.rising f.few s

-- an empty list read backwards was empty
reversed_none : (xs : List ℕ) → reverse xs ≡ [] → xs ≡ []
reversed_none [] e = refl
reversed_none (x ∷ xs) e = absurd (omega (arith, ap length e, length-reverse (x ∷ xs)))

-- a number without a list has no view
bare_shown : (g : Geometry) (i lens slots : List ℕ) (limit n : ℕ) → n < limit → stored_list lens slots n ≡ [] → at (pages_table g i lens slots limit) n ≡ untouched
unfolding shown buffer_view
bare_shown g i lens slots limit n l e =
    at_tab (node_view g limit (pages_of g i) lens slots 0 []) 0 limit n l
    ∙ ap (node_view g limit (pages_of g i) lens slots 0 []) (let z : 0 + n ≡ n = omega arith in z)
    ∙ ap (list_view g limit (pages_of g i) n) e

module _ (g : Geometry) (fit : Fits g) (i torn : List ℕ) (bytes : (j : ℕ) → get_or i j 0 < 256) (b : ℕ) (chip : ChipOf g b (length i)) (long : length torn ≡ page_size g)
    (lens slots ring : List ℕ) (G : ℕ) (v : Option ℕ) (rd : IsReady g i lens slots ring G v) where
  abbrev pub ps : List Page
  ps = pages_of g i

  abbrev pub B : ℕ
  B = blocks_of g (length i)

  -- the nodes of the image, and its tree
  abbrev pub nodes : List Node
  nodes = rd.read.nodes

  abbrev pub K : Table
  K = views_of nodes

  pub means_is : image_meaning g i ≡ P.means K G
  unfolding image_meaning
  means_is = ap by_six rd.read.means ∙ ap (λ (t : Bool). cond t (P.means K G) (invalid 9)) rd.read.tree

  pub blocks_few : B ≤ 32
  blocks_few = omega (arith, chip.blocks, chip.most)

  pub blocks_least : 3 ≤ B
  blocks_least = omega (arith, chip.blocks, chip.least)

  is_tree_lem : ReadTree (8 * B) K
  is_tree_lem = image_tree g i K G means_is

  -- the tree rebuilt
  pub anew : TreeAnew B K (rebuild K)
  anew = rebuild_tree B K blocks_few is_tree_lem.tree is_tree_lem.size

  -- ---- the image after the marks
  pub sized : All (Sized g) ps
  sized = image_sized g i b chip.size

  clean : Kept g (8 * B) (unvoided g ps) nodes G
  unfolding unvoided
  clean =
      subst (λ (qs : List Page). Kept g (8 * B) qs nodes G) (run_all g torn (length (mount_ops g ps)) ps (mount_ops g ps) (omega arith))
      (mount_clean g (8 * B) torn fit.marks ps sized (length (mount_ops g ps)) nodes G rd.read.means (omega arith))

  clean_bytes : All Bytes (unvoided g ps)
  unfolding unvoided
  clean_bytes = mark_bytes g (void_pages g ps) ps (image_bytes g i bytes)

  same_node : (n : ℕ) → n < 8 * B → node_at nodes n ≡ node_in g (8 * B) (unvoided g ps) n
  same_node n l = kept_node g (8 * B) (unvoided g ps) nodes G clean n fresh l

  -- ---- every view of the tree and of the tree rebuilt is fair
  fair_at : (n : ℕ) → n < 8 * B → Fair (at K n)
  fair_at n l =
      subst Fair (ap (λ (x : Node). x.now) (sym (same_node n l)) ∙ sym (at_views nodes n)) (fair_kept g (8 * B) (unvoided g ps) nodes G clean clean_bytes n l)

  smalls : Smalls K
  smalls n =
      ⊎_elim (λ l. fair_entries (fair_at n l)) (λ l. subst (λ (w : View). All Small (entries_of w)) (sym (at_length K n (omega (arith, is_tree_lem.size)))) none)
      (below_or_not n (8 * B))

  anew_fair : (n : ℕ) → Fair (at (rebuild K) n)
  anew_fair n =
      view_fair (at (rebuild K) n) (anew.tree.views n) (anew.levels n) (rebuild_small B K blocks_few is_tree_lem.tree is_tree_lem.size smalls n) (whole_at n (rebuild K) anew.whole)

  -- ---- the numbers with a list are those with a view
  stored : (n : ℕ) → n < 8 * B → stored_list lens slots n ≡ reverse (node_at nodes n).pages
  stored n l =
      (rd.read.lists n l).pages
      (subst (λ (x : Node). length x.pages ≤ 4) (sym (same_node n l)) (well_is (node_in g (8 * B) (unvoided g ps) n) (kept_well g (8 * B) (unvoided g ps) nodes G clean n l)).1)

  listed : Listed (8 * B) K lens slots
  listed =
      record {
        none = λ n l e. subst (λ (t : Table). at t n ≡ untouched) rd.read.views (bare n l e);
        some = λ n l e.
            stored n l
            ∙ ap reverse (ap (λ (x : Node). x.pages) (same_node n l)
            ∙ bare_node g (8 * B) (unvoided g ps) n (ap (λ (x : Node). x.now) (sym (same_node n l)) ∙ sym (at_views nodes n) ∙ e));
      }
    where
      bare : (n : ℕ) → n < 8 * B → stored_list lens slots n ≡ [] → at (pages_table g i lens slots (8 * B)) n ≡ untouched
      bare n l e = bare_shown g i lens slots (8 * B) n l e

  -- ---- what the code that makes the plan asks
  pub rebuildable : Rebuildable g b (pages_table g i lens slots (8 * b)) ps lens slots ring
  unfolding has_free_blocks
  rebuildable =
      subst (λ (c : ℕ). Rebuildable g c (pages_table g i lens slots (8 * c)) ps lens slots ring) (sym chip.blocks)
      (subst (λ (t : Table). Rebuildable g B t ps lens slots ring) (sym rd.read.views)
      (record { tree = is_tree_lem.tree; size = is_tree_lem.size; listed = listed; least = blocks_least; most = blocks_few; enough = rd.blocks; front = rd.front }))

  -- ---- and what the laws of the commit ask
  renewable : Renewable g (8 * B) B ps nodes G (at (rebuild K))
  unfolding has_free_blocks
  renewable =
      record {
        is = rd.read.means;
        number = omega (arith, rd.left);
        sizes = sized;
        length_is = length_pages g i ∙ blocks_pages g fit (length i) B (chip.size ∙ ap (λ (c : ℕ). c * block_size g) chip.blocks);
        fair = λ n l. anew_fair n;
        bare = λ n l e. sym (at_views nodes n) ∙ anew.unused n e;
        root = λ e. absurd (omega (arith, rebuild_below K 0 (omega (arith, rebuild_next K)), ap there e));
        blocks = rd.blocks;
      }

  pub law : RebuildSafe g (8 * B) B torn ps nodes G (at (rebuild K))
  law = rebuilds (chip_of g fit B torn long) blocks_least renewable
