-- A state with nothing pending whose table holds what the image means: after a finished format, mount or commit. Assumes nothing.
use mathlib.Core.Path.{◌≡◌, sym, ap, ap₂, subst, ◌∙◌}
use mathlib.Core.Bool.{true, false}
use mathlib.Core.List.{List, [], reverse, reverse-reverse}
use Prim.Native.Nat.{ℕ, ◌*◌, ◌≤◌, ◌<◌}
use native.Mathlib.Omega.{arith}
use lib.ListN.{length, get_or}
use Rattle.lists.specs.Lists.{all, none, tab}
use Rattle.lists.proofs.Flats.{tab_same}
use Rattle.chip.specs.Geometry.{Geometry}
use Rattle.chip.specs.Chip.{pages_of}
use Rattle.pages.specs.Units.{decodes}
use Rattle.pages.specs.Steps.{live_from, ordered, stand, steps}
use Rattle.views.specs.Table as Views
use Rattle.views.specs.Nodes.{View}
use Rattle.views.specs.Table.{Node, fresh, is_whole}
use Rattle.views.specs.Stored.{node_view, buffer_view, Stores}
use Rattle.views.proofs.Groups.{well_is}
use Rattle.views.proofs.Meanings.{Kept, node_in, opened, kept_node, kept_well}
use Rattle.views.proofs.ViewLaws.{view_stored}
use Rattle.tree.specs.Tree.{at}
use Rattle.tree.specs.Thick.{thin}
use Rattle.tree.specs.Free.{free_numbers}
use Rattle.tree.specs.Shown.{shown}
use Rattle.tree.specs.Step6.{step6}
use Rattle.journal.specs.Plan.{node_at}
use Rattle.journal.proofs.PlanFair.{fair_kept}
use Rattle.journal.proofs.PlanNodes.{Fair, nothing}
use Rattle.promise.specs.Image.{views_of, by_six, image_meaning}
use Rattle.promise.proofs.Images.{image_tree}
use Rattle.promise.specs.Plain.{Plain}
use Rattle.promise.specs.Calls as P
use Rattle.store.specs.declared.state.State.{State}
use Rattle.store.specs.AdmitCode.{ChipOf}
use Rattle.store.specs.State.{node_from, nodes_of, goods, units_of, present_of, Good, geometry_in}
use Rattle.store.specs.Ensured.{index}
use Rattle.store.proofs.SettledViews.{map_tab, views_at, views_all, image_bytes, fair_entries}

-- ---- the arrays hold the lists of the nodes that the image means
module _ (g : Geometry) (s : State) (i : List ℕ) (nodes : List Node) (k : Kept g (8 * s.blocks) (pages_of g i) nodes s.commit)
    (lists : (n : ℕ) → n < 8 * s.blocks → Stores s.lens s.slots n (node_at nodes n).pages) where
  -- node n of the image
  abbrev image_node : ℕ → Node
  image_node n = node_in g (8 * s.blocks) (pages_of g i) n

  -- its list is the one stored, and has at most 4 pages
  node_stores : (n : ℕ) → n < 8 * s.blocks → Stores s.lens s.slots n (image_node n).pages
  node_stores n l =
      subst (λ (x : Node). Stores s.lens s.slots n x.pages)
      (kept_node g (8 * s.blocks) (pages_of g i) nodes s.commit k n fresh l) (lists n l)

  node_rules : (n : ℕ) → n < 8 * s.blocks → (is_whole (image_node n).now ≡ true) × (length (image_node n).pages ≤ 4)
  node_rules n l = well_is (image_node n) (kept_well g (8 * s.blocks) (pages_of g i) nodes s.commit k n l)

  -- it is the node of the table
  node_read : (n : ℕ) → n < 8 * s.blocks → node_from g s i n ≡ image_node n
  node_read n l =
      ap₂ (λ (w : View) (ps : List ℕ). record { now = w; pages = ps })
      (view_stored g (8 * s.blocks) (pages_of g i) nodes s.commit k n s.lens s.slots l (node_stores n l))
      (ap reverse ((node_stores n l).pages (node_rules n l).1) ∙ reverse-reverse (image_node n).pages)

  tables : nodes ≡ tab 0 (8 * s.blocks) image_node
  tables = (opened g (8 * s.blocks) (pages_of g i) nodes s.commit k).tables

  -- the nodes of the table are those that the image means
  held_nodes : nodes_of g s i ≡ nodes
  unfolding nodes_of
  held_nodes = tab_same (node_from g s i) image_node 0 (8 * s.blocks) (λ n l. node_read n (omega arith)) ∙ sym tables

-- ---- nothing is pending, the table holds the lists of the nodes that the image means, those are a tree that is not thin, and the free numbers are on record
pub record Settled (g : Geometry) (s : State) (i : List ℕ) (nodes : List Node) : Type 0 where
  pub chip : ChipOf g s.blocks (length i)
  pub bytes : (j : ℕ) → get_or i j 0 < 256
  pub means : Views.meaning g (8 * s.blocks) (pages_of g i) ≡ Views.means nodes s.commit
  pub clean : steps g (pages_of g i) ≡ stand [] (ordered (live_from g 0 (pages_of g i)))
  pub tree : step6 (views_of nodes) ≡ true
  pub lists : (n : ℕ) → n < 8 * s.blocks → Stores s.lens s.slots n (node_at nodes n).pages
  pub thick : thin (views_of nodes) ≡ false
  pub free : s.free ≡ free_numbers (views_of nodes)
  pub pending : s.pending ≡ 0
  pub count : s.count ≡ 0
  pub past : (b : ℕ) → s.blocks ≤ b → get_or s.erases b 0 ≡ 0

module _ (g : Geometry) (s : State) (i : List ℕ) (nodes : List Node) (b : Settled g s i nodes) where
  -- the image keeps its meaning
  pub settled_kept : Kept g (8 * s.blocks) (pages_of g i) nodes s.commit
  settled_kept = record { is = b.means; clean = b.clean }

  -- the nodes of the table are those that the image means
  pub settled_nodes : nodes_of g s i ≡ nodes
  settled_nodes = held_nodes g s i nodes settled_kept b.lists

  -- an empty buffer changes no view
  none_buffered : (count : ℕ) → count ≡ 0 → (n : ℕ)
      → node_view g (8 * s.blocks) (pages_of g i) s.lens s.slots count s.buffer n ≡ (node_from g s i n).now
  unfolding buffer_view
  none_buffered count e n = rw e

  -- K and P are their views
  pub settled_present : present_of g s i ≡ views_of nodes
  unfolding present_of shown nodes_of
  settled_present =
      tab_same (node_view g (8 * s.blocks) (pages_of g i) s.lens s.slots s.count s.buffer) (λ n. (node_from g s i n).now) 0
      (8 * s.blocks) (λ n l. none_buffered s.count b.count n)
      ∙ sym (map_tab (λ (x : Node). x.now) (node_from g s i) 0 (8 * s.blocks)) ∙ ap views_of settled_nodes

  pub settled_meaning : image_meaning g i ≡ P.means (views_of nodes) s.commit
  unfolding image_meaning
  settled_meaning =
      ap (λ (B : ℕ). by_six (Views.meaning g (8 * B) (pages_of g i))) (sym b.chip.blocks) ∙ ap by_six b.means ∙ rw b.tree

  -- ---- P as the views of the image's nodes
  abbrev settled_node : ℕ → Node
  settled_node n = node_in g (8 * s.blocks) (pages_of g i) n

  present_is : present_of g s i ≡ views_of (tab 0 (8 * s.blocks) settled_node)
  present_is = settled_present ∙ ap views_of (tables g s i nodes settled_kept b.lists)

  -- every view of the image is fair
  node_fair : (n : ℕ) → n < 8 * s.blocks → Fair (settled_node n).now
  node_fair n l = fair_kept g (8 * s.blocks) (pages_of g i) nodes s.commit settled_kept (image_bytes g i b.bytes) n l

  present_fair : (n : ℕ) → Fair (at (present_of g s i) n)
  present_fair n = rw present_is (views_at Fair nothing settled_node 0 (8 * s.blocks) (λ j l. node_fair j (omega arith)) n)

  present_whole : all is_whole (present_of g s i) ≡ true
  present_whole =
      rw present_is
      (views_all is_whole settled_node 0 (8 * s.blocks) (λ j l. (node_rules g s i nodes settled_kept b.lists j (omega arith)).0))

  -- no unit
  units_none : units_of s ≡ []
  unfolding units_of
  units_none = go s.count b.count
    where
      go : (count : ℕ) → count ≡ 0 → goods (decodes (8 * s.blocks) count s.buffer) ≡ []
      go count e = rw e

  short : (n : ℕ) → n < 8 * s.blocks → get_or s.lens n 0 ≤ 4
  short n l = omega (arith, (node_stores g s i nodes settled_kept b.lists n l).size, (node_rules g s i nodes settled_kept b.lists n l).1)

  pub settled_good : Good g s i
  settled_good =
      let m = settled_meaning in
      record {
        blocks = b.chip.blocks;
        chip = omega (arith, b.chip.least);
        short = short;
        means = rw settled_nodes b.means;
        clean = b.clean;
        kept = rw settled_nodes b.tree;
        units = rw (units_none, b.count);
        valid = rw units_none none;
        few = rw b.count (omega arith);
        some = λ h. absurd (omega (arith, b.pending));
        pending = rw b.pending (omega arith);
        tree = rw settled_present (image_tree g i (views_of nodes) s.commit settled_meaning).tree;
        words = λ n. fair_entries (present_fair n);
        whole = present_whole;
        thick = rw settled_present b.thick;
        free = b.free ∙ ap free_numbers (sym settled_present);
        past = b.past;
      }

-- what it means
abbrev pub settled_plain : State → List Node → Plain
settled_plain s nodes = record { kept = views_of nodes; present = views_of nodes; pending = 0; number = s.commit; on = s.on; nand = s.nand; blocks = s.blocks }

pub settled_state : (s : State) (i : List ℕ) (nodes : List Node) → Settled (geometry_in s) s i nodes → P.state_of index s i ≡ settled_plain s nodes
unfolding P.state_of
settled_state s i nodes b = rw (settled_meaning (geometry_in s) s i nodes b, settled_present (geometry_in s) s i nodes b, b.pending)
