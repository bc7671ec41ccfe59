-- What a commit starts from on a good state: the table and the units that its plan is made of. Assumes nothing.
use mathlib.Core.Path.{◌≡◌, refl, sym, ap, subst, ◌∙◌}
use mathlib.Core.List.{[], List, reverse-reverse}
use Prim.Native.Nat.{ℕ, ◌+◌, ◌*◌, ◌≤◌, ◌<◌}
use native.Mathlib.Omega.{arith}
use lib.ListN.{length, get_or, length-reverse, replicate, length-replicate}
use lib.Seq.{length-take-le}
use borrow.Author.Tests.{eq-eqb, le-leb, ne_eqb}
use Rattle.lists.specs.Lists.{all, part, tab}
use Rattle.lists.proofs.Flats.{tab_same, get_d_tab, tab_all}
use Rattle.lists.proofs.Parts.{length_part}
use Rattle.chip.specs.Geometry.{Geometry, Fits, blocks_of, page_size}
use Rattle.chip.specs.Page.{Page}
use Rattle.chip.specs.Chip.{pages_of}
use Rattle.chip.proofs.ImageLaws.{length_pages}
use Rattle.chip.proofs.Sizes.{chip_size, blocks_pages}
use Rattle.pages.specs.declared.unit.Unit as U
use Rattle.pages.specs.Steps.{live_from}
use Rattle.views.specs.Nodes.{View, untouched}
use Rattle.views.specs.Groups.{present}
use Rattle.views.specs.Table as Views
use Rattle.views.specs.Table.{Node, fresh, is_whole}
use Rattle.views.specs.Stored.{stored_list, node_view, Stores}
use Rattle.views.proofs.Meanings.{Kept}
use Rattle.tree.specs.Shown.{shown}
use Rattle.views.proofs.NodeViews.{buffer_good}
use Rattle.journal.specs.Plan.{head_block, node_at, spare_blocks}
use Rattle.journal.specs.Admissible.{contents_of, unused_blocks}
use Rattle.journal.specs.Policy.{decide, plan_of, used_blocks}
use Rattle.journal.proofs.MountLaws.{image_sized}
use Rattle.journal.proofs.PlanBlocks.{has_room_lem, room_has}
use Rattle.journal.proofs.PlanBlocks as Log
use Rattle.journal.proofs.AssignedChoice.{Committable}
use Rattle.journal.proofs.ContentsLaws.{SameContents, decide_same, plan_by_same, same_pages}
use Rattle.journal.proofs.PlanKept.{Buffer, chip_of, ready, wide}
use Rattle.commits.specs.ExecuteCode.{Plannable}
use Rattle.store.specs.declared.state.State.{State}
use Rattle.store.specs.AdmitCode.{ChipOf}
use Rattle.store.specs.State.{contents_at, limit_of, node_from, nodes_of, paged, plan_at, units_of, present_of, Good, RoomIn, Room, commit_ops}
use Rattle.store.specs.Ensured.{the_ops}
use Rattle.store.proofs.SettledViews.{image_bytes}
use Rattle.store.proofs.PushedState.{units_many}
use Rattle.store.proofs.CommitPlan.{plan_some}
use Rattle.store.proofs.PlanRead.{paged_is}

-- ---- room, as the definition tests it and as the laws of the plan have it
module _ (g : Geometry) (i : List ℕ) (B : ℕ) (nodes : List Node) (G : ℕ) (blocks : B ≡ blocks_of g (length i))
    (means : Views.meaning g (8 * B) (pages_of g i) ≡ Views.means nodes G) where
  room_meaning : Views.meaning g (8 * blocks_of g (length i)) (pages_of g i) ≡ Views.means nodes G
  room_meaning = ap (λ (b : ℕ). Views.meaning g (8 * b) (pages_of g i)) (sym blocks) ∙ means

  pub room_of : Room g i → Log.Room g B (spare_blocks g B) nodes G (live_from g 0 (pages_of g i))
  unfolding Room
  room_of r =
      subst (λ (b : ℕ). Log.Room g b (spare_blocks g b) nodes G (live_from g 0 (pages_of g i))) (sym blocks)
      (room_has g (blocks_of g (length i)) (spare_blocks g (blocks_of g (length i))) nodes G (live_from g 0 (pages_of g i))
      (subst (RoomIn g i) room_meaning r))

  pub room_by : Log.Room g B (spare_blocks g B) nodes G (live_from g 0 (pages_of g i)) → Room g i
  unfolding Room
  room_by r =
      subst (RoomIn g i) (sym room_meaning)
      (has_room_lem g (blocks_of g (length i)) (spare_blocks g (blocks_of g (length i))) nodes G (live_from g 0 (pages_of g i))
      (subst (λ (b : ℕ). Log.Room g b (spare_blocks g b) nodes G (live_from g 0 (pages_of g i))) blocks r))

-- ---- a good state
module _ (g : Geometry) (s : State) (i : List ℕ) (ok : Good g s i) where
  -- the pages, K and the buffer's units
  abbrev ps : List Page
  ps = pages_of g i

  abbrev tb : List Node
  tb = nodes_of g s i

  abbrev us : List U.Unit
  us = units_of s

  pub good_chip : ChipOf g s.blocks (length i)
  good_chip =
      let z = chip_size g (length i) s.blocks ok.blocks (λ q. omega (arith, ok.chip)) in
      record { blocks = ok.blocks; least = z.least; most = z.most; size = sym z.bytes }

  pub good_kept : Kept g (limit_of s) ps tb s.commit
  good_kept = record { is = ok.means; clean = ok.clean }

  pub good_long : Fits g → length ps ≡ s.blocks * g.pages
  good_long fit = length_pages g i ∙ blocks_pages g fit (length i) s.blocks good_chip.size

  pub good_room : Room g i → Log.Room g s.blocks (spare_blocks g s.blocks) tb s.commit (live_from g 0 ps)
  good_room r = room_of g i s.blocks tb s.commit ok.blocks ok.means r

  -- ---- the lists
  pub good_node : (n : ℕ) → n < limit_of s → node_at tb n ≡ node_from g s i n
  unfolding nodes_of
  good_node n l =
      get_d_tab (node_from g s i) 0 (limit_of s) n fresh l ∙ ap (node_from g s i) (let e : 0 + n ≡ n = omega arith in e)

  -- a list of at most 4 pages is stored as it is
  pub good_stores : length s.slots ≡ 1024 → (n : ℕ) → n < limit_of s → Stores s.lens s.slots n (node_at tb n).pages
  good_stores e n l =
      let xs : List ℕ = stored_list s.lens s.slots n in
      let p : length (part (4 * n) 4 s.slots) ≡ 4 = length_part s.slots (4 * n) 4 (omega (arith, good_chip.most)) in
      let z : length xs ≡ get_or s.lens n 0 = length-take-le (get_or s.lens n 0) (part (4 * n) 4 s.slots) (omega (arith, ok.short n l)) in
      subst (λ (x : Node). Stores s.lens s.slots n x.pages) (sym (good_node n l))
      (record {
        size = omega (arith, length-reverse xs, ok.short n l);
        pages = λ h. sym (reverse-reverse xs);
      })

  -- ---- the buffer
  pub good_count : length us ≡ s.count
  good_count = sym (units_many (limit_of s) s.count s.buffer us ok.units)

  pub good_few : s.count ≤ 960
  good_few = omega (arith, ok.few, ok.pending)

  -- P: each node of K and then the buffer
  pub good_present : present_of g s i ≡ tab 0 (limit_of s) (λ n. present n (node_at tb n).now us)
  unfolding present_of shown
  good_present =
      tab_same (node_view g (limit_of s) ps s.lens s.slots s.count s.buffer) (λ n. present n (node_at tb n).now us) 0 (limit_of s)
      (λ n l. buffer_good (limit_of s) n s.count s.buffer (node_from g s i n).now us good_few ok.units
      ∙ ap (λ (x : Node). present n x.now us) (sym (good_node n (omega arith))))

  pub good_buffer : 0 < s.pending → Buffer (limit_of s) tb us
  good_buffer h =
      record {
        pending = omega (arith, good_count, ok.some h);
        valid = ok.valid;
        whole = λ n l.
            let f : ℕ → View = λ n. present n (node_at tb n).now us in
            ap (λ (m : ℕ). is_whole (f m)) (let e : n ≡ 0 + n = omega arith in e)
            ∙ tab_all is_whole f 0 (limit_of s) n (ap (all is_whole) (sym good_present) ∙ ok.whole) l;
      }

  -- ---- what a plan asks
  pub good_ready : Fits g → ((j : ℕ) → get_or i j 0 < 256) → 0 < s.pending → s.commit < 4294967295 → Committable g (limit_of s) s.blocks ps tb s.commit us
  good_ready fit b h n =
      ready g (limit_of s) s.blocks ps tb s.commit us good_kept (omega arith) (image_bytes g i b)
      (image_sized g i s.blocks good_chip.size) (good_long fit) (good_buffer h)

  pub good_plannable : Fits g → ((j : ℕ) → get_or i j 0 < 256) → length s.slots ≡ 1024 → 0 < s.pending → s.commit < 4294967295
      → Plannable g (limit_of s) s.blocks s.lens s.slots s.count s.buffer ps tb s.commit us
  good_plannable fit b e h n =
      let bu = good_buffer h in
      record {
        held = record { is = good_kept.is; clean = good_kept.clean; lists = good_stores e; units = ok.units; few = good_few };
        limits = refl;
        number = omega arith;
        long = good_long fit;
        sizes = image_sized g i s.blocks good_chip.size;
        bytes = image_bytes g i b;
        some = bu.pending;
        valid = bu.valid;
        whole = bu.whole;
      }

  -- ---- the plan: over P, what may be written is the nodes of K with the buffer
  good_contents : SameContents (limit_of s) (contents_at g s i) (contents_of (node_at tb) us)
  good_contents =
      record {
        after = λ n l. ap (λ (t : List View). get_or t n untouched) good_present
            ∙ get_d_tab (λ n. present n (node_at tb n).now us) 0 (limit_of s) n untouched l
            ∙ ap (λ (m : ℕ). present m (node_at tb m).now us) (let e : 0 + n ≡ n = omega arith in e);
        buffered = λ n l. refl;
        listed = λ n l. same_pages (node_at tb n).pages (node_at tb n).pages refl;
      }

  -- the plan is the policy's, or nothing where that has no page
  pub good_plan : plan_at g s i ≡ paged (plan_of g (limit_of s) s.blocks ps tb s.commit us)
  unfolding plan_at
  good_plan =
      let N = contents_at g s i in
      let M = contents_of (node_at tb) us in
      rw (le-leb s.count 960 good_few)
      (ap paged (plan_by_same g (limit_of s) s.blocks ps tb s.commit N M
      (decide g (limit_of s) s.blocks ps tb s.commit N) (decide g (limit_of s) s.blocks ps tb s.commit M) good_contents
      (decide_same g (limit_of s) (spare_blocks g s.blocks) ps (head_block g ps) (unused_blocks g s.blocks ps tb s.commit) (used_blocks g s.blocks ps tb s.commit) N M good_contents)))

  -- with updates pending and a number left it is the policy's
  pub plan_good : Fits g → ((j : ℕ) → get_or i j 0 < 256) → 0 < s.pending → s.commit < 4294967295
      → plan_at g s i ≡ plan_of g (limit_of s) s.blocks ps tb s.commit us
  plan_good fit b h n =
      let torn : List ℕ = replicate (page_size g) 0 in
      good_plan
      ∙ paged_is (plan_of g (limit_of s) s.blocks ps tb s.commit us)
      (plan_some g (limit_of s) s.blocks torn (chip_of g fit s.blocks torn (length-replicate (page_size g) 0)) ps tb s.commit us
      (good_ready fit b h n) (good_buffer h).pending (wide g fit s.blocks good_chip.least))

-- none with nothing pending, else those of the plan
pub ops_none : (g : Geometry) (s : State) (i : List ℕ) → s.pending ≡ 0 → commit_ops g s i ≡ []
unfolding commit_ops
ops_none g s i h = rw (eq-eqb s.pending 0 h)

pub ops_some : (g : Geometry) (s : State) (i : List ℕ) → 0 < s.pending → commit_ops g s i ≡ the_ops g s i
unfolding commit_ops
ops_some g s i h = rw (ne_eqb s.pending 0 (λ e. omega arith))
