-- All of a rebuild: the marks of the void pages, then its commit. For every allowance the old meaning or the new one, and room. Assumes nothing.
use mathlib.Core.Path.{◌≡◌, sym, ap, ◌∙◌, subst}
use mathlib.Core.Bool.{Bool, true, false, cond}
use mathlib.Core.List.{List, foldl}
use Prim.Native.Nat.{ℕ, suc, ◌+◌, ◌-◌, ◌*◌, ◌≤◌, ◌<◌}
use native.Mathlib.Omega.{arith}
use lib.Dec.{eqb, leb, ltb}
use lib.ListN.{get_or, length}
use borrow.Author.Tests.{eq-eqb, eqb-true, le-leb, leb-true, lt-leb, ltb-false, ltb-true, ne_eqb}
use Rattle.lists.specs.Lists.{All, tab}
use Rattle.lists.proofs.Tests.{cases, clash, same_test}
use Rattle.chip.specs.Geometry.{Geometry}
use Rattle.chip.specs.Page.{Page}
use Rattle.chip.specs.Chip.{Legal, run}
use Rattle.chip.specs.Erases.{erases_in}
use Rattle.chip.specs.Power.{takes_effect}
use Rattle.chip.proofs.EraseLaws.{erases_append}
use Rattle.chip.proofs.Runs.{Sized, run_length, run_sized, with_power}
use Rattle.pages.specs.Steps.{live_from}
use Rattle.views.specs.Nodes.{View}
use Rattle.views.specs.Table.{Node, NodesRead, events, fresh, meaning, means, turn}
use Rattle.views.proofs.Meanings.{Kept, kept_node}
use Rattle.journal.specs.Mount.{mount_ops, mounted_by, void_pages}
use Rattle.journal.specs.Plan.{Plan, news_of, node_at, ops_of, spare_blocks}
use Rattle.journal.specs.Rebuild.{rebuild_ops, rebuild_plan}
use Rattle.journal.proofs.AdmissibleLaws.{node_after}
use Rattle.journal.proofs.AssignedChoice.{Chip}
use Rattle.journal.proofs.MountLaws.{mount_clean, mount_erases, mount_keeps, mount_legal}
use Rattle.journal.proofs.PlanBlocks.{Room}
use Rattle.journal.proofs.PlanRoom.{room_marks}
use Rattle.journal.proofs.RebuildLaws.{Renewable, Renews, renews}
use Rattle.journal.proofs.RebuildMarks.{has_same, legal_append, marks_sized, rebuild_length, rebuild_same, run_all, run_past, run_within, unvoided, void_differ, void_live}

-- ---- the image after n operations, and node m as the new commit has it
abbrev pub image_rebuilt : Geometry → ℕ → ℕ → List ℕ → List Page → ℕ → (ℕ → View) → ℕ → List Page
image_rebuilt g limit B torn ps G w n = (run g torn (with_power n ps) (rebuild_ops g limit B ps G w)).pages

abbrev pub node_rebuilt : Geometry → ℕ → ℕ → List Page → ℕ → (ℕ → View) → ℕ → Node
node_rebuilt g limit B ps G w m = node_after g limit (unvoided g ps) G (rebuild_plan g limit B ps w) m

pub record RebuildSafe (g : Geometry) (limit B : ℕ) (torn : List ℕ) (ps : List Page) (tb : List Node) (G : ℕ) (w : ℕ → View) : Type 0 where
  -- after the marks: the same meaning, no void page, and the commit is that of the plan
  pub unvoids : (n : ℕ) → length (mount_ops g ps) ≤ n → (mounted_by g torn n ps).pages ≡ unvoided g ps
  pub clean : Kept g limit (unvoided g ps) tb G
  pub renewed : Renews g limit B torn (unvoided g ps) tb G w (rebuild_plan g limit B ps w)
  -- old or new, by `takes_effect`, for every allowance n
  pub cut : (n : ℕ) → meaning g limit (image_rebuilt g limit B torn ps G w n)
      ≡ cond (takes_effect (get_or torn 0 0) n (length (rebuild_ops g limit B ps G w))) (means (tab 0 limit (node_rebuilt g limit B ps G w)) (suc G)) (means tb G)
  -- with enough power: the new meaning, no void page
  pub kept : (n : ℕ) → length (rebuild_ops g limit B ps G w) ≤ n
      → Kept g limit (image_rebuilt g limit B torn ps G w n) (tab 0 limit (node_rebuilt g limit B ps G w)) (suc G)
  -- a node is the one before with the units of the new pages
  pub node : (m : ℕ) → m < limit → node_rebuilt g limit B ps G w m ≡ foldl (turn m) (node_at tb m) (events limit (news_of g G (rebuild_plan g limit B ps w)))
  -- a mark for each void page, three operations a page, no erase
  pub cost : length (rebuild_ops g limit B ps G w) ≡ length (mount_ops g ps) + 3 * length (rebuild_plan g limit B ps w).written
  pub few : length (rebuild_ops g limit B ps G w) ≤ length (mount_ops g ps) + 12 * B
  pub no_erase : (b : ℕ) → erases_in b (rebuild_ops g limit B ps G w) ≡ 0
  pub legal : Legal g ps (rebuild_ops g limit B ps G w)
  -- the image keeps its size
  pub sizes : (n : ℕ) → All (Sized g) (image_rebuilt g limit B torn ps G w n)
  pub long : (n : ℕ) → length (image_rebuilt g limit B torn ps G w n) ≡ length ps
  -- cut, what room there was stays; where the new meaning counts there is room, whatever there was
  pub room_cut : Room g B (spare_blocks g B) tb G (live_from g 0 ps) → (n : ℕ)
      → Room g B (spare_blocks g B) tb G (live_from g 0 (image_rebuilt g limit B torn ps G w n))
  pub room_done : (n : ℕ) → takes_effect (get_or torn 0 0) n (length (rebuild_ops g limit B ps G w)) ≡ true
      → Room g B (spare_blocks g B) (tab 0 limit (node_rebuilt g limit B ps G w)) (suc G) (live_from g 0 (image_rebuilt g limit B torn ps G w n))

-- ---- m operations, then k more of which the last one counts
effect_within : (t n m k : ℕ) → n < m → 0 < k → takes_effect t n (m + k) ≡ false
effect_within t n m k l p = rw (lt-leb (m + k) n (omega arith), ne_eqb (suc n) (m + k) (λ e. omega arith))

effect_past : (t n m k : ℕ) → m ≤ n → takes_effect t n (m + k) ≡ takes_effect t (n - m) k
effect_past t n m k l =
    let a : leb (m + k) n ≡ leb k (n - m) =
    same_test (leb (m + k) n) (leb k (n - m)) (λ e. le-leb k (n - m) (omega (arith, leb-true (m + k) n e))) (λ e. le-leb (m + k) n (omega (arith, leb-true k (n - m) e))) in
    let b : eqb (suc n) (m + k) ≡ eqb (suc (n - m)) k =
    same_test (eqb (suc n) (m + k)) (eqb (suc (n - m)) k) (λ e. eq-eqb (suc (n - m)) k (omega (arith, eqb-true (suc n) (m + k) e)))
    (λ e. eq-eqb (suc n) (m + k) (omega (arith, eqb-true (suc (n - m)) k e))) in
    rw (a, b)

module _ {g : Geometry} {limit B : ℕ} {torn : List ℕ} (ch : Chip g limit B torn) (least : 3 ≤ B)
    {ps : List Page} {tb : List Node} {G : ℕ} {w : ℕ → View} (rn : Renewable g limit B ps tb G w) where
  -- the plan, the marks and the operations of the commit
  abbrev Q : Plan
  Q = rebuild_plan g limit B ps w

  abbrev m : ℕ
  m = length (mount_ops g ps)

  abbrev k : ℕ
  k = length (ops_of g G Q)

  abbrev all_ops : ℕ
  all_ops = length (rebuild_ops g limit B ps G w)

  abbrev I : ℕ → List Page
  I n = image_rebuilt g limit B torn ps G w n

  ops_are : all_ops ≡ m + k
  ops_are = rebuild_length g ps limit B G w

  -- ---- after the marks
  unvoids_by : (n : ℕ) → m ≤ n → (mounted_by g torn n ps).pages ≡ unvoided g ps
  unfolding unvoided
  unvoids_by n l = run_all g torn n ps (mount_ops g ps) l

  is_clean : Kept g limit (unvoided g ps) tb G
  is_clean = subst (λ (qs : List Page). Kept g limit qs tb G) (unvoids_by m (omega arith)) (mount_clean g limit torn ch.part.marks ps rn.sizes m tb G rn.is (omega arith))

  marks_keep : (n : ℕ) → All (Sized g) (mounted_by g torn n ps).pages
  marks_keep n = run_sized g torn ch.torn_size (with_power n ps) (mount_ops g ps) (marks_sized g (void_pages g ps)) rn.sizes

  renewable : Renewable g limit B (unvoided g ps) tb G w
  renewable =
      record {
        is = is_clean.is;
        number = rn.number;
        sizes = subst (All (Sized g)) (unvoids_by m (omega arith)) (marks_keep m);
        length_is = ap length (sym (unvoids_by m (omega arith))) ∙ run_length g torn (with_power m ps) (mount_ops g ps) ∙ rn.length_is;
        fair = rn.fair;
        bare = rn.bare;
        root = rn.root;
        blocks = has_same g ps B ∙ rn.blocks;
      }

  renewed : Renews g limit B torn (unvoided g ps) tb G w Q
  renewed = subst (Renews g limit B torn (unvoided g ps) tb G w) (rebuild_same g ps limit B w) (renews ch least renewable is_clean)

  k_some : 0 < k
  k_some = omega (arith, renewed.cost, renewed.some)

  -- ---- the whole run: within the marks, or past them
  within : (n : ℕ) → n < m → I n ≡ (mounted_by g torn n ps).pages
  within n l = run_within g torn n ps (mount_ops g ps) (ops_of g G Q) l

  past : (n : ℕ) → m ≤ n → I n ≡ (run g torn (with_power (n - m) (unvoided g ps)) (ops_of g G Q)).pages
  unfolding unvoided
  past n l = run_past g torn n ps (mount_ops g ps) (ops_of g G Q) l

  abbrev NEW : NodesRead
  NEW = means (tab 0 limit (node_rebuilt g limit B ps G w)) (suc G)

  abbrev takes : ℕ → Bool
  takes n = takes_effect (get_or torn 0 0) n all_ops

  takes_within : (n : ℕ) → n < m → takes n ≡ false
  takes_within n l = ap (takes_effect (get_or torn 0 0) n) ops_are ∙ effect_within (get_or torn 0 0) n m k l k_some

  takes_past : (n : ℕ) → m ≤ n → takes n ≡ takes_effect (get_or torn 0 0) (n - m) k
  takes_past n l = ap (takes_effect (get_or torn 0 0) n) ops_are ∙ effect_past (get_or torn 0 0) n m k l

  is_cut_lem : (n : ℕ) → meaning g limit (I n) ≡ cond (takes n) NEW (means tb G)
  is_cut_lem n =
      cases (ltb n m)
      (λ t. let l = ltb-true n m t in
      ap (meaning g limit) (within n l) ∙ mount_keeps g limit torn ch.part.marks ps rn.sizes n ∙ rn.is
      ∙ sym (ap (λ (b : Bool). cond b NEW (means tb G)) (takes_within n l)))
      (λ t. let l = ltb-false n m t in
      ap (meaning g limit) (past n l) ∙ renewed.cut (n - m) ∙ sym (ap (λ (b : Bool). cond b NEW (means tb G)) (takes_past n l)))

  is_sized : (n : ℕ) → All (Sized g) (I n)
  is_sized n =
      cases (ltb n m)
      (λ t. subst (All (Sized g)) (sym (within n (ltb-true n m t))) (marks_keep n))
      (λ t. subst (All (Sized g)) (sym (past n (ltb-false n m t))) (renewed.sizes (n - m)))

  -- ---- room
  abbrev Roomy : List Node → ℕ → List Page → Type 0
  Roomy t c qs = Room g B (spare_blocks g B) t c (live_from g 0 qs)

  marks_room : (n : ℕ) → Roomy tb G ps → Roomy tb G (mounted_by g torn n ps).pages
  marks_room n r = room_marks g B (spare_blocks g B) torn ps tb G (void_pages g ps) (void_live g ps) (void_differ g ps) n r

  old_room : Roomy tb G ps → (n : ℕ) → Roomy tb G (I n)
  old_room r n =
      cases (ltb n m)
      (λ t. subst (Roomy tb G) (sym (within n (ltb-true n m t))) (marks_room n r))
      (λ t. subst (Roomy tb G) (sym (past n (ltb-false n m t)))
      (renewed.room_cut (subst (Roomy tb G) (unvoids_by m (omega arith)) (marks_room m r)) (n - m)))

  new_room : (n : ℕ) → takes n ≡ true → Roomy (tab 0 limit (node_rebuilt g limit B ps G w)) (suc G) (I n)
  new_room n e =
      cases (ltb n m) (λ t. clash e (takes_within n (ltb-true n m t)))
      (λ t. subst (Roomy (tab 0 limit (node_rebuilt g limit B ps G w)) (suc G)) (sym (past n (ltb-false n m t))) (renewed.room_done (n - m)))

  is_legal : Legal g ps (rebuild_ops g limit B ps G w)
  unfolding unvoided
  is_legal = legal_append g ps (mount_ops g ps) (ops_of g G Q) (mount_legal g ps) renewed.legal

  -- ---- the law
  pub rebuilds : RebuildSafe g limit B torn ps tb G w
  rebuilds =
      record {
        unvoids = unvoids_by;
        clean = is_clean;
        renewed = renewed;
        cut = is_cut_lem;
        kept = λ n l.
            subst (λ (qs : List Page). Kept g limit qs (tab 0 limit (node_rebuilt g limit B ps G w)) (suc G)) (sym (past n (omega (arith, ops_are))))
            (renewed.kept (n - m) (omega (arith, ops_are)));
        node = λ j l. ap (λ (s : Node). foldl (turn j) s (events limit (news_of g G Q))) (sym (kept_node g limit (unvoided g ps) tb G is_clean j fresh l));
        cost = omega (arith, ops_are, renewed.cost);
        few = omega (arith, ops_are, renewed.cost, renewed.pages_few);
        no_erase = λ b. erases_append b (mount_ops g ps) (ops_of g G Q) ∙ omega (arith, mount_erases g ps b, renewed.no_erase b);
        legal = is_legal;
        sizes = is_sized;
        long = λ n. run_length g torn (with_power n ps) (rebuild_ops g limit B ps G w);
        room_cut = old_room;
        room_done = new_room;
      }

-- with fewer than 255 marks, on a chip of 32 blocks at most: fewer operations than are always enough
pub rebuild_few : {g : Geometry} {limit B : ℕ} {torn : List ℕ} {ps : List Page} {tb : List Node} {G : ℕ} {w : ℕ → View} → RebuildSafe g limit B torn ps tb G w
    → length (mount_ops g ps) < 255 → B ≤ 32 → length (rebuild_ops g limit B ps G w) ≤ 2000
rebuild_few r h l = omega (arith, r.few)
