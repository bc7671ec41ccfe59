-- The image and the state after a commit whose plan has pages, cut or finished. Assumes nothing.
use mathlib.Core.Path.{◌≡◌, refl, sym, ap, subst, ◌∙◌}
use mathlib.Core.Bool.{Bool, true, false, cond}
use mathlib.Core.List.{List, foldl}
use Prim.Native.Nat.{ℕ, suc, ◌+◌, ◌*◌, ◌≤◌, ◌<◌}
use native.Mathlib.Nat.{mul-le-mul_right}
use native.Mathlib.Omega.{arith}
use lib.Dec.{ltb}
use lib.ListN.{length, get_or}
use borrow.Author.Tests.{ltb-false, ltb-true}
use Rattle.lists.specs.Lists.{count, tab}
use Rattle.lists.proofs.Alls.{All-map}
use Rattle.lists.proofs.Flats.{tab_same, get_d_tab}
use Rattle.lists.proofs.Tests.{cases}
use Rattle.chip.specs.declared.progress.Progress.{Progress}
use Rattle.chip.specs.Geometry.{Geometry, Fits, blocks_of}
use Rattle.chip.specs.Power.{takes_effect}
use Rattle.chip.specs.Page.{Page, is_free}
use Rattle.chip.specs.Chip.{Machine, pages_of}
use Rattle.chip.specs.Erases.{erases_in, figures_after}
use Rattle.chip.specs.RunCode.{at_start, Ran}
use Rattle.chip.proofs.EraseLaws.{figure_grows}
use Rattle.pages.specs.declared.unit.Unit as U
use Rattle.views.specs.Groups.{present}
use Rattle.views.specs.Stored.{Stores}
use Rattle.views.specs.Table as Views
use Rattle.views.specs.Table.{Node, events, fresh, turn}
use Rattle.views.proofs.Meanings.{Kept, node_in, kept_node}
use Rattle.tree.specs.Tree.{Table}
use Rattle.tree.specs.Free.{free_numbers}
use Rattle.tree.specs.Step6.{step6}
use Rattle.tree.specs.Thick.{thin}
use Rattle.journal.specs.Plan.{Plan, is_empty, news_of, node_at, ops_of, spare_blocks}
use Rattle.journal.specs.Policy.{plan_of}
use Rattle.journal.proofs.EraseLaws.{commit_erases, erased_none, erased_on}
use Rattle.journal.proofs.AdmissibleLaws.{Safe, image_after, node_after}
use Rattle.journal.proofs.PolicyCommits.{rests_next}
use Rattle.promise.specs.Image.{views_of, by_six, image_meaning}
use Rattle.promise.specs.Calls as P
use Rattle.store.specs.declared.state.State.{State}
use Rattle.store.specs.FreshCode.{committed_state}
use Rattle.store.specs.State.{limit_of, nodes_of, paged, units_of, present_of, Good, Room, commit_ops, plan_at}
use Rattle.store.specs.Ensured.{the_ops}
use Rattle.store.proofs.SettledViews.{map_tab}
use Rattle.store.proofs.Settled.{Settled}
use Rattle.store.proofs.PlanRead.{paged_none, paged_some}
use Rattle.store.proofs.CommitGood.{good_chip, good_kept, good_long, good_plan, good_present, good_room, ops_none, ops_some, room_by}

-- the plan q done as far as the power goes; the lists with the pages of the plan noted; and the figures with its erases counted
pub record Executed (g : Geometry) (limit G : ℕ) (tb : List Node) (q : Plan) (torn : List ℕ) (p : Progress) (before after lens slots worn worn' : List ℕ) (reached : Progress) : Type 0 where
  pub ran : Ran g torn (ops_of g G q) p reached before after
  pub lists : (n : ℕ) → n < limit → Stores lens slots n (foldl (turn n) (node_at tb n) (events limit (news_of g G q))).pages
  pub figures : worn' ≡ figures_after (ops_of g G q) worn

-- ---- what the operations of the next commit are made of
same_nodes : {tb nx : List Node} {G H : ℕ} → Views.means tb G ≡ Views.means nx H → tb ≡ nx
same_nodes e = cc

same_number : {tb nx : List Node} {G H : ℕ} → Views.means tb G ≡ Views.means nx H → G ≡ H
same_number e = cc

same_ops : (g : Geometry) {B C : ℕ} {ps qs : List Page} {tb nx : List Node} {G H : ℕ} (us : List U.Unit) → B ≡ C → ps ≡ qs → tb ≡ nx → G ≡ H
    → ops_of g G (paged (plan_of g (8 * B) B ps tb G us)) ≡ ops_of g H (paged (plan_of g (8 * C) C qs nx H us))
same_ops g {B = B} {C = C} {ps = ps} {qs = qs} {tb = tb} {nx = nx} {G = G} us b p t ok =
    ap (λ (x : ℕ). ops_of g G (paged (plan_of g (8 * x) x ps tb G us))) b ∙ ap (λ (x : List Page). ops_of g G (paged (plan_of g (8 * C) C x tb G us))) p
    ∙ ap (λ (x : List Node). ops_of g G (paged (plan_of g (8 * C) C qs x G us))) t ∙ ap (λ (x : ℕ). ops_of g x (paged (plan_of g (8 * C) C qs nx x us))) ok

module _ (g : Geometry) (n : ℕ) (torn : List ℕ) (s : State) (i i' lens slots erases : List ℕ) (reached : Progress) (ok : Good g s i)
    (x : Executed g (limit_of s) s.commit (nodes_of g s i) (plan_at g s i) torn (at_start n) i i' lens slots s.erases erases reached) where
  abbrev ps : List Page
  ps = pages_of g i

  abbrev tb : List Node
  tb = nodes_of g s i

  -- ---- the pages
  after_pages_lem : pages_of g i' ≡ image_after g torn ps s.commit (plan_at g s i) n
  after_pages_lem = ap (λ (m : Machine). m.pages) x.ran.is

  after_blocks : s.blocks ≡ blocks_of g (length i')
  after_blocks = ok.blocks ∙ ap (blocks_of g) (sym x.ran.size)

  -- ---- the nodes with the pages of the commit
  abbrev pub next_node : ℕ → Node
  next_node k = node_after g (limit_of s) ps s.commit (plan_at g s i) k

  abbrev pub next_nodes : List Node
  next_nodes = tab 0 (limit_of s) next_node

  same_node : (k : ℕ) → k < limit_of s → node_at tb k ≡ node_in g (limit_of s) ps k
  same_node k l = kept_node g (limit_of s) ps tb s.commit (good_kept g s i ok) k fresh l

  next_at : (k : ℕ) → k < limit_of s → node_at next_nodes k ≡ foldl (turn k) (node_at tb k) (events (limit_of s) (news_of g s.commit (plan_at g s i)))
  next_at k l =
      get_d_tab next_node 0 (limit_of s) k fresh l ∙ ap next_node (let z : 0 + k ≡ k = omega arith in z)
      ∙ ap (λ (y : Node). foldl (turn k) y (events (limit_of s) (news_of g s.commit (plan_at g s i)))) (sym (same_node k l))

  next_stores : (k : ℕ) → k < limit_of s → Stores lens slots k (node_at next_nodes k).pages
  next_stores k l = subst (λ (y : Node). Stores lens slots k y.pages) (sym (next_at k l)) (x.lists k l)

  -- ---- a plan that is safe
  module _ (sf : Safe g (limit_of s) s.blocks (spare_blocks g s.blocks) torn ps tb s.commit (units_of s) (plan_at g s i)) where
    -- their views are P
    pub next_views : views_of next_nodes ≡ present_of g s i
    next_views =
        map_tab (λ (y : Node). y.now) next_node 0 (limit_of s)
        ∙ tab_same (λ k. (next_node k).now) (λ k. present k (node_at tb k).now (units_of s)) 0 (limit_of s)
        (λ k l. let m : k < limit_of s = omega arith in sf.views k m ∙ ap (λ (y : Node). present k y.now (units_of s)) (sym (same_node k m)))
        ∙ sym (good_present g s i ok)

    next_tree : step6 (views_of next_nodes) ≡ true
    next_tree = ap step6 next_views ∙ ok.tree.passes

    -- the commit counts
    abbrev takes : Bool
    takes = takes_effect (get_or torn 0 0) n (length (the_ops g s i))

    after_read : Views.meaning g (limit_of s) (pages_of g i') ≡ cond takes (Views.means next_nodes (suc s.commit)) (Views.means tb s.commit)
    after_read = ap (Views.meaning g (limit_of s)) after_pages_lem ∙ sf.cut n

    -- old or new
    pub after_meaning : image_meaning g i' ≡ cond takes (P.means (present_of g s i) (suc s.commit)) (image_meaning g i)
    unfolding image_meaning
    after_meaning =
        ap (λ (B : ℕ). by_six (Views.meaning g (8 * B) (pages_of g i'))) (sym after_blocks)
        ∙ ap by_six after_read ∙ go takes
      where
        new : by_six (Views.means next_nodes (suc s.commit)) ≡ P.means (present_of g s i) (suc s.commit)
        new = rw next_tree (ap (λ (t : Table). P.means t (suc s.commit)) next_views)

        go : (b : Bool) → by_six (cond b (Views.means next_nodes (suc s.commit)) (Views.means tb s.commit))
            ≡ cond b (P.means (present_of g s i) (suc s.commit)) (image_meaning g i)
        go true = new
        go false = ap by_six (sym ok.means) ∙ ap (λ (B : ℕ). by_six (Views.meaning g (8 * B) ps)) ok.blocks

    -- room for the next one
    pub after_room : Room g i → Room g i'
    after_room r = go takes after_read
      where
        go : (b : Bool) → Views.meaning g (limit_of s) (pages_of g i') ≡ cond b (Views.means next_nodes (suc s.commit)) (Views.means tb s.commit)
            → Room g i'
        go true q =
            room_by g i' s.blocks next_nodes (suc s.commit) after_blocks q (rw after_pages_lem (sf.room_done (good_room g s i ok r) n))
        go false q = room_by g i' s.blocks tb s.commit after_blocks q (rw after_pages_lem (sf.room_cut (good_room g s i ok r) n))

    -- a block past the chip is not erased
    pub after_past : (fit : Fits g) (b : ℕ) → s.blocks ≤ b → erases_in b (the_ops g s i) ≡ 0
    after_past fit b h =
        let l = good_long g s i ok fit in
        commit_erases b (plan_at g s i).erased (news_of g s.commit (plan_at g s i))
        ∙ erased_none b (plan_at g s i).erased (All-map (λ (k : ℕ) m q. let e : s.blocks ≤ k = omega arith in omega (arith, l, fit.many, mul-le-mul_right g.pages e)) (erased_on g (plan_at g s i).erased _ ps sf.legal))

    -- ---- finished
    module _ (enough : length (the_ops g s i) ≤ n) where
      finished : Kept g (limit_of s) (pages_of g i') next_nodes (suc s.commit)
      finished = rw after_pages_lem (sf.kept n enough)

      pub after_free : 0 < count is_free (pages_of g i')
      after_free = rw after_pages_lem (sf.page_free n enough)

      -- a state that is good for the image has the blocks, the nodes and the number of the commit
      next_blocks : (t : State) → Good g t i' → t.blocks ≡ s.blocks
      next_blocks t h = h.blocks ∙ sym after_blocks

      next_means : (t : State) → Good g t i' → Views.means (nodes_of g t i') t.commit ≡ Views.means next_nodes (suc s.commit)
      next_means t h = sym h.means ∙ ap (λ (B : ℕ). Views.meaning g (8 * B) (pages_of g i')) (next_blocks t h) ∙ finished.is

      abbrev next_plan : State → Plan
      next_plan t = plan_of g (limit_of s) s.blocks (image_after g torn ps s.commit (plan_at g s i) n) next_nodes (suc s.commit) (units_of t)

      next_ops : (t : State) → Good g t i'
          → the_ops g t i' ≡ ops_of g (suc s.commit) (paged (next_plan t))
      next_ops t h =
          let m = next_means t h in
          ap (ops_of g t.commit) (good_plan g t i' h) ∙ same_ops g (units_of t) (next_blocks t h) after_pages_lem (same_nodes m) (same_number m)

      -- and with updates pending it erases no block that the commit erased
      next_rests : (b : ℕ) → 0 < erases_in b (the_ops g s i) → (t : State) → Good g t i' → erases_in b (the_ops g t i') ≡ 0
      next_rests b e t h =
          ap (erases_in b) (next_ops t h)
          ∙ cases (is_empty (next_plan t).written)
          (λ y. ap (λ (q : Plan). erases_in b (ops_of g (suc s.commit) q)) (paged_none (next_plan t) y))
          (λ y. ap (λ (q : Plan). erases_in b (ops_of g (suc s.commit) q)) (paged_some (next_plan t) y)
          ∙ rests_next g (limit_of s) s.blocks (spare_blocks g s.blocks) torn ps tb s.commit (units_of s) (plan_at g s i) sf n enough (units_of t) b e)

      pub after_rests : (b : ℕ) → 0 < erases_in b (the_ops g s i) → (t : State) → Good g t i' → erases_in b (commit_ops g t i') ≡ 0
      after_rests b e t h =
          cases (ltb 0 t.pending)
          (λ p. ap (erases_in b) (ops_some g t i' (ltb-true 0 t.pending p)) ∙ next_rests b e t h)
          (λ p. let z = ltb-false 0 t.pending p in ap (erases_in b) (ops_none g t i' (omega arith)))

      pub after_settled : Fits g → ((j : ℕ) → get_or i' j 0 < 256) → Settled g (committed_state s lens slots erases) i' next_nodes
      after_settled fit bytes =
          let c = good_chip g s i ok in
          record {
            chip = record { blocks = after_blocks; least = c.least; most = c.most; size = x.ran.size ∙ c.size };
            bytes = bytes;
            means = finished.is ∙ ap (Views.means next_nodes) (let z : suc s.commit ≡ s.commit + 1 = omega arith in z);
            clean = finished.clean;
            tree = next_tree;
            thick = ap thin next_views ∙ ok.thick;
            lists = next_stores;
            free = ok.free ∙ ap free_numbers (sym next_views);
            pending = refl;
            count = refl;
            past = λ b l. let z = after_past fit b l in
                ap (λ (fs : List ℕ). get_or fs b 0) x.figures ∙ figure_grows (the_ops g s i) s.erases b (λ h. z) (omega (arith, z, ok.past b l)) ∙ omega (arith, z, ok.past b l);
          }
