-- The commit of a rebuild on an image without void pages: cut_safe, legal, without an erase, with the views asked for, and it makes room. Assumes nothing.
use mathlib.Core.Path.{◌≡◌, refl, sym, ap, ap₂, ◌∙◌, subst}
use mathlib.Core.Logic.{inr}
use mathlib.Core.Bool.{Bool, true, false, cond, not}
use mathlib.Core.List.{List, [], ◌∷◌}
use Prim.Native.Nat.{ℕ, suc, ◌*◌, ◌^◌, ◌≤◌, ◌<◌}
use native.Mathlib.Omega.{arith}
use lib.Dec.{eqb}
use lib.ListN.{get_or, length, take}
use borrow.Author.Tests.{eqb-false, not-true}
use Rattle.lists.specs.Lists.{All, Diff, all, any, count, filter, flat, tab}
use Rattle.lists.proofs.Alls.{All-filter, All-head, All-map, All-tail, All-take, All-zip, any_false}
use Rattle.lists.proofs.Filters.{filter_is, filter_parts}
use Rattle.lists.proofs.Flats.{length_tab}
use Rattle.lists.proofs.Sets.{All-tab, at_most, diff_filter, eqb_mem, mem_at, tab_diff, tab_range}
use Rattle.chip.specs.Geometry.{Geometry}
use Rattle.chip.specs.Page.{Page}
use Rattle.chip.specs.Chip.{Legal, in_block}
use Rattle.chip.specs.Erases.{erases_in}
use Rattle.chip.specs.Power.{takes_effect}
use Rattle.chip.proofs.Runs.{Sized, run_length, with_power}
use Rattle.pages.specs.declared.unit.Unit as U
use Rattle.pages.specs.declared.unit.Update.{Update}
use Rattle.pages.specs.Steps.{live_from}
use Rattle.views.specs.Nodes.{View, untouched}
use Rattle.views.specs.Table.{Node, fresh, is_well, meaning, means}
use Rattle.views.specs.Groups.{Distinct, present}
use Rattle.views.proofs.Meanings.{Kept, kept_node, node_in}
use Rattle.journal.specs.Commit.{Pack, Sheet, ValidSheet, groups_of, units_of_packs}
use Rattle.journal.specs.Plan.{Plan, count_from, news_of, node_at, ops_of, pages_in, places, plan_on, rewrite, sheets, spare_blocks, wholly_free}
use Rattle.journal.specs.Admissible.{Assigned, Contents, all_packs, page_packs, written_of}
use Rattle.journal.specs.Packing.{Packing, snapshot_packing}
use Rattle.journal.specs.Policy.{assignment_of, sizes_of}
use Rattle.journal.specs.Rebuild.{contents_anew, eighth, free_blocks, free_places, has_free_blocks, rebuild_plan}
use Rattle.journal.proofs.PackingLaws.{load}
use Rattle.journal.proofs.PlanBlocks.{Room}
use Rattle.journal.proofs.PlanBound.{commit_sized}
use Rattle.journal.proofs.PlanKept.{spare_few}
use Rattle.journal.proofs.PlanNodes.{Fair, bare_node, length_rewrite, nil_short, reset_first, rewrite_none}
use Rattle.journal.proofs.PlanSuits.{suits_anew}
use Rattle.journal.proofs.PlanPacks.{length_sheets}
use Rattle.journal.proofs.PlanPlaces.{Origin, new, old, out_block, places_from}
use Rattle.journal.proofs.PolicyLaws.{Result, is_assigned, page_load, snapshot_few, updates_size}
use Rattle.journal.proofs.AdmissibleLaws.{assigned_some, image_after, node_after}
use Rattle.journal.proofs.AssignedChoice.{Chip, Choice, Committable, cost_is, cut_safe, distinct, holds_ts, kept_after, left_unlisted, legal, plan, room_new, room_old, views, written_few, ws, ws_many}
use Rattle.journal.proofs.AssignedPages.{pages_apart, pages_lack, pages_of_lem}
use Rattle.journal.proofs.EraseLaws.{commit_erases}
use Rattle.journal.proofs.RebuildBlocks.{erases_none, first_diff, first_free, first_many, free_unused, places_free, places_many, sheets_take}
use Rattle.journal.proofs.RebuildBuffer.{buffer_anew, present_anew, valid_anew}

-- ---- what the plan q of a rebuild to the views w does
pub record Renews (g : Geometry) (limit B : ℕ) (torn : List ℕ) (ps : List Page) (tb : List Node) (G : ℕ) (w : ℕ → View) (q : Plan) : Type 0 where
  -- old or new, by `takes_effect`, for every allowance n
  pub cut : (n : ℕ) → meaning g limit (image_after g torn ps G q n)
      ≡ cond (takes_effect (get_or torn 0 0) n (length (ops_of g G q))) (means (tab 0 limit (node_after g limit ps G q)) (suc G)) (means tb G)
  -- with enough power: the new meaning, no void page
  pub kept : (n : ℕ) → length (ops_of g G q) ≤ n → Kept g limit (image_after g torn ps G q n) (tab 0 limit (node_after g limit ps G q)) (suc G)
  -- the new views are w, none broken, and no list is above 4
  pub views : (m : ℕ) → m < limit → (node_after g limit ps G q m).now ≡ w m
  pub lists : all is_well (tab 0 limit (node_after g limit ps G q)) ≡ true
  -- three operations a page, 1 to 4 B pages, no erase
  pub cost : length (ops_of g G q) ≡ 3 * length q.written
  pub some : 0 < length q.written
  pub pages_few : length q.written ≤ 4 * B
  pub no_erase : (b : ℕ) → erases_in b (ops_of g G q) ≡ 0
  -- each page has units that fit it and obey the layout; each node's units stand in one page
  pub pages_hold : All (ValidSheet g limit) q.written
  pub once : Distinct (groups_of q.written)
  pub legal : Legal g ps (ops_of g G q)
  -- the image keeps its size
  pub sizes : (n : ℕ) → All (Sized g) (image_after g torn ps G q n)
  pub long : (n : ℕ) → length (image_after g torn ps G q n) ≡ length ps
  -- cut, what room there was stays; done, there is room, whatever there was
  pub room_cut : Room g B (spare_blocks g B) tb G (live_from g 0 ps) → (n : ℕ) → Room g B (spare_blocks g B) tb G (live_from g 0 (image_after g torn ps G q n))
  pub room_done : (n : ℕ) → Room g B (spare_blocks g B) (tab 0 limit (node_after g limit ps G q)) (suc G) (live_from g 0 (image_after g torn ps G q n))

-- ---- what is asked: an image with enough wholly free blocks, and fair views, one of node 0, and none untouched that was touched
pub record Renewable (g : Geometry) (limit B : ℕ) (ps : List Page) (tb : List Node) (G : ℕ) (w : ℕ → View) : Type 0 where
  pub is : meaning g limit ps ≡ means tb G
  pub number : suc G < 2 ^ 32
  pub sizes : All (Sized g) ps
  pub length_is : length ps ≡ B * g.pages
  pub fair : (n : ℕ) → n < limit → Fair (w n)
  pub bare : (n : ℕ) → n < limit → w n ≡ untouched → (node_at tb n).now ≡ untouched
  pub root : w 0 ≡ untouched → ⊥
  pub blocks : has_free_blocks g B ps ≡ true

module _ {g : Geometry} {limit B : ℕ} {torn : List ℕ} (ch : Chip g limit B torn) (least : 3 ≤ B)
    {ps : List Page} {tb : List Node} {G : ℕ} {w : ℕ → View} (rn : Renewable g limit B ps tb G w) (k : Kept g limit ps tb G) where
  -- the nodes of the image, and the buffer
  abbrev T : ℕ → Node
  T = node_in g limit ps

  abbrev us : List U.Unit
  us = buffer_anew w limit

  bare_now : (n : ℕ) → n < limit → w n ≡ untouched → (T n).now ≡ untouched
  bare_now n l e = ap (λ (s : Node). s.now) (sym (kept_node g limit ps tb G k n fresh l)) ∙ rn.bare n l e

  present_is : (n : ℕ) → n < limit → present n (T n).now us ≡ w n
  present_is n l = present_anew w limit n (T n).now l (rn.fair n l) (bare_now n l)

  ready : Committable g limit B ps tb G us
  ready =
      record {
        kept = k;
        number = rn.number;
        sizes = rn.sizes;
        length_is = rn.length_is;
        valid = valid_anew w limit rn.fair;
        fair = λ n l. subst Fair (sym (present_is n l)) (rn.fair n l);
      }

  -- ---- the pages: every node anew, packed as those of a snapshot
  abbrev N : Contents
  N = contents_anew w

  abbrev S : Packing
  S = snapshot_packing (sizes_of g N) limit

  few_anew : (n : ℕ) → n < limit → length (rewrite (w n)) ≤ 17
  few_anew n l = length_rewrite (rn.fair n l)

  result : Result (sizes_of g N) limit (λ (n : ℕ). true) S
  result = snapshot_few g N limit few_anew ch.part.nodes

  abbrev f : ℕ → List Update
  f = written_of N S.is_anew

  f_is : (n : ℕ) → f n ≡ rewrite (w n)
  f_is n = rw (result.good.kept n refl)

  abbrev pp : List (List Pack)
  pp = all_packs N (assignment_of S) limit

  pp_count : length pp ≡ length S.rooms
  pp_count = length_tab (page_packs f S.target limit) 0 (length S.rooms)

  page_is : (p : ℕ) → length (units_of_packs (page_packs f S.target limit p)) ≡ load (sizes_of g N) limit S p
  page_is p = page_load (sizes_of g N) f S (updates_size g N limit few_anew ch.part.nodes S.is_anew) limit p

  has_page : (n : ℕ) → n < limit → 0 < length (f n) → Assigned (length S.rooms) (S.target n)
  has_page n l s =
      is_assigned (length S.rooms) (S.target n)
      (result.done n l (omega (arith, s, updates_size g N limit few_anew ch.part.nodes S.is_anew n))) (result.good.below n)

  some_page : 0 < length S.rooms
  some_page =
      let l : 0 < limit = omega (arith, ch.lim) in
      assigned_some (length S.rooms) (S.target 0)
      (has_page 0 l (nil_short (f 0) (λ z. rn.root (rewrite_none (rn.fair 0 l) (sym (f_is 0) ∙ z)))))

  few_pages : length S.rooms ≤ 4 * B
  few_pages = omega (arith, result.few, ch.lim)

  -- ---- the places: all pages of the first wholly free blocks, b and bs
  module _ (b : ℕ) (bs : List ℕ) (e : take (eighth B) (free_blocks g B ps) ≡ b ∷ bs) where
    are_free : All (λ c. (c < B) × (wholly_free g ps c ≡ true)) (b ∷ bs)
    are_free = subst (All (λ c. (c < B) × (wholly_free g ps c ≡ true))) e (first_free g B ps)

    are_diff : Diff (b ∷ bs)
    are_diff = subst Diff e (first_diff g B ps)

    places_are : places g ps b bs ≡ free_places g B ps
    places_are = places_free g ps b bs (All-head are_free).1 ∙ ap (flat (pages_in g)) (sym e)

    choice : Choice g limit B ps tb G us
    choice =
        record {
          update = f;
          suits = λ n l. suits_anew T us n f (ready.fair n l) (f_is n ∙ ap rewrite (sym (present_is n l)));
          pages = pp;
          groups_of_lem = pages_of_lem f S.target limit (length S.rooms);
          groups_apart = pages_apart f S.target limit 0 (length S.rooms);
          groups_lack = λ n l a. pages_lack f S.target limit (length S.rooms) n l (has_page n l) a;
          full = All-tab _ (page_packs f S.target limit) 0 (length S.rooms)
              (λ p l. (omega (arith, page_is p, result.good.some p (omega (arith, l))), omega (arith, page_is p, result.good.free p)));
          some = omega (arith, pp_count, some_page);
          few = omega (arith, pp_count, few_pages);
          head = b;
          blocks = bs;
          diff = are_diff.1;
          are = All-zip (λ c m d. (m.0, λ z. d (sym z), free_unused g limit ps tb G k c m.1)) (All-tail are_free) are_diff.0;
          enough = omega (arith, pp_count, few_pages, ap length places_are, places_many g B ps ch.part rn.blocks);
        }

    -- the plan of the choice is that of the rebuild
    pub plan_is : plan_on g ps b bs pp ≡ rebuild_plan g limit B ps w
    unfolding rebuild_plan
    plan_is =
        let W : List ℕ = take (suc (length pp)) (places g ps b bs) in
        ap₂ (λ (es : List ℕ) (ts : List Sheet). record { erased = es; written = ts })
        (erases_none g ps b bs W (All-map (λ c m. m.1) (All-tail are_free)))
        (sheets_take (suc (length pp)) (places g ps b bs) pp (omega arith) ∙ ap (λ (ws : List ℕ). sheets ws pp) places_are)

    -- ---- room: the other blocks
    abbrev taken : ℕ → Bool
    taken c = any (eqb c) (b ∷ bs)

    abbrev others : List ℕ
    others = filter (λ (c : ℕ). not (taken c)) (count_from 0 B)

    many_others : spare_blocks g B ≤ length others
    many_others =
        let a : length (filter taken (count_from 0 B)) ≤ length (b ∷ bs) =
        at_most (filter taken (count_from 0 B)) (b ∷ bs) (diff_filter taken (count_from 0 B) (tab_diff 0 B)) (All-map (λ c t. eqb_mem c (b ∷ bs) t) (filter_is taken (count_from 0 B))) in
        omega (arith, a, ap length e, first_many g B ps rn.blocks, filter_parts taken (count_from 0 B), length_tab (λ (i : ℕ). i) 0 B, spare_few g ch.part B)

    others_out : All (λ c. (c < B) × All (λ d. d ≡ c → ⊥) (b ∷ bs)) others
    others_out =
        All-zip
        (λ c r t. (omega (arith, r.1), All-map (λ d n z. eqb-false c d n (sym z)) (any_false (eqb c) (b ∷ bs) (not-true (taken c) t))))
        (All-filter (λ (c : ℕ). not (taken c)) (tab_range 0 B)) (filter_is (λ (c : ℕ). not (taken c)) (count_from 0 B))

    -- they get no page
    misses : (c : ℕ) → All (λ d. d ≡ c → ⊥) (b ∷ bs) → All (λ p. in_block g c p ≡ false) (take (suc (length pp)) (places g ps b bs))
    misses c a = All-take (suc (length pp)) (All-map (λ p o. go p o) (places_from g ps b bs))
      where
        go : (p : ℕ) → Origin g ps b bs p → in_block g c p ≡ false
        go p (old i f) = out_block g b c p i (All-head a)
        go p (new d m i) = out_block g d c p i (mem_at m (All-tail a))

    -- and no list names a page of theirs: every node is written anew
    anew_unnamed : (c : ℕ) → All (λ d. d ≡ c → ⊥) (b ∷ bs) → (n : ℕ) → n < limit → any (in_block g c) (node_after g limit ps G (plan_on g ps b bs pp) n).pages ≡ false
    unfolding choice
    anew_unnamed c a n l =
        left_unlisted ch ready choice c (misses c a) n l
        (inr (
          λ z. bare_node g limit ps n (bare_now n l (rewrite_none (rn.fair n l) (sym (f_is n) ∙ z))),
          λ m. reset_first (rn.fair n l) (f n) (f_is n) m,
        ))

    nothing_erased : (plan_on g ps b bs pp).erased ≡ []
    nothing_erased = erases_none g ps b bs (take (suc (length pp)) (places g ps b bs)) (All-map (λ c m. m.1) (All-tail are_free))

    renews_on : Renews g limit B torn ps tb G w (plan_on g ps b bs pp)
    unfolding choice
    renews_on =
        let Q : Plan = plan_on g ps b bs pp in
        record {
          cut = cut_safe ch ready choice;
          kept = kept_after ch ready choice;
          views = λ m l. views ch ready choice m l ∙ present_is m l;
          lists = (plan ch ready choice).well;
          cost = omega (arith, cost_is ch ready choice, ap length nothing_erased);
          some = omega (arith, length_sheets (ws ch ready choice) pp (ws_many ch ready choice), pp_count, some_page);
          pages_few = written_few ch ready choice;
          no_erase = λ c. commit_erases c Q.erased (news_of g G Q) ∙ ap (count (eqb c)) nothing_erased;
          pages_hold = holds_ts ch ready choice;
          once = distinct ch ready choice;
          legal = legal ch ready choice;
          sizes = λ n. commit_sized g torn Q.erased (news_of g G Q) ps n ch.torn_size (plan ch ready choice).sizes rn.sizes;
          long = λ n. run_length g torn (with_power n ps) (ops_of g G Q);
          room_cut = λ room n. room_old ch ready choice (spare_blocks g B) n room;
          room_done = λ n. room_new ch ready choice (spare_blocks g B) n others (diff_filter (λ (c : ℕ). not (taken c)) (count_from 0 B) (tab_diff 0 B)) many_others
              (All-map (λ c m. (m.0, anew_unnamed c m.1, misses c m.1)) others_out);
        }

  -- ---- the law
  pub renews : Renews g limit B torn ps tb G w (rebuild_plan g limit B ps w)
  renews = go (take (eighth B) (free_blocks g B ps)) refl
    where
      go : (fs : List ℕ) → take (eighth B) (free_blocks g B ps) ≡ fs → Renews g limit B torn ps tb G w (rebuild_plan g limit B ps w)
      go [] e = absurd (omega (arith, ap length e, first_many g B ps rn.blocks))
      go (b ∷ bs) e = subst (Renews g limit B torn ps tb G w) (plan_is b bs e) (renews_on b bs e)
