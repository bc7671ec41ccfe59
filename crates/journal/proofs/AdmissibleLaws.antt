-- A commit by any admissible plan: few operations, cut_safe, legal, with views and lists as they must be, and it leaves room. Assumes nothing.
use mathlib.Core.Path.{◌≡◌, refl, sym, ap, ap₂, ◌∙◌, subst}
use mathlib.Core.Logic.{◌⊎◌, inl, inr, ⊎_elim}
use mathlib.Core.Bool.{Bool, true, false, cond, ◌&&◌, ◌||◌, not}
use mathlib.Core.List.{List, [], ◌∷◌, foldl}
use Prim.Native.Nat.{ℕ, zero, suc, ◌+◌, ◌*◌, ◌/◌, ◌≤◌, ◌<◌}
use native.Mathlib.Nat.{lt-div-mul-add}
use native.Mathlib.Omega.{arith}
use lib.Dec.{leb}
use lib.ListN.{get_or, length, take}
use lib.Seq.{length-take-le}
use borrow.Author.Tests.{not-true}
use Rattle.lists.specs.Lists.{All, all, any, count, filter, tab, Diff}
use Rattle.lists.proofs.Alls.{All-filter, All-head, All-map, All-zip, any_false}
use Rattle.lists.proofs.Filters.{filter_is}
use Rattle.lists.proofs.Flats.{length_tab}
use Rattle.lists.proofs.Tests.{and_left, and_right, cases, clash}
use Rattle.lists.proofs.Sets.{All-tab, Mem, diff_filter, filter_same, tab_at, tab_diff, tab_range, mem_at}
use Rattle.chip.specs.Geometry.{Geometry}
use Rattle.chip.specs.Page.{Page, is_free}
use Rattle.chip.specs.Chip.{Legal, in_block, run}
use Rattle.chip.proofs.Sizes.{pages_pos}
use Rattle.chip.proofs.Runs.{Sized, run_length, with_power}
use Rattle.chip.specs.Power.{takes_effect}
use Rattle.pages.specs.declared.unit.Unit as U
use Rattle.pages.specs.declared.unit.Update.{Update}
use Rattle.pages.specs.declared.unit.Update.TheVariants.{Reset}
use Rattle.pages.specs.Units.{Valid}
use Rattle.pages.specs.Steps.{live_from}
use Rattle.views.specs.Nodes.{apply}
use Rattle.views.specs.Table.{Node, fresh, is_well, meaning, means, events, turn}
use Rattle.views.specs.Groups.{is_reset, own, present, Distinct}
use Rattle.views.proofs.Meanings.{Kept, kept_node, node_in}
use Rattle.journal.specs.Commit.{Pack, groups_of, units_of_packs, ValidSheet}
use Rattle.journal.specs.Plan.{Plan, erases, count_from, head_block, is_used, news_of, node_at, ops_of, plan_on, rewrite, spare_blocks, is_reclaimed, wholly_free}
use Rattle.journal.specs.Admissible.{Admissible, Target, Assigned, Assignment, Contents, contents_of, unwritten, stays_unused, page_packs, all_packs, candidate_places, plan_from, in_page, unused_blocks, written_of}
use Rattle.journal.proofs.PlanBlocks.{Room, head_below, head_used, unused_all, unused_diff, unused_many}
use Rattle.journal.proofs.PlanBound.{erases_few, commit_sized}
use Rattle.journal.proofs.PlanNodes.{Fair, bare_node, nil_short, reset_first, rewrite_none, some_own}
use Rattle.journal.proofs.PlanSuits.{Suits, suits_anew, suits_own}
use Rattle.journal.proofs.PlanPacks.{length_sheets}
use Rattle.journal.proofs.AssignedChoice.{Chip, Choice, Committable, cost_is, cut_safe, distinct, holds_ts, kept_after, left_unlisted, legal, ops_few, plan, room_new, room_old, views, written_few}
use Rattle.journal.proofs.AssignedPages.{pages_apart, pages_lack, pages_of_lem}
use Rattle.journal.proofs.ContentsLaws.{SameAssignment, SameContents, contents_same, packs_same, page_same, written_same}
use Rattle.journal.proofs.AssignedRest.{page_left, rested}

-- ---- what a plan does
abbrev pub node_after : Geometry → ℕ → List Page → ℕ → Plan → ℕ → Node
node_after g limit ps G q n = foldl (turn n) (node_in g limit ps n) (events limit (news_of g G q))

abbrev pub image_after : Geometry → List ℕ → List Page → ℕ → Plan → ℕ → List Page
image_after g torn ps G q n = (run g torn (with_power n ps) (ops_of g G q)).pages

pub record Safe (g : Geometry) (limit B h : ℕ) (torn : List ℕ) (ps : List Page) (tb : List Node) (G : ℕ) (us : List U.Unit) (q : Plan) : Type 0 where
  -- old or new, by `takes_effect`, for every allowance n
  pub cut : (n : ℕ) → meaning g limit (image_after g torn ps G q n)
      ≡ cond (takes_effect (get_or torn 0 0) n (length (ops_of g G q))) (means (tab 0 limit (node_after g limit ps G q)) (suc G)) (means tb G)
  -- with enough power: the new meaning, no void page
  pub kept : (n : ℕ) → length (ops_of g G q) ≤ n → Kept g limit (image_after g torn ps G q n) (tab 0 limit (node_after g limit ps G q)) (suc G)
  -- the new views: K and then the buffer
  pub views : (m : ℕ) → m < limit → (node_after g limit ps G q m).now ≡ present m (node_in g limit ps m).now us
  -- no view broken, no list above 4
  pub lists : all is_well (tab 0 limit (node_after g limit ps G q)) ≡ true
  -- the cost is known from the plan: an erase for each block, each once, and three operations a page
  pub cost : length (ops_of g G q) ≡ length q.erased + 3 * length q.written
  pub erased_once : Diff q.erased
  -- no list names a page of a block that is erased, and no page of commit G stands in it
  pub erased_unused : All (λ b. is_used g tb G (live_from g 0 ps) b ≡ false) q.erased
  pub erases_few : length q.erased ≤ h
  pub few : length (ops_of g G q) ≤ 12 * B + h
  pub pages_few : length q.written ≤ 4 * B
  -- each page has units that fit it and obey the layout; each node's units stand in one page
  pub pages_hold : All (ValidSheet g limit) q.written
  pub once : Distinct (groups_of q.written)
  -- a program only where the data is all 255, every place on the chip
  pub legal : Legal g ps (ops_of g G q)
  -- room for the next commit, whichever of the two the image means
  pub room_cut : Room g B h tb G (live_from g 0 ps) → (n : ℕ) → Room g B h tb G (live_from g 0 (image_after g torn ps G q n))
  pub room_done : Room g B h tb G (live_from g 0 ps) → (n : ℕ)
      → Room g B h (tab 0 limit (node_after g limit ps G q)) (suc G) (live_from g 0 (image_after g torn ps G q n))
  -- the image keeps its size
  pub sizes : (n : ℕ) → All (Sized g) (image_after g torn ps G q n)
  pub long : (n : ℕ) → length (image_after g torn ps G q n) ≡ length ps
  -- a finished commit leaves a page free, and the next one, by whichever plan, erases no block that this one erased
  pub page_free : (n : ℕ) → length (ops_of g G q) ≤ n → 0 < count is_free (image_after g torn ps G q n)
  pub rests : (n : ℕ) → length (ops_of g G q) ≤ n → (N : Contents) (A : Assignment)
      → All (λ b. Mem b (plan_from g limit B (image_after g torn ps G q n) (tab 0 limit (node_after g limit ps G q)) (suc G) N A).erased → ⊥) q.erased

-- ---- no plan erases a block that is used or wholly free
no_erase : (g : Geometry) (ps : List Page) (ws bs : List ℕ) (tb : List Node) (G b : ℕ) → All (λ c. is_used g tb G (live_from g 0 ps) c ≡ false) bs
    → (is_used g tb G (live_from g 0 ps) b ≡ true) ⊎ (wholly_free g ps b ≡ true) → Mem b (erases g ps ws bs) → ⊥
no_erase g ps ws bs tb G b a s m =
    ⊎_elim {C = ⊥} (λ u. clash u (mem_at m (All-filter (is_reclaimed g ps ws) a)))
    (λ w. clash (and_right (any (in_block g b) ws) (not (wholly_free g ps b)) (mem_at m (filter_is (is_reclaimed g ps ws) bs))) (ap not w)) s

pub no_plan : (g : Geometry) (limit B : ℕ) (ps : List Page) (tb : List Node) (G : ℕ) (N : Contents) (A : Assignment) (b : ℕ) → head_block g ps < B
    → (is_used g tb G (live_from g 0 ps) b ≡ true) ⊎ (wholly_free g ps b ≡ true) → Mem b (plan_from g limit B ps tb G N A).erased → ⊥
no_plan g limit B ps tb G N A b l s m =
    no_erase g ps (take (suc (length (all_packs N A limit))) (candidate_places g B ps tb G)) (unused_blocks g B ps tb G) tb G b
    (All-map (λ c h. h.2) (unused_all g B tb G (live_from g 0 ps) (head_block g ps) l)) s m

-- a node without buffered units of which something is written begins with its reset
pub filled_reset : (T : ℕ → Node) (us : List U.Unit) (a : ℕ → Bool) (n : ℕ) → Fair (present n (T n).now us) → own n us ≡ [] → 0 < length (written_of (contents_of T us) a n)
    → (l : ℕ) × (vs : List Update) × (written_of (contents_of T us) a n ≡ Reset l ∷ vs)
filled_reset T us a n f e h =
    cases (a n) (λ t. reset_first f (written_of (contents_of T us) a n) (rw t) h)
    (λ t. let o : written_of (contents_of T us) a n ≡ own n us = rw t in absurd (omega (arith, ap length o, ap length e)))

-- ---- the two forms
module _ (T : ℕ → Node) (us : List U.Unit) (limit : ℕ) (valids : All (Valid limit) us) (n : ℕ) (fair : Fair (present n (T n).now us)) (f : ℕ → List Update) where
  suits_by : (a : ℕ → Bool) → f n ≡ written_of (contents_of T us) a n
      → (0 < length (own n us) → (any is_reset (own n us) || leb 4 (length (T n).pages)) ≡ true → a n ≡ true) → Suits T us f n
  suits_by a e h =
      cases (a n) (λ t. suits_anew T us n f fair (e ∙ rw t))
      (λ t. suits_own T us n f valids (e ∙ rw t) (λ l. cases (any is_reset (own n us) || leb 4 (length (T n).pages)) (λ b. clash (h l b) t) (λ b. b)))

-- where a node has a page there is one
pub assigned_some : (c : ℕ) (s : Target) → Assigned c s → 0 < c
assigned_some c unwritten x = absurd x
assigned_some c (in_page q) x = omega arith

-- ---- the pages of an admissible plan
module _ {g : Geometry} {limit B : ℕ} {torn : List ℕ} (ch : Chip g limit B torn) {ps : List Page} {tb : List Node} {G : ℕ} {us : List U.Unit}
    (rd : Committable g limit B ps tb G us) (pending : 0 < length us) (A : Assignment) (ad : Admissible g limit B ps tb G (contents_of (node_in g limit ps) us) A) where
  -- the nodes of the image, what is written of each, and the pages
  abbrev T : ℕ → Node
  T = node_in g limit ps

  abbrev f : ℕ → List Update
  f = written_of (contents_of T us) A.is_anew

  abbrev pp : List (List Pack)
  pp = all_packs (contents_of T us) A limit

  -- the head, and the blocks that a snapshot needs
  abbrev hd : ℕ
  hd = head_block g ps

  abbrev h : ℕ
  h = spare_blocks g B

  pp_count : length pp ≡ A.count
  pp_count = length_tab (page_packs f A.target limit) 0 A.count

  hd_below : hd < B
  hd_below = head_below g limit B ps tb G rd.kept (pages_pos g ch.part) rd.length_is

  suits_node : (n : ℕ) → n < limit → Suits T us f n
  suits_node n l = suits_by T us limit rd.valid n (rd.fair n l) f A.is_anew refl (ad.forced n l)

  some_page : 0 < A.count
  some_page = go us refl
    where
      go : (vs : List U.Unit) → us ≡ vs → 0 < A.count
      go [] e = absurd (omega (arith, ap length e))
      go (v ∷ vs) e =
          let b : v.node < limit = (All-head (subst (All (Valid limit)) e rd.valid)).node in
          let o : own v.node us ≡ [] → ⊥ = λ z. some_own vs v (ap (own v.node) (sym e) ∙ z) in
          assigned_some A.count (A.target v.node) (ad.assigned v.node b (nil_short (f v.node) (λ z. o ((suits_node v.node b).covers z))))

  choice : Choice g limit B ps tb G us
  choice =
      record {
        update = f;
        suits = suits_node;
        pages = pp;
        groups_of_lem = pages_of_lem f A.target limit A.count;
        groups_apart = pages_apart f A.target limit 0 A.count;
        groups_lack = λ n l a. pages_lack f A.target limit A.count n l (ad.assigned n l) a;
        full = All-tab _ (page_packs f A.target limit) 0 A.count (λ p l. (ad.some p (omega (arith, l)), ad.fits p (omega (arith, l))));
        some = omega (arith, pp_count, some_page);
        few = omega (arith, pp_count, ad.few);
        head = hd;
        blocks = unused_blocks g B ps tb G;
        diff = unused_diff g B tb G (live_from g 0 ps) hd hd_below;
        are = unused_all g B tb G (live_from g 0 ps) hd hd_below;
        enough = omega (arith, pp_count, ad.enough);
      }

  -- the plan and its places
  abbrev Q : Plan
  Q = plan_from g limit B ps tb G (contents_of T us) A

  abbrev W : List ℕ
  W = take (suc (length pp)) (candidate_places g B ps tb G)

  next_head : (n : ℕ) → length (ops_of g G Q) ≤ n → head_block g (image_after g torn ps G Q n) < B
  unfolding choice
  next_head n l =
      head_below g limit B (image_after g torn ps G Q n) (tab 0 limit (node_after g limit ps G Q)) (suc G)
      (kept_after ch rd choice n l) (pages_pos g ch.part)
      (run_length g torn (with_power n ps) (ops_of g G Q) ∙ rd.length_is)

  -- 4 B pages and one more fit h blocks
  pages_fit : suc (length pp) ≤ h * g.pages
  pages_fit =
      let q : 4 * B < 4 * B / g.pages * g.pages + g.pages = lt-div-mul-add (pages_pos g ch.part) in
      omega (arith, pp_count, ad.few)

  few_erased : length Q.erased ≤ h
  few_erased =
      erases_few g ps hd h (suc (length pp)) (unused_blocks g B ps tb G) (unused_diff g B tb G (live_from g 0 ps) hd hd_below)
      (All-map (λ b a. a.1) (unused_all g B tb G (live_from g 0 ps) hd hd_below)) pages_fit

  -- a page of the plan for each of its count
  pub written_count : length Q.written ≡ A.count
  written_count =
      length_sheets W pp (omega (arith, pp_count, length-take-le (suc (length pp)) (candidate_places g B ps tb G) (omega (arith, pp_count, ad.enough)))) ∙ pp_count

  -- ---- room again
  abbrev stays : ℕ → Bool
  stays b = stays_unused g limit (contents_of T us) A.is_anew W b

  named : ℕ → ℕ → Bool
  named b n = not (A.is_anew n) && any (in_block g b) (T n).pages

  left_node : (b n : ℕ) → n < limit → named b n ≡ false
      → (any (in_block g b) (T n).pages ≡ false) ⊎ ((f n ≡ [] → (T n).pages ≡ []) × (0 < length (f n) → (l : ℕ) × (vs : List Update) × (f n ≡ Reset l ∷ vs)))
  unfolding named
  left_node b n l e =
      cases (A.is_anew n)
      (λ t. let r : f n ≡ rewrite (present n (T n).now us) = rw t in
      inr (
        λ z. let o : own n us ≡ [] = (suits_node n l).covers z in
            let p : (T n).now ≡ present n (T n).now us = ap (foldl apply (T n).now) (sym o) in
            bare_node g limit ps n (p ∙ rewrite_none (rd.fair n l) (sym r ∙ z)),
        λ m. reset_first (rd.fair n l) (f n) r m,
      ))
      (λ t. inl (rw t at e))

  left_all : (b : ℕ) → stays b ≡ true → (n : ℕ) → n < limit → named b n ≡ false
  unfolding named
  left_all b e n l =
      tab_at (λ (m : ℕ). (not (A.is_anew m) && any (in_block g b) (T m).pages) ≡ false) (λ (i : ℕ). i) 0 limit n
      (any_false (λ (m : ℕ). not (A.is_anew m) && any (in_block g b) (T m).pages) (count_from 0 limit)
      (not-true (any (λ (m : ℕ). not (A.is_anew m) && any (in_block g b) (T m).pages) (count_from 0 limit)) (and_right (not (any (in_block g b) W)) _ e)))
      (omega arith) (omega arith)

  left_places : (b : ℕ) → stays b ≡ true → All (λ p. in_block g b p ≡ false) W
  left_places b e = any_false (in_block g b) W (not-true (any (in_block g b) W) (and_left (not (any (in_block g b) W)) _ e))

  room_again : Room g B h tb G (live_from g 0 ps) → (n : ℕ)
      → Room g B h (tab 0 limit (node_after g limit ps G Q)) (suc G) (live_from g 0 (image_after g torn ps G Q n))
  unfolding choice
  room_again room n =
      let m : h ≤ length (unused_blocks g B ps tb G) =
      unused_many g B tb G (live_from g 0 ps) hd hd_below h (head_used g limit B ps tb G rd.kept (pages_pos g ch.part) rd.length_is) room in
      let l : h ≤ length (filter stays (count_from 0 B)) =
      subst (λ (c : ℕ). h ≤ length (filter (stays_unused g limit (contents_of T us) A.is_anew (take (suc c) (candidate_places g B ps tb G))) (count_from 0 B))) (sym pp_count) (ad.leaves m) in
      room_new ch rd choice h n (filter stays (count_from 0 B)) (diff_filter stays (count_from 0 B) (tab_diff 0 B)) l
      (All-zip (λ b r e. let w = left_places b e in (omega (arith, r.1), λ j k. left_unlisted ch rd choice b w j k (left_node b j k (left_all b e j k)), w))
      (All-filter stays (tab_range 0 B)) (filter_is stays (count_from 0 B)))

  -- all of it, for the nodes of the image
  pub safe_nodes : Safe g limit B h torn ps tb G us Q
  unfolding choice
  safe_nodes =
      record {
        cut = cut_safe ch rd choice;
        kept = kept_after ch rd choice;
        views = views ch rd choice;
        lists = (plan ch rd choice).well;
        cost = cost_is ch rd choice;
        erased_once = diff_filter (is_reclaimed g ps W) (unused_blocks g B ps tb G) choice.diff;
        erased_unused = All-filter (is_reclaimed g ps W) (All-map (λ b a. a.2) choice.are);
        erases_few = few_erased;
        few = omega (arith, ops_few ch rd choice, few_erased);
        pages_few = written_few ch rd choice;
        pages_hold = holds_ts ch rd choice;
        once = distinct ch rd choice;
        legal = legal ch rd choice;
        sizes = λ n. commit_sized g torn Q.erased (news_of g G Q) ps n ch.torn_size (plan ch rd choice).sizes rd.sizes;
        long = λ n. run_length g torn (with_power n ps) (ops_of g G Q);
        page_free = page_left ch rd choice (omega (arith, pp_count, ad.enough));
        rests = λ n l N D.
            All-map
            (λ b s m. no_plan g limit B (image_after g torn ps G Q n) (tab 0 limit (node_after g limit ps G Q)) (suc G) N D b (next_head n l) s m)
            (rested ch rd choice n (tab 0 limit (node_after g limit ps G Q)) l);
        room_cut = λ room n. room_old ch rd choice h n room;
        room_done = room_again;
      }

-- ---- contents and assignment of the nodes from limit on do not count
pub plan_below : (g : Geometry) (limit B : ℕ) (ps : List Page) (tb : List Node) (G : ℕ) (N M : Contents) (A C : Assignment)
    → SameContents limit N M → SameAssignment limit A C → plan_from g limit B ps tb G N A ≡ plan_from g limit B ps tb G M C
plan_below g limit B ps tb G N M A C e d = ap (plan_on g ps (head_block g ps) (unused_blocks g B ps tb G)) (packs_same limit N M A C e d)

stays_same : (g : Geometry) (limit : ℕ) (N M : Contents) (a c : ℕ → Bool) (ws : List ℕ) (b : ℕ) → SameContents limit N M → ((n : ℕ) → n < limit → a n ≡ c n)
    → stays_unused g limit N a ws b ≡ stays_unused g limit M c ws b
stays_same g limit N M a c ws b e d =
    ap (λ (x : Bool). not (any (in_block g b) ws) && not x) (go 0 limit (λ n l. (e.listed n (omega (arith, l))).blocks g b) (λ n l. d n (omega (arith, l))))
  where
    go : (k m : ℕ) → ((n : ℕ) → n < k + m → any (in_block g b) (N.listed n) ≡ any (in_block g b) (M.listed n)) → ((n : ℕ) → n < k + m → a n ≡ c n)
        → any (λ (n : ℕ). not (a n) && any (in_block g b) (N.listed n)) (count_from k m) ≡ any (λ (n : ℕ). not (c n) && any (in_block g b) (M.listed n)) (count_from k m)
    go k zero w v = refl
    go k (suc m) w v =
        ap₂ ◌||◌ (ap₂ (λ (x y : Bool). not x && y) (v k (omega arith)) (w k (omega arith)))
        (go (suc k) m (λ n l. w n (omega arith)) (λ n l. v n (omega arith)))

-- and what was admissible is so still
pub admissible_below : (g : Geometry) (limit B : ℕ) (ps : List Page) (tb : List Node) (G : ℕ) (N M : Contents) (A C : Assignment)
    → SameContents limit N M → SameAssignment limit A C → Admissible g limit B ps tb G N A → Admissible g limit B ps tb G M C
admissible_below g limit B ps tb G N M A C e d ad =
    let u : (n : ℕ) → n < limit → written_of N A.is_anew n ≡ written_of M C.is_anew n =
    λ n l. written_same N M A.is_anew C.is_anew n (e.after n l) (e.buffered n l) (d.is_anew n l) in
    let pg : (p : ℕ) → page_packs (written_of N A.is_anew) A.target limit p ≡ page_packs (written_of M C.is_anew) C.target limit p =
    λ p. page_same (written_of N A.is_anew) (written_of M C.is_anew) A.target C.target limit p u d.target in
    let W : List ℕ = take (suc A.count) (candidate_places g B ps tb G) in
    record {
      assigned = λ n l s. subst (Assigned C.count) (d.target n l)
          (subst (λ (c : ℕ). Assigned c (A.target n)) d.count (ad.assigned n l (omega (arith, ap length (u n l)))));
      forced = λ n l s t. sym (d.is_anew n l)
          ∙ ad.forced n l (omega (arith, ap length (e.buffered n l)))
          (ap₂ (λ (os : List Update) (size : ℕ). any is_reset os || leb 4 size) (e.buffered n l) (e.listed n l).size ∙ t);
      some = λ p l. omega (arith, ad.some p (omega (arith, d.count)), ap (λ (k : List Pack). length (units_of_packs k)) (pg p));
      fits = λ p l. omega (arith, ad.fits p (omega (arith, d.count)), ap (λ (k : List Pack). length (units_of_packs k)) (pg p));
      few = omega (arith, d.count, ad.few);
      enough = omega (arith, d.count, ad.enough);
      leaves = λ m.
          subst (λ (c : ℕ). spare_blocks g B ≤ length (filter (stays_unused g limit M C.is_anew (take (suc c) (candidate_places g B ps tb G))) (count_from 0 B))) d.count
          (subst (λ (k : List ℕ). spare_blocks g B ≤ length k)
          (filter_same (stays_unused g limit N A.is_anew W) (stays_unused g limit M C.is_anew W) {xs = count_from 0 B} (All-map (λ b r. stays_same g limit N M A.is_anew C.is_anew W b e d.is_anew) (tab_range 0 B)))
          (ad.leaves m));
    }

-- so nodes that are the same below limit: the same plan, and still admissible
same_assignment : (limit : ℕ) (A : Assignment) → SameAssignment limit A A
same_assignment limit A = record { count = refl; target = λ n l. refl; is_anew = λ n l. refl }

pub plan_same : (g : Geometry) (limit B : ℕ) (ps : List Page) (tb : List Node) (G : ℕ) (T S : ℕ → Node) (us : List U.Unit) (A : Assignment)
    → ((n : ℕ) → n < limit → T n ≡ S n) → plan_from g limit B ps tb G (contents_of T us) A ≡ plan_from g limit B ps tb G (contents_of S us) A
plan_same g limit B ps tb G T S us A e =
    plan_below g limit B ps tb G (contents_of T us) (contents_of S us) A A (contents_same limit T S us e) (same_assignment limit A)

pub admissible_same : (g : Geometry) (limit B : ℕ) (ps : List Page) (tb : List Node) (G : ℕ) (T S : ℕ → Node) (us : List U.Unit) (A : Assignment)
    → ((n : ℕ) → n < limit → T n ≡ S n) → Admissible g limit B ps tb G (contents_of T us) A → Admissible g limit B ps tb G (contents_of S us) A
admissible_same g limit B ps tb G T S us A e ad =
    admissible_below g limit B ps tb G (contents_of T us) (contents_of S us) A A (contents_same limit T S us e) (same_assignment limit A) ad

-- ---- the law: any admissible plan for the table of the image
pub safe : (g : Geometry) (limit B : ℕ) (torn : List ℕ) → Chip g limit B torn → (ps : List Page) (tb : List Node) (G : ℕ) (us : List U.Unit)
    → Committable g limit B ps tb G us → 0 < length us → (A : Assignment) → Admissible g limit B ps tb G (contents_of (node_at tb) us) A
    → Safe g limit B (spare_blocks g B) torn ps tb G us (plan_from g limit B ps tb G (contents_of (node_at tb) us) A)
safe g limit B torn ch ps tb G us rd pending A ad =
    let e : (n : ℕ) → n < limit → node_at tb n ≡ node_in g limit ps n = λ n l. kept_node g limit ps tb G rd.kept n fresh l in
    subst (Safe g limit B (spare_blocks g B) torn ps tb G us) (sym (plan_same g limit B ps tb G (node_at tb) (node_in g limit ps) us A e))
    (safe_nodes ch rd pending A (admissible_same g limit B ps tb G (node_at tb) (node_in g limit ps) us A e ad))
