-- What a commit asks of chip, image and buffer. A commit of any pages of groups, each node in one group at most, into the head and unused blocks:
-- all that the cut law asks, room and bounds. Assumes nothing.
use mathlib.Core.Path.{◌≡◌, sym, ap, ◌∙◌, subst}
use mathlib.Core.Logic.{◌⊎◌, inl, inr}
use mathlib.Core.Bool.{true, false, cond}
use mathlib.Core.List.{List, [], ◌∷◌, map, foldl}
use Prim.Native.Nat.{ℕ, suc, ◌+◌, ◌*◌, ◌^◌, ◌≤◌, ◌<◌}
use native.Mathlib.Nat.{mul-le-mul_right}
use native.Mathlib.Omega.{arith}
use lib.ListN.{get_or, length, length-take, take}
use Rattle.lists.specs.Lists.{All, At, all, any, flat, tab, Diff, more, none}
use Rattle.lists.proofs.Alls.{All-filter, All-map, All-zip, All-append, All-head, All-tail}
use Rattle.lists.proofs.Sets.{All-pull, All-push, All-unflat, diff_take}
use Rattle.lists.proofs.Sorts.{All-sort, sort_All}
use Rattle.chip.specs.Geometry.{Geometry, Fits, page_size}
use Rattle.chip.specs.Page.{Page, blank}
use Rattle.chip.specs.Chip.{Legal, in_block, run}
use Rattle.chip.proofs.Runs.{with_power, Sized}
use Rattle.chip.specs.Power.{takes_effect}
use Rattle.pages.specs.declared.unit.Unit as U
use Rattle.pages.specs.declared.unit.Update.{Update}
use Rattle.pages.specs.declared.unit.Update.TheVariants.{Reset}
use Rattle.pages.specs.Units.{Valid, ValidUpdate}
use Rattle.pages.specs.Steps.{Live, before, commit, live_from}
use Rattle.pages.proofs.Settle.{run_same, top}
use Rattle.views.specs.Nodes.{apply}
use Rattle.views.specs.Table.{Node, events, is_well, meaning, means, turn}
use Rattle.views.specs.Groups.{Group, events_in, present, Distinct, Without, unit_for}
use Rattle.views.proofs.Groups.{Short, by_groups, list_anew, present_groups, updated_all, well_groups, well_is, alone, joined}
use Rattle.views.proofs.Meanings.{Kept, Opened, in_order, kept_well, node_in, opened}
use Rattle.views.proofs.Rooms.{Outside, Unlisted, still_unlisted}
use Rattle.views.proofs.ViewLaws.{Apart}
use Rattle.journal.specs.Commit.{Pack, Sheet, cleared, commit_ops, groups_of, new_pages, units_of_packs, ValidSheet, group_at, pages_from}
use Rattle.journal.specs.Plan.{erases, is_used, places, sheets, is_reclaimed}
use Rattle.journal.proofs.CommitBuilt.{NextCommit, events_new, length_new, planned, shows}
use Rattle.journal.proofs.CommitLaws.{cut_law, finished_kept}
use Rattle.journal.proofs.KindLaws.{length_ops}
use Rattle.journal.proofs.PlanBlocks.{Room, room_moved, is_unused, unused_outside, unused_unlisted}
use Rattle.journal.proofs.PlanLegal.{commit_legal}
use Rattle.journal.proofs.PlanLive.{run_lives}
use Rattle.journal.proofs.PlanNodes.{Fair, fair_whole}
use Rattle.journal.proofs.PlanSuits.{Suits}
use Rattle.journal.proofs.PlanPacks.{ApartPacks, Full, Lacks, Of, distinct_groups, length_sheets, sheets_groups, sheets_packs, ungroup}
use Rattle.journal.proofs.PlanPlaces.{In, places_blank, places_diff}

-- ---- what is asked of the chip: a part that fits, torn slices of a page, 8 B nodes
pub record Chip (g : Geometry) (limit B : ℕ) (torn : List ℕ) : Type 0 where
  pub part : Fits g
  pub torn_size : length torn ≡ page_size g
  pub lim : limit ≡ 8 * B

-- ---- what is asked of the image and the buffer
pub record Committable (g : Geometry) (limit B : ℕ) (ps : List Page) (tb : List Node) (G : ℕ) (us : List U.Unit) : Type 0 where
  pub kept : Kept g limit ps tb G
  pub number : suc G < 2 ^ 32
  pub sizes : All (Sized g) ps
  pub length_is : length ps ≡ B * g.pages
  pub valid : All (Valid limit) us
  pub fair : (n : ℕ) → n < limit → Fair (present n (node_in g limit ps n).now us)

-- ---- small laws
units_valid : (limit : ℕ) {p : List Pack} → All (λ k. (k.node < limit) × All ValidUpdate k.updates) p → All (Valid limit) (units_of_packs p)
units_valid limit none = none
units_valid limit (more {x = k} h hs) = All-append (go h.1) (units_valid limit hs)
  where
    go : {us : List Update} → All ValidUpdate us → All (Valid limit) (map (unit_for k.node) us)
    go none = none
    go (more v vs) = more (record { node = h.0; update = v }) (go vs)

short_node : (s : Node) (q : Group) (m : ℕ) → Short s (record { place = q.place; node = m; updates = q.updates }) → Short s q
short_node s q m (joined u us i h l) = joined u us i h l
short_node s q m (alone h) = alone h

short_at : (T : ℕ → Node) (us : List U.Unit) (f : ℕ → List Update) (n : ℕ) (q : Group) → q.updates ≡ f n → Suits T us f n
    → 0 < length q.updates → Short (T n) q
short_at T us f n q e h l =
    short_node (T n) q n (subst (λ (vs : List Update). Short (T n) (record { place = q.place; node = n; updates = vs })) (sym e) (h.short q.place (rw (← e) l)))

-- what holds of the places holds of the pages and groups there, and no place twice gives no page twice
pages_at_lem : {P : ℕ → Type 0} (g : Geometry) (c n k : ℕ) (ws : List ℕ) (pp : List (List Pack)) → All P ws
    → All (λ x. P x.place) (pages_from g c n k (sheets ws pp))
pages_at_lem g c n k [] pp h = none
pages_at_lem g c n k (w ∷ ws) [] h = none
pages_at_lem g c n k (w ∷ ws) (p ∷ pp) h = more (All-head h) (pages_at_lem g c n (suc k) ws pp (All-tail h))

pages_apart : (g : Geometry) (c n k : ℕ) (ws : List ℕ) (pp : List (List Pack)) → Diff ws → Apart (pages_from g c n k (sheets ws pp))
pages_apart g c n k [] pp d = tt
pages_apart g c n k (w ∷ ws) [] d = tt
pages_apart g c n k (w ∷ ws) (p ∷ pp) d = (pages_at_lem g c n (suc k) ws pp (All-map (λ p n e. n (sym e)) d.0), pages_apart g c n (suc k) ws pp d.1)

groups_one : (P : ℕ → Type 0) (p : ℕ) (j : List Pack) → P p → All (λ (q : Group). P q.place) (map (group_at p) j)
groups_one P p [] h = none
groups_one P p (k ∷ j) h = more h (groups_one P p j h)

groups_at : (P : ℕ → Type 0) (ws : List ℕ) (pp : List (List Pack)) → All P ws → All (λ (q : Group). P q.place) (groups_of (sheets ws pp))
groups_at P [] pp h = none
groups_at P (w ∷ ws) [] h = none
groups_at P (w ∷ ws) (p ∷ pp) h = All-append (groups_one P w p (All-head h)) (groups_at P ws pp (All-tail h))

-- ---- what is chosen: updates for each node, pages of them, the head, and unused blocks with places enough for the pages
pub record Choice (g : Geometry) (limit B : ℕ) (ps : List Page) (tb : List Node) (G : ℕ) (us : List U.Unit) : Type 0 where
  pub update : ℕ → List Update
  pub suits : (n : ℕ) → n < limit → Suits (node_in g limit ps) us update n
  -- the pages: no group but of these updates, each node once, none lost, and units that fit
  pub pages : List (List Pack)
  pub groups_of_lem : All (Of update limit) (flat (λ (p : List Pack). p) pages)
  pub groups_apart : ApartPacks (flat (λ (p : List Pack). p) pages)
  pub groups_lack : (n : ℕ) → n < limit → Lacks n (flat (λ (p : List Pack). p) pages) → update n ≡ []
  pub full : All (Full g.units) pages
  pub some : 0 < length pages
  pub few : length pages ≤ 4 * B
  -- the places
  pub head : ℕ
  pub blocks : List ℕ
  pub diff : Diff blocks
  pub are : All (λ b. (b < B) × (b ≡ head → ⊥) × (is_used g tb G (live_from g 0 ps) b ≡ false)) blocks
  pub enough : length pages ≤ length (places g ps head blocks)

-- ---- the commit
module _ {g : Geometry} {limit B : ℕ} {torn : List ℕ} (ch : Chip g limit B torn) {ps : List Page} {tb : List Node} {G : ℕ} {us : List U.Unit}
    (rd : Committable g limit B ps tb G us) (C : Choice g limit B ps tb G us) where
  -- what is written of each node, the head and the blocks
  abbrev f : ℕ → List Update
  f = C.update

  abbrev head : ℕ
  head = C.head

  abbrev bs : List ℕ
  bs = C.blocks

  -- the nodes that the image means
  abbrev pub T : ℕ → Node
  T = node_in g limit ps

  -- the pages and all their packs
  abbrev pub pp : List (List Pack)
  pp = C.pages

  abbrev pub ks : List Pack
  ks = flat (λ (p : List Pack). p) pp

  -- the places: one for each page, and one over where there is one
  abbrev pub ws : List ℕ
  ws = take (suc (length pp)) (places g ps head bs)

  -- the blocks that are erased
  abbrev pub es : List ℕ
  es = erases g ps ws bs

  -- the pages with their places, and as they are on the chip
  abbrev pub ts : List Sheet
  ts = sheets ws pp

  abbrev pub news : List Live
  news = new_pages g (suc G) ts

  -- what the image is known to be
  abbrev op : Opened g limit ps tb G
  op = opened g limit ps tb G rd.kept

  valid_pp : All (λ p. All (Valid limit) (units_of_packs p)) pp
  valid_pp = All-map (λ p h. units_valid limit h) (All-unflat pp (All-map (λ k o. (o.below, rw o.is (C.suits k.node o.below).valid)) C.groups_of_lem))

  -- each page has units that fit and obey the layout
  pub holds_ts : All (ValidSheet g limit) ts
  holds_ts =
      All-map (λ t h. record { few = h.0.1; some = h.0.0; valid = h.1 })
      (sheets_packs {P = λ p. Full g.units p × All (Valid limit) (units_of_packs p)} ws pp (All-zip (λ p a b. (a, b)) C.full valid_pp))

  -- a place for each page
  pub ws_many : length pp ≤ length ws
  ws_many = omega (arith, length-take (suc (length pp)) (places g ps head bs), C.enough)

  groups_are : map ungroup (groups_of ts) ≡ ks
  groups_are = sheets_groups ws pp ws_many

  -- no node has two groups
  pub distinct : Distinct (groups_of ts)
  distinct = distinct_groups (groups_of ts) (rw groups_are C.groups_apart)

  -- each group is one of f
  pub ofs : All (λ q. Of f limit (ungroup q)) (groups_of ts)
  ofs = All-pull {P = Of f limit} ungroup (groups_of ts) (rw groups_are C.groups_of_lem)

  acts : (m : ℕ) → m < limit → All (λ q. q.node ≡ m → foldl apply (T m).now q.updates ≡ present m (T m).now us) (groups_of ts)
  acts m l = All-map (λ q o e. ap (foldl apply (T m).now) (o.is ∙ ap f e) ∙ (C.suits m l).now) ofs

  -- of a node without a group nothing is written
  pub lacks : (m : ℕ) → m < limit → Without m (groups_of ts) → f m ≡ []
  lacks m l w = C.groups_lack m l (rw (← groups_are) (All-push ungroup (groups_of ts) w))

  shorts : (m : ℕ) → m < limit → All (λ q. q.node ≡ m → Short (T m) q) (groups_of ts)
  shorts m l = All-map (λ q o e. short_at T us f m q (o.is ∙ ap f e) (C.suits m l) o.some) ofs

  some_ts : 0 < length ts
  some_ts = rw (length_sheets ws pp ws_many) C.some

  well_ts : all is_well (tab 0 limit (λ m. foldl (turn m) (T m) (events_in (groups_of ts)))) ≡ true
  well_ts =
      well_groups limit T (groups_of ts) us distinct shorts
      (λ n l. (well_is (T n) (kept_well g limit ps tb G rd.kept n l)).1)
      (λ n l. present_groups n (groups_of ts) (T n) us distinct (acts n l) (λ w. (C.suits n l).covers (lacks n l w)))
      (λ n l. fair_whole (rd.fair n l))

  -- the pages are a next commit, with all views and lists well
  pub plan : NextCommit g limit T G news
  plan = planned g limit G rd.number ch.part.holds T ts holds_ts some_ts well_ts

  -- no place twice, and so no page twice
  pub ws_diff : Diff ws
  ws_diff = diff_take (suc (length pp)) (places g ps head bs) (places_diff g ps head bs C.diff (All-map (λ b h. h.1) C.are))

  pub apart : Apart news
  apart = pages_apart g (suc G) (length ts) 0 ws pp ws_diff

  -- a page of one of the B blocks is on the chip
  pub in_image : (b : ℕ) → b < B → (p : ℕ) → In g b p → p < length ps
  in_image b l p i =
      let m : suc b * g.pages ≤ B * g.pages = mul-le-mul_right g.pages l in
      omega (arith, i.1, rd.length_is)

  -- after the erases each page is written where all is 255
  pub free : All (λ x. At x.place (blank g) (cleared g es ps)) news
  free = pages_at_lem g (suc G) (length ts) 0 ws pp (places_blank g ps head bs (suc (length pp)) rd.sizes (All-map (λ b h. in_image b h.0) C.are))

  -- no list names a page of an erased block, and no page of commit G stands in one
  pub unlisted : All (Unlisted g limit T) es
  unlisted =
      All-filter (is_reclaimed g ps ws)
      (All-map (λ b h. unused_unlisted g limit T G (live_from g 0 ps) b (rw (← op.tables) h.2)) C.are)

  pub outside : All (Outside g G (in_order g ps)) es
  outside =
      All-filter (is_reclaimed g ps ws)
      (All-map (λ b h. All-sort before (unused_outside g limit T G (live_from g 0 ps) b (rw (← op.tables) h.2))) C.are)

  -- torn bytes for a whole data area
  pub area_torn : g.area ≤ length torn
  area_torn = omega (arith, ch.torn_size)

  -- the node n after the commit
  abbrev pub after_node : ℕ → Node
  after_node n = foldl (turn n) (T n) (events limit news)

  -- the image after n operations
  abbrev pub image : ℕ → List Page
  image n = (run g torn (with_power n ps) (commit_ops es news)).pages

  -- old or new, for every number of operations
  pub cut_safe : (n : ℕ) → meaning g limit (image n) ≡ cond (takes_effect (get_or torn 0 0) n (length (commit_ops es news))) (means (tab 0 limit after_node) (suc G)) (means tb G)
  cut_safe n = cut_law g limit torn ch.part.marks area_torn ps tb G rd.kept es news unlisted outside plan apart free n

  -- with all operations done: the new meaning, no void page
  pub kept_after : (n : ℕ) → length (commit_ops es news) ≤ n → Kept g limit (image n) (tab 0 limit after_node) (suc G)
  kept_after n l = finished_kept g limit torn ch.part.marks area_torn ps tb G rd.kept es news unlisted outside plan apart free n l

  -- the new views: those of the image and then the buffer
  pub views : (m : ℕ) → m < limit → (after_node m).now ≡ present m (T m).now us
  views m l = shows g limit G rd.number ch.part.holds T ts us m holds_ts distinct (acts m l) (λ w. (C.suits m l).covers (lacks m l w))

  -- an operation for each erase, three for each page
  pub cost_is : length (commit_ops es news) ≡ length es + 3 * length ts
  cost_is = omega (arith, length_ops es news, length_new g (suc G) (length ts) 0 ts)

  -- so few operations, and few pages
  pub ops_few : length (commit_ops es news) ≤ length es + 12 * B
  ops_few =
      omega (arith, length_ops es news, length_new g (suc G) (length ts) 0 ts, length_sheets ws pp ws_many, C.few)

  pub written_few : length ts ≤ 4 * B
  written_few = omega (arith, length_sheets ws pp ws_many, C.few)

  -- every operation is allowed on the chip
  pub legal : Legal g ps (commit_ops es news)
  legal =
      commit_legal g es news ps
      (All-filter (is_reclaimed g ps ws) (All-map (λ b h. on_chip b h.0) C.are)) plan.sizes free apart
    where
      on_chip : (b : ℕ) → b < B → b * g.pages + g.pages ≤ length ps
      on_chip b l = let m : suc b * g.pages ≤ B * g.pages = mul-le-mul_right g.pages l in omega (arith, rd.length_is)

  -- ---- room
  no_new : (b : ℕ) → All (λ p. in_block g b p ≡ false) ws → All (λ x. in_block g b x.place ≡ false) news
  no_new b h = pages_at_lem g (suc G) (length ts) 0 ws pp h

  under : All (λ x. commit x ≤ G) (live_from g 0 ps)
  under = sort_All before (live_from g 0 ps) (rw op.order (All-map (λ x k. omega (arith, op.good.last)) (top g op.s op.z op.good.is)))

  new_outside : (b n : ℕ) → All (λ p. in_block g b p ≡ false) ws → Outside g (suc G) (live_from g 0 (image n)) b
  new_outside b n h =
      run_lives g (λ x. commit x ≡ suc G → in_block g b x.place ≡ false) torn area_torn es news n ps plan.sizes free apart
      (All-map (λ x k e. k) (no_new b h)) (All-map (λ x k e. absurd (omega arith)) under)

  old_outside : (b n : ℕ) → Outside g G (live_from g 0 ps) b → Outside g G (live_from g 0 (image n)) b
  old_outside b n h =
      run_lives g (λ x. commit x ≡ G → in_block g b x.place ≡ false) torn area_torn es news n ps plan.sizes free apart
      (All-map (λ x k e. absurd (omega arith)) (run_same plan.run)) h

  -- cut: what was unused is unused
  pub room_old : (h n : ℕ) → Room g B h tb G (live_from g 0 ps) → Room g B h tb G (live_from g 0 (image n))
  room_old h n r = room_moved g B h tb G (live_from g 0 ps) (live_from g 0 (image n)) (λ b o. old_outside b n o) r

  -- done: blocks of which no list names a page and that got none are unused
  pub room_new : (h n : ℕ) (vs : List ℕ) → Diff vs → h ≤ length vs
      → All (λ b. (b < B) × Unlisted g limit after_node b × All (λ p. in_block g b p ≡ false) ws) vs
      → Room g B h (tab 0 limit after_node) (suc G) (live_from g 0 (image n))
  room_new h n vs d m a =
      record {
        blocks = vs;
        diff = d;
        many = m;
        are = All-map (λ b k. (k.0, is_unused g limit after_node (suc G) (live_from g 0 (image n)) b k.1 (new_outside b n k.2))) a;
      }

  -- a list that does not name block b, which gets no page, or of a node written anew
  pub left_unlisted : (b : ℕ) → All (λ p. in_block g b p ≡ false) ws → (n : ℕ) → n < limit
      → (any (in_block g b) (T n).pages ≡ false) ⊎ ((f n ≡ [] → (T n).pages ≡ []) × (0 < length (f n) → (l : ℕ) × (vs : List Update) × (f n ≡ Reset l ∷ vs)))
      → any (in_block g b) (after_node n).pages ≡ false
  left_unlisted b a n l (inl h) = still_unlisted (in_block g b) limit n (T n) news (no_new b a) h
  left_unlisted b a n l (inr h) =
      rw (events_new g limit G rd.number ch.part.holds (length ts) 0 holds_ts)
      (by_groups (λ (r : Node). any (in_block g b) r.pages ≡ false) n (groups_of ts) (T n) distinct
      (All-zip (λ q m o e. anew_one q m (o.is ∙ ap f e) o.some) (groups_at (λ p. in_block g b p ≡ false) ws pp a) ofs)
      (λ w. rw (h.0 (lacks n l w))))
    where
      anew_one : (q : Group) → in_block g b q.place ≡ false → q.updates ≡ f n → 0 < length q.updates
          → any (in_block g b) (updated_all q.place (T n) q.updates).pages ≡ false
      anew_one q m e s =
          let r = h.1 (omega (arith, ap length e)) in
          rw (e ∙ r.2, list_anew q.place (T n) r.0 r.1, m)
