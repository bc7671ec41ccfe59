-- The policy's plans are admissible, and with room there is one. Assumes nothing.
use mathlib.Core.Path.{◌≡◌, refl, sym, ap, ap₂, ◌∙◌, subst}
use mathlib.Core.Bool.{Bool, true, false, cond, ◌&&◌, ◌||◌, not}
use mathlib.Core.List.{List, [], ◌∷◌, ◌++◌, map, foldl, append_assoc}
use Prim.Native.Nat.{ℕ, zero, suc, ◌+◌, ◌-◌, ◌*◌, ◌/◌, ◌≤◌, ◌<◌}
use native.Mathlib.Nat.{lt-div-mul-add}
use native.Mathlib.Omega.{arith}
use lib.Dec.{eqb, leb, ltb}
use lib.ListN.{drop, length, length-append, length-drop, take, take-append-drop}
use lib.Seq.{length-take-le, take-append-le}
use borrow.Author.Tests.{ltb-true, eqb-false, le-leb, leb-false, leb-true, lt-ltb, ltb-false, not-true}
use Rattle.lists.specs.Lists.{All, any, filter, flat, more, none, Diff}
use Rattle.lists.proofs.Alls.{All-drop, All-filter, All-head, All-map, All-tail, All-take, All-zip, any_false, false_any}
use Rattle.lists.proofs.Filters.{filter_is, filter_parts}
use Rattle.lists.proofs.Flats.{flat_append, length_tab}
use Rattle.lists.proofs.Tests.{and_intro, cases, clash}
use Rattle.lists.proofs.Sets.{at_most, diff_drop, diff_filter, diff_split, eqb_mem, length_take_n, mem_at, mem_filter, tab_at, tab_diff, tab_mem, tab_range}
use Rattle.chip.specs.Geometry.{Geometry}
use Rattle.chip.specs.Page.{Page}
use Rattle.chip.specs.Chip.{in_block}
use Rattle.chip.proofs.Sizes.{pages_pos}
use Rattle.pages.specs.declared.unit.Unit as U
use Rattle.pages.specs.declared.unit.Update.{Update}
use Rattle.pages.specs.Steps.{live_from}
use Rattle.views.specs.Table.{Node, fresh}
use Rattle.views.specs.Groups.{is_reset, own, present, unit_for}
use Rattle.views.proofs.Meanings.{kept_node, node_in, opened}
use Rattle.journal.specs.Commit.{Pack, units_of_packs}
use Rattle.journal.specs.Plan.{free_at, count_from, head_block, is_used, keep, node_at, pages_in, places, rewrite, spare_blocks}
use Rattle.journal.specs.Admissible.{Admissible, Target, Assigned, Assignment, Contents, contents_of, unwritten, stays_unused, page_packs, candidate_places, in_page, goes_to, unused_blocks, written_of}
use Rattle.journal.specs.Packing.{Packing, Sizes, delta_packing, fill_node, filled, is_unwritten, pack_node, packed, size_of, snapshot_packing, unpacked, widen_node, widened}
use Rattle.journal.specs.Policy.{Decision, assignment_of, decide, follow, has_places, in_first, is_forced, nothing, sizes_of, used_blocks}
use Rattle.journal.proofs.PlanBlocks.{Room, head_below, head_used, unused_all, unused_diff, unused_many, unused_unlisted}
use Rattle.journal.proofs.PlanNodes.{Fair, length_rewrite}
use Rattle.journal.proofs.PlanSuits.{Suits, suits_anew}
use Rattle.journal.proofs.PlanPacks.{size_units}
use Rattle.journal.proofs.PlanPlaces.{Origin, length_places, new, old, out_block, places_from}
use Rattle.journal.proofs.PackingLaws.{Below, Done, Fine, Good, Half, empty, fill_count, fill_good, fill_still, filled_length, load, pack_done, pack_good, pack_half, pack_still, with_page, share, sum, sum_most, widen_count, widen_good, widen_still}
use Rattle.journal.proofs.ContentsLaws.{below_all}
use Rattle.journal.proofs.AssignedChoice.{Chip, Committable}

-- ---- folds
fold_keeps : (P : Packing → Type 0) (limit : ℕ) (step : Packing → ℕ → Packing) → ((S : Packing) (n : ℕ) → n < limit → P S → P (step S n))
    → {ns : List ℕ} → All (λ n. n < limit) ns → (S : Packing) → P S → P (foldl step S ns)
fold_keeps P limit step k none S h = h
fold_keeps P limit step k (more {x = n} l ls) S h = fold_keeps P limit step k ls (step S n) (k S n l h)

sum_zero : (h : ℕ → ℕ) (k m : ℕ) → ((n : ℕ) → h n ≡ 0) → sum h k m ≡ 0
sum_zero h k zero e = refl
sum_zero h k (suc m) e = omega (arith, e k, sum_zero h (suc k) m e)

below_some : (q : ℕ → Bool) (limit : ℕ) → All (λ n. n < limit) (filter q (count_from 0 limit))
below_some q limit = All-filter q (below_all limit)

-- ---- the packing
-- good, every node with units to write has a page, and few pages
pub record Result (z : Sizes) (limit : ℕ) (forced : ℕ → Bool) (S : Packing) : Type 0 where
  pub good : Good z limit forced S
  pub done : (n : ℕ) → n < limit → Done z S n
  pub few : 2 * length S.rooms ≤ suc limit

module _ {z : Sizes} {limit : ℕ} {forced : ℕ → Bool} {c : ℕ} (fine : Fine z limit forced c) where
  abbrev start : Packing
  start = unpacked forced

  record Part (S : Packing) : Type 0 where
    good : Good z limit forced S
    half : Half c S.rooms (with_page limit S)

  start_part : Part start
  start_part =
      record {
        good = record {
          below = λ n. tt;
          some = λ p l. absurd (omega arith);
          free = λ p. omega (arith, sum_zero (λ (n : ℕ). share z p unwritten (forced n) n) 0 limit (λ n. refl));
          kept = λ n e. e;
        };
        half = record { groups = 0; singles = 0; is = empty; most = omega arith; single = omega arith };
      }

  pack_part : (S : Packing) (n : ℕ) → n < limit → Part S → Part (pack_node z S n)
  pack_part S n l h = record { good = pack_good fine S n l h.good; half = pack_half fine S n l h.good h.half }

  -- the nodes that must be anew are packed first
  abbrev firsts : Packing
  firsts = foldl (pack_node z) start (filter forced (count_from 0 limit))

  packed_part : Part (packed z forced limit)
  packed_part =
      fold_keeps Part limit (pack_node z) pack_part (below_all limit) firsts
      (fold_keeps Part limit (pack_node z) pack_part (below_some forced limit) start start_part)

  done_stays : (ns : List ℕ) (S : Packing) (m : ℕ) → Done z S m → Done z (foldl (pack_node z) S ns) m
  done_stays [] S m d = d
  done_stays (n ∷ ns) S m d = done_stays ns (pack_node z S n) m (pack_still fine S n m d)

  done_all : (ns : List ℕ) (S : Packing) → All (Done z (foldl (pack_node z) S ns)) ns
  done_all [] S = none
  done_all (n ∷ ns) S = more (done_stays ns (pack_node z S n) n (pack_done fine S n)) (done_all ns (pack_node z S n))

  half_few : (S : Packing) → Half c S.rooms (with_page limit S) → 2 * length S.rooms ≤ suc limit
  half_few S h =
      omega (
        arith,
        filled_length h.is,
        h.most,
        h.single,
        sum_most (λ (n : ℕ). cond (is_unwritten (S.target n)) 0 1) 0 limit (λ n. cases (is_unwritten (S.target n)) (λ t. rw t (omega arith)) (λ t. rw t (omega arith))),
      )

  -- the packing by first fit is such a one
  pub packed_result : Result z limit forced (packed z forced limit)
  packed_result =
      record {
        good = packed_part.good;
        done = λ n l. tab_at (Done z (packed z forced limit)) (λ (i : ℕ). i) 0 limit n (done_all (count_from 0 limit) firsts) (omega arith) (omega arith);
        few = half_few (packed z forced limit) packed_part.half;
      }

  -- each way of filling keeps it, in any order
  pub widened_result : (depth : ℕ → ℕ) (d : ℕ) (S : Packing) → Result z limit forced S → Result z limit forced (widened z depth limit d S)
  widened_result depth d S r =
      fold_keeps (Result z limit forced) limit (widen_node z)
      (λ K n l k. record { good = widen_good fine K n l k.good; done = λ m b. widen_still fine K n m (k.done m b); few = omega (arith, k.few, widen_count fine K n) })
      (below_some (λ (n : ℕ). eqb (depth n) d) limit) S r

  -- and so does filling with any nodes
  pub filled_result : (aged : ℕ → Bool) (S : Packing) → Result z limit forced S → Result z limit forced (filled z aged limit S)
  filled_result aged S r =
      fold_keeps (Result z limit forced) limit (fill_node z)
      (λ K n l k. record { good = fill_good fine K n l k.good; done = λ m b. fill_still fine K n m (k.done m b); few = omega (arith, k.few, fill_count fine K n) })
      (below_some aged limit) S r

  -- so a delta, too
  pub delta_result : (depth : ℕ → ℕ) (aged : ℕ → Bool) → Result z limit forced (delta_packing z forced depth aged limit)
  delta_result depth aged =
      let a = packed z forced limit in
      let b = widened z depth limit 3 a in
      let e = filled z aged limit b in
      let f = widened z depth limit 2 e in
      widened_result depth 1 f (widened_result depth 2 e (filled_result aged b (widened_result depth 3 a packed_result)))

  -- filling adds no page
  pub delta_count : (depth : ℕ → ℕ) (aged : ℕ → Bool) → length (delta_packing z forced depth aged limit).rooms ≡ length (packed z forced limit).rooms
  delta_count depth aged =
      let a = packed z forced limit in
      let b = widened z depth limit 3 a in
      let e = filled z aged limit b in
      let f = widened z depth limit 2 e in
      wide 1 f ∙ wide 2 e ∙ fold_count (fill_node z) (fill_count fine) (filter aged (count_from 0 limit)) b ∙ wide 3 a
    where
      fold_count : (step : Packing → ℕ → Packing) → ((S : Packing) (n : ℕ) → length (step S n).rooms ≡ length S.rooms) → (ns : List ℕ) (S : Packing)
          → length (foldl step S ns).rooms ≡ length S.rooms
      fold_count step k [] S = refl
      fold_count step k (n ∷ ns) S = fold_count step k ns (step S n) ∙ k S n

      wide : (d : ℕ) (S : Packing) → length (widened z depth limit d S).rooms ≡ length S.rooms
      wide d S = fold_count (widen_node z) (widen_count fine) (filter (λ (n : ℕ). eqb (depth n) d) (count_from 0 limit)) S

-- ---- the units of a page are its load
module _ (z : Sizes) (f : ℕ → List Update) (S : Packing) (is : (n : ℕ) → length (f n) ≡ size_of z (S.is_anew n) n) where
  length_keep : (n : ℕ) (us : List Update) → length (units_of_packs (keep n us [])) ≡ length us
  length_keep n [] = refl
  length_keep n (u ∷ us) = omega (arith, size_units (record { node = n; updates = u ∷ us }) [])

  cell : ℕ → ℕ → List Pack
  cell p n = cond (goes_to p (S.target n)) (keep n (f n) []) []

  length_cell : (p n : ℕ) → length (units_of_packs (cell p n)) ≡ share z p (S.target n) (S.is_anew n) n
  unfolding cell
  length_cell p n = cases (goes_to p (S.target n)) (λ t. rw t (length_keep n (f n) ∙ is n)) (λ t. rw t)

  units_load : (p k m : ℕ) → length (units_of_packs (flat (cell p) (count_from k m))) ≡ sum (λ (n : ℕ). share z p (S.target n) (S.is_anew n) n) k m
  units_load p k zero = refl
  units_load p k (suc m) =
      ap length (flat_append (λ (j : Pack). map (unit_for j.node) j.updates) (cell p k) (flat (cell p) (count_from (suc k) m)))
      ∙ length-append (units_of_packs (cell p k)) (units_of_packs (flat (cell p) (count_from (suc k) m)))
      ∙ ap₂ ◌+◌ (length_cell p k) (units_load p (suc k) m)

  -- so of a page of all nodes
  pub page_load : (limit p : ℕ) → length (units_of_packs (page_packs f S.target limit p)) ≡ load z limit S p
  unfolding cell
  page_load limit p = units_load p 0 limit

-- ---- small laws
third : (a b c : Bool) → (a || c) ≡ true → (a || (b || c)) ≡ true
third true b c e = refl
third false true c e = refl
third false false c e = e

no_second : (a b c : Bool) → (a || (b || c)) ≡ false → b ≡ false
no_second true b c e = clash refl e
no_second false true c e = e
no_second false false c e = refl

pub is_assigned : (c : ℕ) (x : Target) → is_unwritten x ≡ false → Below c x → Assigned c x
is_assigned c unwritten e b = clash refl e
is_assigned c (in_page p) e b = b

-- ---- what the policy reads of nodes that are 17 units at most is fine
module _ (g : Geometry) (N : Contents) (limit : ℕ) (few : (n : ℕ) → n < limit → length (rewrite (N.after n)) ≤ 17) (big : 34 ≤ g.units) where
  -- own units that are not forced are fewer than the node anew
  part_less : (n : ℕ) → is_forced N n ≡ false → 0 < length (N.buffered n) → length (N.buffered n) < length (rewrite (N.after n))
  part_less n e h =
      let t = lt-ltb 0 (length (N.buffered n)) h in
      leb-false (length (rewrite (N.after n))) (length (N.buffered n))
      (no_second (any is_reset (N.buffered n)) (leb (length (rewrite (N.after n))) (length (N.buffered n))) (leb 4 (length (N.listed n))) (rw t at e))

  -- 17 units at most of a node, anew or where it need not be
  pub delta_fine : Fine (sizes_of g N) limit (is_forced N) 17
  delta_fine =
      record {
        two = omega arith;
        whole = few;
        part = λ n l e. cases (ltb 0 (length (N.buffered n)))
            (λ t. omega (arith, few n l, part_less n e (ltb-true 0 (length (N.buffered n)) t))) (λ t. omega (arith, ltb-false 0 (length (N.buffered n)) t));
        touched = λ n l e h. omega (arith, part_less n e h);
      }

  -- and of each node anew
  pub snapshot_fine : Fine (sizes_of g N) limit (λ (n : ℕ). true) 17
  snapshot_fine = record { two = omega arith; whole = few; part = λ n l e. clash refl e; touched = λ n l e. clash refl e }

  -- so a delta and a snapshot have few pages, and no page too many units
  pub delta_few : (depth : ℕ → ℕ) (aged : ℕ → Bool) → Result (sizes_of g N) limit (is_forced N) (delta_packing (sizes_of g N) (is_forced N) depth aged limit)
  delta_few depth aged = delta_result delta_fine depth aged

  pub snapshot_few : Result (sizes_of g N) limit (λ (n : ℕ). true) (snapshot_packing (sizes_of g N) limit)
  snapshot_few = packed_result snapshot_fine

  -- the sizes are those of the updates
  pub updates_size : (a : ℕ → Bool) (n : ℕ) → length (written_of N a n) ≡ size_of (sizes_of g N) (a n) n
  updates_size a n = cases (a n) (λ t. rw t) (λ t. rw t)

  -- a page of such a packing has as many units as were counted for it
  pub packing_fits : (forced : ℕ → Bool) (S : Packing) → Result (sizes_of g N) limit forced S → (p : ℕ)
      → length (units_of_packs (page_packs (written_of N S.is_anew) S.target limit p)) ≤ g.units
  packing_fits forced S r p = omega (arith, page_load (sizes_of g N) (written_of N S.is_anew) S (updates_size S.is_anew) limit p, r.good.free p)

-- ---- a packing is admissible where its pages have places in the head and in the first k unused blocks, and it leaves blocks
module _ {g : Geometry} {limit B : ℕ} {torn : List ℕ} (ch : Chip g limit B torn) {ps : List Page} {tb : List Node} {G : ℕ} {us : List U.Unit}
    (rd : Committable g limit B ps tb G us) where
  abbrev T : ℕ → Node
  T = node_at tb

  same : (n : ℕ) → n < limit → T n ≡ node_in g limit ps n
  same n l = kept_node g limit ps tb G rd.kept n fresh l

  fair : (n : ℕ) → n < limit → Fair (present n (T n).now us)
  fair n l = subst (λ (s : Node). Fair (present n s.now us)) (sym (same n l)) (rd.fair n l)

  -- a node anew: at most 17 updates, valid, which show it as the buffer leaves it
  few_anew : (n : ℕ) → n < limit → length (rewrite (present n (T n).now us)) ≤ 17
  few_anew n l = length_rewrite (fair n l)

  pub fits : (n : ℕ) → n < limit → Suits T us (λ (m : ℕ). rewrite (present m (T m).now us)) n
  fits n l = suits_anew T us n (λ (m : ℕ). rewrite (present m (T m).now us)) (fair n l) refl

  -- the head, the unused blocks, and how many a snapshot needs
  abbrev hd : ℕ
  hd = head_block g ps

  abbrev un : List ℕ
  un = unused_blocks g B ps tb G

  abbrev h : ℕ
  h = spare_blocks g B

  hd_below : hd < B
  hd_below = head_below g limit B ps tb G rd.kept (pages_pos g ch.part) rd.length_is

  un_all : All (λ b. (b < B) × (b ≡ hd → ⊥) × (is_used g tb G (live_from g 0 ps) b ≡ false)) un
  un_all = unused_all g B tb G (live_from g 0 ps) hd hd_below

  un_diff : Diff un
  un_diff = unused_diff g B tb G (live_from g 0 ps) hd hd_below

  unnamed : (b : ℕ) → is_used g tb G (live_from g 0 ps) b ≡ false → (n : ℕ) → n < limit → any (in_block g b) (T n).pages ≡ false
  unnamed b u n l =
      ap (λ (s : Node). any (in_block g b) s.pages) (same n l)
      ∙ unused_unlisted g limit (node_in g limit ps) G (live_from g 0 ps) b (rw (← (opened g limit ps tb G rd.kept).tables) u) n l

  -- ---- the first k unused blocks
  module _ (k : ℕ) (A : Assignment) (en : suc A.count ≤ length (places g ps hd (take k un))) where
    abbrev W : List ℕ
    W = take (suc A.count) (candidate_places g B ps tb G)

    all_places : candidate_places g B ps tb G ≡ places g ps hd (take k un) ++ flat (pages_in g) (drop k un)
    all_places =
        ap (λ (bs : List ℕ). filter (free_at ps) (pages_in g hd) ++ bs) (ap (flat (pages_in g)) (sym (take-append-drop k un)) ∙ flat_append (pages_in g) (take k un) (drop k un))
        ∙ sym (append_assoc (filter (free_at ps) (pages_in g hd)) (flat (pages_in g) (take k un)) (flat (pages_in g) (drop k un)))

    all_enough : suc A.count ≤ length (candidate_places g B ps tb G)
    all_enough = omega (arith, ap length all_places, length-append (places g ps hd (take k un)) (flat (pages_in g) (drop k un)))

    W_is : W ≡ take (suc A.count) (places g ps hd (take k un))
    W_is = ap (take (suc A.count)) all_places ∙ take-append-le (suc A.count) (places g ps hd (take k un)) (flat (pages_in g) (drop k un)) en

    -- they reach no other block
    W_misses : (b : ℕ) → (b ≡ hd → ⊥) → All (λ c. c ≡ b → ⊥) (take k un) → any (in_block g b) W ≡ false
    W_misses b d a = ap (any (in_block g b)) W_is ∙ false_any (in_block g b) (All-map (λ p o. go p o) (All-take (suc A.count) (places_from g ps hd (take k un))))
      where
        go : (p : ℕ) → Origin g ps hd (take k un) p → in_block g b p ≡ false
        go p (old i f) = out_block g hd b p i (λ e. d (sym e))
        go p (new c m i) = out_block g c b p i (mem_at m a)

    left_by : (b : ℕ) → any (in_block g b) W ≡ false → ((n : ℕ) → n < limit → (not (A.is_anew n) && any (in_block g b) (T n).pages) ≡ false)
        → stays_unused g limit (contents_of T us) A.is_anew W b ≡ true
    left_by b e f =
        and_intro (not (any (in_block g b) W)) _ (ap not e)
        (ap not (false_any (λ (n : ℕ). not (A.is_anew n) && any (in_block g b) (T n).pages) (All-map (λ n l. f n l) (below_all limit))))

  -- ---- a packing that keeps what must be anew
  module _ (forced : ℕ → Bool) (S : Packing) (r : Result (sizes_of g (contents_of T us)) limit forced S)
      (must : (n : ℕ) → n < limit → 0 < length (own n us) → (any is_reset (own n us) || leb 4 (length (T n).pages)) ≡ true → forced n ≡ true)
      (k : ℕ) (en : suc (length S.rooms) ≤ length (places g ps hd (take k un)))
      (leaves : h ≤ length un → h ≤ length (filter (stays_unused g limit (contents_of T us) S.is_anew (W k (assignment_of S) en)) (count_from 0 B))) where
    page_is : (p : ℕ) → length (units_of_packs (page_packs (written_of (contents_of T us) S.is_anew) S.target limit p)) ≡ load (sizes_of g (contents_of T us)) limit S p
    page_is p = page_load (sizes_of g (contents_of T us)) (written_of (contents_of T us) S.is_anew) S (updates_size g (contents_of T us) limit few_anew ch.part.nodes S.is_anew) limit p

    packing_admissible : Admissible g limit B ps tb G (contents_of T us) (assignment_of S)
    packing_admissible =
        record {
          assigned = λ n l s. is_assigned (length S.rooms) (S.target n)
              (r.done n l (omega (arith, s, updates_size g (contents_of T us) limit few_anew ch.part.nodes S.is_anew n))) (r.good.below n);
          forced = λ n l s e. r.good.kept n (must n l s e);
          some = λ p l. omega (arith, page_is p, r.good.some p l);
          fits = λ p l. omega (arith, page_is p, r.good.free p);
          few = omega (arith, r.few, ch.lim);
          enough = all_enough k (assignment_of S) en;
          leaves = leaves;
        }

  -- ---- a delta, however it is filled, leaves the last h unused blocks
  abbrev kd : ℕ
  kd = length un - h

  delta_leaves : (S : Packing) (en : suc (length S.rooms) ≤ length (places g ps hd (take kd un))) → h ≤ length un
      → h ≤ length (filter (stays_unused g limit (contents_of T us) S.is_anew (W kd (assignment_of S) en)) (count_from 0 B))
  delta_leaves S en m =
      let q : ℕ → Bool = stays_unused g limit (contents_of T us) S.is_anew (W kd (assignment_of S) en) in
      omega (
        arith,
        length-drop kd un,
        at_most (drop kd un) (filter q (count_from 0 B)) (diff_drop kd un un_diff)
            (All-zip
            (λ b a s. mem_filter q (tab_mem 0 B b (omega arith) (omega (arith, a.0)))
            (left_by kd (assignment_of S) en b (W_misses kd (assignment_of S) en b a.1 s) (λ n l. rw (unnamed b a.2 n l) (and_false (not (S.is_anew n))))))
            (All-drop kd un_all) (diff_split kd un un_diff)),
      )
    where
      and_false : (b : Bool) → (b && false) ≡ false
      and_false true = refl
      and_false false = refl

  delta_must : (n : ℕ) → n < limit → 0 < length (own n us) → (any is_reset (own n us) || leb 4 (length (T n).pages)) ≡ true → is_forced (contents_of T us) n ≡ true
  delta_must n l s e =
      and_intro (ltb 0 (length (own n us))) _ (lt-ltb 0 (length (own n us)) s)
      (third (any is_reset (own n us)) (leb (length (rewrite (present n (T n).now us))) (length (own n us))) (leb 4 (length (T n).pages)) e)

  -- any packing that keeps what must be anew and has places on the other blocks
  pub delta_admissible : (S : Packing) → Result (sizes_of g (contents_of T us)) limit (is_forced (contents_of T us)) S → suc (length S.rooms) ≤ length (places g ps hd (take kd un))
      → Admissible g limit B ps tb G (contents_of T us) (assignment_of S)
  delta_admissible S r en = packing_admissible (is_forced (contents_of T us)) S r delta_must kd en (delta_leaves S en)

  -- the delta of the policy
  abbrev D : Packing
  D = delta_packing (sizes_of g (contents_of T us)) (is_forced (contents_of T us)) (λ (n : ℕ). length (T n).pages) (in_first g (contents_of T us) (used_blocks g B ps tb G)) limit

  d_result : Result (sizes_of g (contents_of T us)) limit (is_forced (contents_of T us)) D
  d_result = delta_result (delta_fine g (contents_of T us) limit few_anew ch.part.nodes) (λ (n : ℕ). length (T n).pages) (in_first g (contents_of T us) (used_blocks g B ps tb G))

  -- ---- a snapshot leaves all blocks but the head and h
  abbrev Z : Packing
  Z = snapshot_packing (sizes_of g (contents_of T us)) limit

  snap_result : Result (sizes_of g (contents_of T us)) limit (λ (n : ℕ). true) Z
  snap_result = packed_result (snapshot_fine g (contents_of T us) limit few_anew ch.part.nodes)

  -- the head and the first h unused blocks, and all others
  abbrev taken : ℕ → Bool
  taken b = any (eqb b) (hd ∷ take h un)

  abbrev others : List ℕ
  others = filter (λ (b : ℕ). not (taken b)) (count_from 0 B)

  many_others : 2 * h + 1 ≤ B → h ≤ length others
  many_others wide =
      let a : length (filter taken (count_from 0 B)) ≤ length (hd ∷ take h un) =
      at_most (filter taken (count_from 0 B)) (hd ∷ take h un) (diff_filter taken (count_from 0 B) (tab_diff 0 B)) (All-map (λ b t. eqb_mem b (hd ∷ take h un) t) (filter_is taken (count_from 0 B))) in
      omega (arith, filter_parts taken (count_from 0 B), length_tab (λ (i : ℕ). i) 0 B, length_take_n h un, wide)

  others_out : All (λ b. (b < B) × (b ≡ hd → ⊥) × All (λ c. c ≡ b → ⊥) (take h un)) others
  others_out =
      All-zip
      (λ b r t. let a : All (λ c. eqb b c ≡ false) (hd ∷ take h un) = any_false (eqb b) (hd ∷ take h un) (not-true (taken b) t) in
      (omega (arith, r.1), λ e. eqb-false b hd (All-head a) e, All-map (λ c n e. eqb-false b c n (sym e)) (All-tail a)))
      (All-filter (λ (b : ℕ). not (taken b)) (tab_range 0 B)) (filter_is (λ (b : ℕ). not (taken b)) (count_from 0 B))

  snapshot_leaves : 2 * h + 1 ≤ B → (en : suc (length Z.rooms) ≤ length (places g ps hd (take h un)))
      → h ≤ length (filter (stays_unused g limit (contents_of T us) Z.is_anew (W h (assignment_of Z) en)) (count_from 0 B))
  snapshot_leaves wide en =
      let q : ℕ → Bool = stays_unused g limit (contents_of T us) Z.is_anew (W h (assignment_of Z) en) in
      omega (
        arith,
        many_others wide,
        at_most others (filter q (count_from 0 B)) (diff_filter (λ (b : ℕ). not (taken b)) (count_from 0 B) (tab_diff 0 B))
            (All-map
            (λ b a. mem_filter q (tab_mem 0 B b (omega arith) (omega (arith, a.0)))
            (left_by h (assignment_of Z) en b (W_misses h (assignment_of Z) en b a.1 a.2) (λ n l. rw (snap_result.good.kept n refl))))
            others_out),
      )

  -- a snapshot that has places on the first h
  pub snapshot_admissible : 2 * h + 1 ≤ B → suc (length Z.rooms) ≤ length (places g ps hd (take h un)) → Admissible g limit B ps tb G (contents_of T us) (assignment_of Z)
  snapshot_admissible wide en = packing_admissible (λ (n : ℕ). true) Z snap_result (λ n l s e. refl) h en (λ m. snapshot_leaves wide en)

  -- with room a snapshot has places
  snap_enough : Room g B h tb G (live_from g 0 ps) → suc (length Z.rooms) ≤ length (places g ps hd (take h un))
  snap_enough room =
      let y : h ≤ length un = unused_many g B tb G (live_from g 0 ps) hd hd_below h (head_used g limit B ps tb G rd.kept (pages_pos g ch.part) rd.length_is) room in
      let m : length (take h un) * g.pages ≡ h * g.pages = ap (λ (n : ℕ). n * g.pages) (length-take-le h un y) in
      let q : 4 * B < 4 * B / g.pages * g.pages + g.pages = lt-div-mul-add (pages_pos g ch.part) in
      omega (arith, length_places g ps hd (take h un), snap_result.few, ch.lim)

  -- ---- the policy
  pub data Decided (d : Decision) : Type 0 where
    no_plan : d ≡ nothing → Decided d
    by_plan : (A : Assignment) → d ≡ follow A → Admissible g limit B ps tb G (contents_of T us) A → Decided d

  -- any chip: nothing, or an admissible plan
  pub decided : 2 * h + 1 ≤ B → Decided (decide g limit B ps tb G (contents_of T us))
  decided wide =
      cases (has_places g ps hd (take kd un) (assignment_of D))
      (λ t. by_plan (assignment_of D) (rw t) (delta_admissible D d_result (leb-true (suc (length D.rooms)) (length (places g ps hd (take kd un))) t)))
      (λ t. cases (has_places g ps hd (take h un) (assignment_of Z))
      (λ v. by_plan (assignment_of Z) (rw (t, v)) (snapshot_admissible wide (leb-true (suc (length Z.rooms)) (length (places g ps hd (take h un))) v)))
      (λ v. no_plan (rw (t, v))))

  -- with room: there is a plan
  pub room_plan : Room g B h tb G (live_from g 0 ps) → (A : Assignment) × (decide g limit B ps tb G (contents_of T us) ≡ follow A)
  room_plan room =
      cases (has_places g ps hd (take kd un) (assignment_of D))
      (λ t. (assignment_of D, rw t))
      (λ t. let v = le-leb (suc (length Z.rooms)) (length (places g ps hd (take h un))) (snap_enough room) in (assignment_of Z, rw (t, v)))
