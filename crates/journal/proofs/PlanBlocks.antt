-- Used and unused blocks: the head is used, room is h unused blocks. Assumes nothing.
use mathlib.Core.Path.{◌≡◌, refl, ap, ◌∙◌}
use mathlib.Core.Bool.{Bool, true, false, ◌&&◌, not}
use mathlib.Core.List.{List, [], ◌∷◌, ◌++◌}
use Prim.Native.Nat.{ℕ, zero, suc, ◌+◌, ◌-◌, ◌*◌, ◌/◌, ◌≤◌, ◌<◌}
use native.Mathlib.Nat.{div-mul-le_self, lt-div-mul-add, mul-le-mul_right}
use native.Mathlib.Omega.{arith}
use lib.Dec.{eqb, ltb}
use lib.ListN.{length}
use borrow.Author.Tests.{not-true, eq-eqb, eqb-false, eqb-true, ltb-false, ltb-true, le-leb, leb-true}
use Rattle.lists.specs.Lists.{All, any, filter, tab, Diff}
use Rattle.lists.proofs.Alls.{All-append, All-filter, All-head, All-map, All-right, All-zip, any_false, false_any}
use Rattle.lists.proofs.Filters.{filter_is}
use Rattle.lists.proofs.Sets.{Mem, at_most, diff_append, diff_filter, mem_filter, mem_left, mem_right, tab_diff, tab_mem, tab_range}
use Rattle.lists.proofs.Sorts.{All-sort}
use Rattle.lists.proofs.Tests.{cases, clash, neither_left, neither_right, or_right}
use Rattle.chip.specs.Geometry.{Geometry}
use Rattle.chip.specs.Page.{Page}
use Rattle.chip.specs.Chip.{in_block}
use Rattle.pages.specs.Steps.{Live, before, commit, live_from}
use Rattle.pages.proofs.LivePages.{places_below}
use Rattle.pages.proofs.Settle.{last_snoc}
use Rattle.views.specs.Table.{Node}
use Rattle.views.proofs.Meanings.{Kept, in_order, node_in, opened}
use Rattle.views.proofs.Rooms.{Outside, Unlisted}
use Rattle.journal.specs.Plan.{count_from, has_room, head_block, holds_commit, is_used, last_place, is_listed, ring, unused}
use Rattle.journal.proofs.PlanPlaces.{In, in_block_lem}

-- ---- all blocks but the head
pub ring_range : (B head : ℕ) → head < B → All (λ b. (b < B) × (b ≡ head → ⊥)) (ring B head)
ring_range B head l =
    All-append (All-map (λ b h. (omega (arith, h.0, h.1), λ e. omega (arith, h.0))) (tab_range (suc head) (B - suc head)))
    (All-map (λ b h. (omega (arith, h.1), λ e. omega (arith, h.1))) (tab_range 0 head))

pub ring_diff : (B head : ℕ) → Diff (ring B head)
ring_diff B head =
    diff_append (count_from (suc head) (B - suc head)) (count_from 0 head) (tab_diff (suc head) (B - suc head)) (tab_diff 0 head)
    (All-map (λ b h. All-map (λ c k e. omega (arith, h.0, k.1)) (tab_range 0 head)) (tab_range (suc head) (B - suc head)))

pub ring_mem : (B head b : ℕ) → b < B → (b ≡ head → ⊥) → Mem b (ring B head)
ring_mem B head b l d =
    cases (ltb b head)
    (λ t. mem_right (count_from (suc head) (B - suc head)) (tab_mem 0 head b (omega arith) (omega (arith, ltb-true b head t))))
    (λ t. let h : head < b = other (ltb-false b head t) in mem_left (count_from 0 head) (tab_mem (suc head) (B - suc head) b h (omega arith)))
  where
    other : head ≤ b → head < b
    other h = cases (eqb b head) (λ t. absurd (d (eqb-true b head t))) (λ t. omega (arith, eqb-false b head t))

-- ---- used and unused blocks
any_tab : {A : Type 0} (p : A → Bool) (f : ℕ → A) (k m n : ℕ) → any p (tab k m f) ≡ false → k ≤ n → n < k + m → p (f n) ≡ false
any_tab p f k zero n h a b = absurd (omega arith)
any_tab p f k (suc m) n h a b =
    cases (p (f k))
    (λ t. let z : true ≡ false = (rw t at h) in clash refl z)
    (λ t. cases (eqb k n) (λ q. rw (← eqb-true k n q) t) (λ q. any_tab p f (suc k) m n (rw t at h) (omega (arith, eqb-false k n q)) (omega arith)))

tab_any : {A : Type 0} (p : A → Bool) (f : ℕ → A) (k m : ℕ) → ((n : ℕ) → n < k + m → p (f n) ≡ false) → any p (tab k m f) ≡ false
tab_any p f k zero h = refl
tab_any p f k (suc m) h = rw (h k (omega arith)) (tab_any p f (suc k) m (λ n l. h n (omega arith)))

-- an unused block: no list names it, and no page of commit G stands in it
module _ (g : Geometry) (tb : List Node) (G : ℕ) (xs : List Live) (b : ℕ) where
  pub unused_listed : is_used g tb G xs b ≡ false → is_listed g tb b ≡ false
  unfolding is_used
  unused_listed h = neither_left (is_listed g tb b) (holds_commit g G xs b) h

  pub unused_holds : is_used g tb G xs b ≡ false → Outside g G xs b
  unfolding is_used
  unused_holds h =
      All-map (λ x e c. rw (eq-eqb (commit x) G c) at e)
      (any_false (λ (x : Live). eqb (commit x) G && in_block g b x.place) xs (neither_right (is_listed g tb b) (holds_commit g G xs b) h))

  pub unused_by : is_listed g tb b ≡ false → Outside g G xs b → is_used g tb G xs b ≡ false
  unfolding is_used
  unused_by h o =
      rw h
      (false_any (λ (x : Live). eqb (commit x) G && in_block g b x.place)
      (All-map (λ x k. cases (eqb (commit x) G) (λ t. rw t (k (eqb-true (commit x) G t))) (λ t. rw t)) o))

-- the same with the nodes T of the table
module _ (g : Geometry) (limit : ℕ) (T : ℕ → Node) (G : ℕ) (xs : List Live) (b : ℕ) where
  pub unused_unlisted : is_used g (tab 0 limit T) G xs b ≡ false → Unlisted g limit T b
  unused_unlisted h n l =
      any_tab (λ (s : Node). any (in_block g b) s.pages) T 0 limit n (unused_listed g (tab 0 limit T) G xs b h) (omega arith) (omega arith)

  pub unused_outside : is_used g (tab 0 limit T) G xs b ≡ false → Outside g G xs b
  unused_outside h = unused_holds g (tab 0 limit T) G xs b h

  pub is_unused : Unlisted g limit T b → Outside g G xs b → is_used g (tab 0 limit T) G xs b ≡ false
  is_unused u o =
      unused_by g (tab 0 limit T) G xs b (tab_any (λ (s : Node). any (in_block g b) s.pages) T 0 limit (λ n l. u n (omega arith))) o

-- a block with a page of commit G is used
pub is_used_lem : (g : Geometry) (tb : List Node) (G : ℕ) (xs : List Live) (b : ℕ) → holds_commit g G xs b ≡ true → is_used g tb G xs b ≡ true
unfolding is_used
is_used_lem g tb G xs b h = or_right (is_listed g tb b) (holds_commit g G xs b) h

-- ---- at least h blocks below B are unused
pub record Room (g : Geometry) (B h : ℕ) (tb : List Node) (G : ℕ) (xs : List Live) : Type 0 where
  pub blocks : List ℕ
  pub diff : Diff blocks
  pub many : h ≤ length blocks
  pub are : All (λ b. (b < B) × (is_used g tb G xs b ≡ false)) blocks

-- room goes over to pages among which none of commit G is in a block that had none
pub room_moved : (g : Geometry) (B h : ℕ) (tb : List Node) (G : ℕ) (xs ys : List Live) → ((b : ℕ) → Outside g G xs b → Outside g G ys b)
    → Room g B h tb G xs → Room g B h tb G ys
room_moved g B h tb G xs ys f r =
    record {
      blocks = r.blocks;
      diff = r.diff;
      many = r.many;
      are = All-map (λ b k. (k.0, unused_by g tb G ys b (unused_listed g tb G xs b k.1) (f b (unused_holds g tb G xs b k.1)))) r.are;
    }

-- room as a test
module _ (g : Geometry) (B h : ℕ) (tb : List Node) (G : ℕ) (xs : List Live) where
  abbrev is_unused_lem : ℕ → Bool
  is_unused_lem b = not (is_used g tb G xs b)

  pub has_room_lem : Room g B h tb G xs → has_room g B h tb G xs ≡ true
  has_room_lem r =
      let l : length r.blocks ≤ length (filter is_unused_lem (count_from 0 B)) =
      at_most r.blocks (filter is_unused_lem (count_from 0 B)) r.diff
      (All-map (λ b k. mem_filter is_unused_lem (tab_mem 0 B b (omega arith) (omega (arith, k.0))) (ap not k.1)) r.are) in
      le-leb h (length (filter is_unused_lem (count_from 0 B))) (omega (arith, r.many))

  pub room_has : has_room g B h tb G xs ≡ true → Room g B h tb G xs
  room_has e =
      record {
        blocks = filter is_unused_lem (count_from 0 B);
        diff = diff_filter is_unused_lem (count_from 0 B) (tab_diff 0 B);
        many = leb-true h (length (filter is_unused_lem (count_from 0 B))) e;
        are = All-zip {P = λ (b : ℕ). (0 ≤ b) × (b < 0 + B)} (λ b r t. (omega (arith, r.1), not-true (is_used g tb G xs b) t))
            (All-filter is_unused_lem (tab_range 0 B)) (filter_is is_unused_lem (count_from 0 B));
      }

module _ (g : Geometry) (B : ℕ) (tb : List Node) (G : ℕ) (xs : List Live) (head : ℕ) (hb : head < B) where
  pub unused_all : All (λ b. (b < B) × (b ≡ head → ⊥) × (is_used g tb G xs b ≡ false)) (unused g B tb G xs head)
  unfolding unused
  unused_all =
      All-zip (λ b r u. (r.0, r.1, not-true (is_used g tb G xs b) u)) (All-filter (λ (b : ℕ). not (is_used g tb G xs b)) (ring_range B head hb))
      (filter_is (λ (b : ℕ). not (is_used g tb G xs b)) (ring B head))

  pub unused_diff : Diff (unused g B tb G xs head)
  unfolding unused
  unused_diff = diff_filter (λ (b : ℕ). not (is_used g tb G xs b)) (ring B head) (ring_diff B head)

  -- with room, the list has h blocks
  pub unused_many : (h : ℕ) → is_used g tb G xs head ≡ true → Room g B h tb G xs → h ≤ length (unused g B tb G xs head)
  unfolding unused
  unused_many h u r =
      omega (
        arith,
        r.many,
        at_most r.blocks (filter (λ (b : ℕ). not (is_used g tb G xs b)) (ring B head)) r.diff
            (All-map (λ b k. mem_filter (λ (b : ℕ). not (is_used g tb G xs b)) (ring_mem B head b k.0 (λ e. clash (rw e u) k.1)) (ap not k.1)) r.are),
      )

-- ---- the head
last_place_lem : (s : List Live) (z : Live) → last_place (s ++ (z ∷ [])) ≡ z.place
last_place_lem [] z = refl
last_place_lem (x ∷ s) z = ap (λ (y : Live). y.place) (last_snoc x s z)

module _ (g : Geometry) (limit B : ℕ) (ps : List Page) (tb : List Node) (G : ℕ) (k : Kept g limit ps tb G) (pos : 0 < g.pages) (size : length ps ≡ B * g.pages) where
  head_in : (z : Live) → In g (z.place / g.pages) z.place
  head_in z = (div-mul-le_self z.place g.pages, lt-div-mul-add pos)

  pub head_below : head_block g ps < B
  head_below =
      let o = opened g limit ps tb G k in
      let z = o.z in
      let p : All (λ (x : Live). x.place < 0 + length ps) (o.s ++ (z ∷ [])) = rw (← o.order) (All-sort before (places_below g 0 ps)) in
      let q : z.place < 0 + length ps = All-head (All-right o.s (z ∷ []) p) in
      let e : last_place (in_order g ps) ≡ z.place = ap last_place o.order ∙ last_place_lem o.s z in
      rw e
      (cases (ltb (z.place / g.pages) B) (λ t. ltb-true (z.place / g.pages) B t)
      (λ t. let m : B * g.pages ≤ z.place / g.pages * g.pages = mul-le-mul_right g.pages (ltb-false (z.place / g.pages) B t) in
      absurd (omega (arith, (head_in z).0))))

  pub head_used : is_used g tb G (live_from g 0 ps) (head_block g ps) ≡ true
  head_used =
      let o = opened g limit ps tb G k in
      let z = o.z in
      let e : last_place (in_order g ps) ≡ z.place = ap last_place o.order ∙ last_place_lem o.s z in
      cases (is_used g tb G (live_from g 0 ps) (head_block g ps)) (λ t. t)
      (λ t. let u : is_used g (tab 0 limit (node_in g limit ps)) G (live_from g 0 ps) (z.place / g.pages) ≡ false = rw (← o.tables, ← e) t in
      let a : Outside g G (in_order g ps) (z.place / g.pages) = All-sort before (unused_outside g limit (node_in g limit ps) G (live_from g 0 ps) (z.place / g.pages) u) in
      let c : Outside g G (o.s ++ (z ∷ [])) (z.place / g.pages) = rw (← o.order) a in
      clash (in_block_lem g (z.place / g.pages) z.place (head_in z)) (All-head (All-right o.s (z ∷ []) c) o.good.last))
