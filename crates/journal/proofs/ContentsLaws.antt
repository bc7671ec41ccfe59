-- The decision and its plan depend only on what they read: contents of the nodes below limit, and of a delta's nodes anew
-- only those with buffered units or a page in the oldest block. Assumes nothing.
use mathlib.Core.Path.{◌≡◌, refl, sym, ap, ap₂, ◌∙◌, subst}
use mathlib.Core.Logic.{◌⊎◌, inl, inr, ⊎_elim}
use mathlib.Core.Bool.{Bool, true, false, cond, ◌&&◌, ◌||◌}
use mathlib.Core.List.{List, [], ◌∷◌, ◌++◌, foldl}
use Prim.Native.Nat.{ℕ, zero, suc, ◌+◌, ◌-◌, ◌<◌}
use native.Mathlib.Omega.{arith}
use lib.Dec.{eqb, leb, ltb}
use lib.ListN.{get_or, length, take}
use borrow.Author.Tests.{eqb-true, ltb-true}
use Rattle.lists.specs.Lists.{All, any, filter, first, flat, modify, more, none, tab}
use Rattle.lists.proofs.Alls.{All-filter, All-map, All-zip}
use Rattle.lists.proofs.Filters.{filter_is}
use Rattle.lists.proofs.Flats.{tab_same}
use Rattle.lists.proofs.Sets.{filter_same, tab_range}
use Rattle.lists.proofs.Tests.{and_left, and_right, cases, clash}
use Rattle.chip.specs.Geometry.{Geometry}
use Rattle.chip.specs.Page.{Page}
use Rattle.chip.specs.Chip.{in_block}
use Rattle.pages.specs.declared.unit.Update.{Update}
use Rattle.pages.specs.declared.unit.Unit as U
use Rattle.views.specs.Nodes.{View}
use Rattle.views.specs.Table.{Node}
use Rattle.views.specs.Groups.{is_reset, present}
use Rattle.journal.specs.Plan.{count_from, head_block, keep, places, plan_on, rewrite}
use Rattle.journal.specs.Admissible.{Assignment, Contents, Target, all_packs, contents_of, goes_to, in_page, page_packs, unused_blocks, unwritten, written_of}
use Rattle.journal.specs.Packing.{Packing, Sizes, assign, delta_packing, fill_node, filled, fit, is_unwritten, pack_node, packed, size_of, snapshot_packing, unpacked, widen_in, widen_node, widened}
use Rattle.journal.specs.Policy.{Decision, assignment_of, decide_on, delta_assignment, follow, has_places, in_first, is_forced, nothing, plan_by, sizes_of, snapshot_assignment}

-- ---- two packings with the same pages, and the same for each node of Q
pub record SamePacking (Q : ℕ → Type 0) (S R : Packing) : Type 0 where
  pub rooms : S.rooms ≡ R.rooms
  pub target : (n : ℕ) → Q n → S.target n ≡ R.target n
  pub is_anew : (n : ℕ) → Q n → S.is_anew n ≡ R.is_anew n

-- the numbers counted are below limit
pub below_all : (limit : ℕ) → All (λ n. n < limit) (count_from 0 limit)
below_all limit = All-map (λ n r. omega (arith, r.1)) (tab_range 0 limit)

-- ---- the steps read the sizes of the nodes below limit: the own units of each, and the units anew of those that are seen
module _ (Q Seen : ℕ → Type 0) (limit : ℕ) (z y : Sizes) (units : z.units ≡ y.units) (inside : (n : ℕ) → n < limit → Q n)
    (part : (n : ℕ) → n < limit → z.part n ≡ y.part n) (whole : (n : ℕ) → n < limit → Seen n → z.whole n ≡ y.whole n)
    (some : (n : ℕ) → n < limit → 0 < z.part n → Seen n) where
  -- the same, and a node that has a page or is to be written anew is seen
  record Tied (S R : Packing) : Type 0 where
    same : SamePacking Q S R
    paged : (n : ℕ) → n < limit → is_unwritten (S.target n) ≡ false → Seen n
    anew : (n : ℕ) → n < limit → S.is_anew n ≡ true → Seen n

  assign_same : (a b : Bool) (n : ℕ) (S R : Packing) → a ≡ b → size_of z a n ≡ size_of y b n → SamePacking Q S R → SamePacking Q (assign z a n S) (assign y b n R)
  assign_same a b n S R e s h =
      record {
        rooms = ap₂ (λ (u k : ℕ). fit u k S.rooms) units s ∙ ap (fit y.units (size_of y b n)) h.rooms;
        target = λ m q. cases (eqb m n)
            (λ t. rw t (ap₂ (λ (k : ℕ) (rs : List ℕ). in_page (first (leb k) rs)) s h.rooms))
            (λ t. rw t (h.target m q));
        is_anew = λ m q. cases (eqb m n) (λ t. rw t e) (λ t. rw t (h.is_anew m q));
      }

  assign_tied : (a b : Bool) (n : ℕ) (S R : Packing) → a ≡ b → size_of z a n ≡ size_of y b n → Seen n → Tied S R → Tied (assign z a n S) (assign y b n R)
  assign_tied a b n S R e s seen h =
      record {
        same = assign_same a b n S R e s h.same;
        paged = λ m l f. cases (eqb m n) (λ t. subst Seen (sym (eqb-true m n t)) seen) (λ t. h.paged m l (rw t at f));
        anew = λ m l f. cases (eqb m n) (λ t. subst Seen (sym (eqb-true m n t)) seen) (λ t. h.anew m l (rw t at f));
      }

  size_same : (n : ℕ) (S R : Packing) → n < limit → Tied S R → size_of z (S.is_anew n) n ≡ size_of y (R.is_anew n) n
  size_same n S R l h =
      let e : S.is_anew n ≡ R.is_anew n = h.same.is_anew n (inside n l) in
      cases (S.is_anew n)
      (λ t. let r : R.is_anew n ≡ true = sym e ∙ t in rw (t, r) (whole n l (h.anew n l t)))
      (λ t. let r : R.is_anew n ≡ false = sym e ∙ t in rw (t, r) (part n l))

  size_seen : (n : ℕ) (S R : Packing) → n < limit → Tied S R → 0 < size_of z (S.is_anew n) n → Seen n
  size_seen n S R l h p = cases (S.is_anew n) (λ t. h.anew n l t) (λ t. some n l (rw t at p))

  pack_tied : (S R : Packing) (n : ℕ) → n < limit → Tied S R → Tied (pack_node z S n) (pack_node y R n)
  pack_tied S R n l h =
      let s = size_same n S R l h in
      let e : (is_unwritten (S.target n) && ltb 0 (size_of z (S.is_anew n) n)) ≡ (is_unwritten (R.target n) && ltb 0 (size_of y (R.is_anew n) n)) =
      ap₂ (λ (x : Target) (k : ℕ). is_unwritten x && ltb 0 k) (h.same.target n (inside n l)) s in
      cases (is_unwritten (S.target n) && ltb 0 (size_of z (S.is_anew n) n))
      (λ t. rw (t, sym e ∙ t) (assign_tied (S.is_anew n) (R.is_anew n) n S R (h.same.is_anew n (inside n l)) s
      (size_seen n S R l h (ltb-true 0 (size_of z (S.is_anew n) n) (and_right (is_unwritten (S.target n)) _ t))) h))
      (λ t. rw (t, sym e ∙ t) h)

  fill_tied : (S R : Packing) (n : ℕ) → n < limit → Seen n → Tied S R → Tied (fill_node z S n) (fill_node y R n)
  fill_tied S R n l seen h =
      let w = whole n l seen in
      let e : (is_unwritten (S.target n) && (ltb 0 (z.whole n) && any (leb (z.whole n)) S.rooms)) ≡ (is_unwritten (R.target n) && (ltb 0 (y.whole n) && any (leb (y.whole n)) R.rooms)) =
      ap₂ (λ (x : Target) (k : ℕ). is_unwritten x && (ltb 0 k && any (leb k) S.rooms)) (h.same.target n (inside n l)) w
      ∙ ap (λ (rs : List ℕ). is_unwritten (R.target n) && (ltb 0 (y.whole n) && any (leb (y.whole n)) rs)) h.same.rooms in
      cases (is_unwritten (S.target n) && (ltb 0 (z.whole n) && any (leb (z.whole n)) S.rooms))
      (λ t. rw (t, sym e ∙ t) (assign_tied true true n S R refl w seen h))
      (λ t. rw (t, sym e ∙ t) h)

  widen_in_tied : (S R : Packing) (n : ℕ) (x : Target) → n < limit → S.target n ≡ x → Tied S R → Tied (widen_in z S n x) (widen_in y R n x)
  widen_in_tied S R n unwritten l q h = h
  widen_in_tied S R n (in_page p) l q h =
      let seen : Seen n = h.paged n l (ap is_unwritten q) in
      let w = whole n l seen in
      let o = part n l in
      let e : leb (z.whole n) (z.part n + get_or S.rooms p 0) ≡ leb (y.whole n) (y.part n + get_or R.rooms p 0) =
      ap₂ (λ (j k : ℕ). leb j (k + get_or S.rooms p 0)) w o ∙ ap (λ (rs : List ℕ). leb (y.whole n) (y.part n + get_or rs p 0)) h.same.rooms in
      cases (leb (z.whole n) (z.part n + get_or S.rooms p 0))
      (λ t. rw (t, sym e ∙ t) (record {
        same = record {
          rooms = ap₂ (λ (j k : ℕ). modify p (λ (r : ℕ). k + r - j) S.rooms) w o ∙ ap (modify p (λ (r : ℕ). y.part n + r - y.whole n)) h.same.rooms;
          target = h.same.target;
          is_anew = λ m i. cases (eqb m n) (λ u. rw u) (λ u. rw u (h.same.is_anew m i));
        };
        paged = h.paged;
        anew = λ m i f. cases (eqb m n) (λ u. subst Seen (sym (eqb-true m n u)) seen) (λ u. h.anew m i (rw u at f));
      }))
      (λ t. rw (t, sym e ∙ t) h)

  widen_tied : (S R : Packing) (n : ℕ) → n < limit → Tied S R → Tied (widen_node z S n) (widen_node y R n)
  widen_tied S R n l h =
      let e : S.is_anew n ≡ R.is_anew n = h.same.is_anew n (inside n l) in
      let i : Tied (widen_in z S n (S.target n)) (widen_in y R n (R.target n)) =
      subst (λ (x : Target). Tied (widen_in z S n (S.target n)) (widen_in y R n x)) (h.same.target n (inside n l)) (widen_in_tied S R n (S.target n) l refl h) in
      cases (S.is_anew n) (λ t. rw (t, sym e ∙ t) h) (λ t. rw (t, sym e ∙ t) i)

  -- ---- the folds
  fold_tied : (P : ℕ → Type 0) (f j : Packing → ℕ → Packing) → ((S R : Packing) (n : ℕ) → P n → Tied S R → Tied (f S n) (j R n))
      → {ns : List ℕ} → All P ns → (S R : Packing) → Tied S R → Tied (foldl f S ns) (foldl j R ns)
  fold_tied P f j k none S R h = h
  fold_tied P f j k (more {x = n} l ls) S R h = fold_tied P f j k ls (f S n) (j R n) (k S R n l h)

  -- over the nodes that pass a test, which is the same for the nodes below limit
  some_tied : (P : ℕ → Type 0) (f j : Packing → ℕ → Packing) → ((S R : Packing) (n : ℕ) → P n → Tied S R → Tied (f S n) (j R n))
      → (p q : ℕ → Bool) → ((n : ℕ) → n < limit → p n ≡ q n) → ((n : ℕ) → n < limit → p n ≡ true → P n)
      → (S R : Packing) → Tied S R → Tied (foldl f S (filter p (count_from 0 limit))) (foldl j R (filter q (count_from 0 limit)))
  some_tied P f j k p q e w S R h =
      subst (λ (ns : List ℕ). Tied (foldl f S (filter p (count_from 0 limit))) (foldl j R ns)) (filter_same p q (All-map (λ n l. e n l) (below_all limit)))
      (fold_tied P f j k (All-zip (λ n l t. w n l t) (All-filter p (below_all limit)) (filter_is p (count_from 0 limit))) S R h)

  packed_tied : (forced must : ℕ → Bool) → ((n : ℕ) → Q n → forced n ≡ must n) → ((n : ℕ) → n < limit → forced n ≡ true → Seen n)
      → Tied (packed z forced limit) (packed y must limit)
  packed_tied forced must e w =
      let begin : Tied (unpacked forced) (unpacked must) = record {
        same = record { rooms = refl; target = λ n q. refl; is_anew = e };
        paged = λ n l f. clash refl f;
        anew = w;
      } in
      fold_tied (λ n. n < limit) (pack_node z) (pack_node y) pack_tied (below_all limit)
      (foldl (pack_node z) (unpacked forced) (filter forced (count_from 0 limit))) (foldl (pack_node y) (unpacked must) (filter must (count_from 0 limit)))
      (some_tied (λ n. n < limit) (pack_node z) (pack_node y) pack_tied forced must (λ n l. e n (inside n l)) (λ n l t. l) (unpacked forced) (unpacked must) begin)

  widened_tied : (depth deep : ℕ → ℕ) (d : ℕ) → ((n : ℕ) → n < limit → eqb (depth n) d ≡ eqb (deep n) d) → (S R : Packing) → Tied S R → Tied (widened z depth limit d S) (widened y deep limit d R)
  widened_tied depth deep d e S R h =
      some_tied (λ n. n < limit) (widen_node z) (widen_node y) widen_tied (λ (n : ℕ). eqb (depth n) d) (λ (n : ℕ). eqb (deep n) d) e (λ n l t. l) S R h

  filled_tied : (old aged : ℕ → Bool) → ((n : ℕ) → n < limit → old n ≡ aged n) → ((n : ℕ) → n < limit → old n ≡ true → Seen n)
      → (S R : Packing) → Tied S R → Tied (filled z old limit S) (filled y aged limit R)
  filled_tied old aged e w S R h =
      some_tied (λ n. (n < limit) × Seen n) (fill_node z) (fill_node y) (λ K J n l k. fill_tied K J n l.0 l.1 k) old aged e (λ n l t. (l, w n l t)) S R h

  delta_tied : (forced must : ℕ → Bool) → ((n : ℕ) → Q n → forced n ≡ must n) → ((n : ℕ) → n < limit → forced n ≡ true → Seen n)
      → (depth deep : ℕ → ℕ) → ((n : ℕ) → n < limit → (d : ℕ) → d < 4 → eqb (depth n) d ≡ eqb (deep n) d)
      → (old aged : ℕ → Bool) → ((n : ℕ) → n < limit → old n ≡ aged n) → ((n : ℕ) → n < limit → old n ≡ true → Seen n)
      → Tied (delta_packing z forced depth old limit) (delta_packing y must deep aged limit)
  delta_tied forced must e w depth deep d old aged o v =
      let z0 = packed z forced limit in
      let y0 = packed y must limit in
      let z1 = widened z depth limit 3 z0 in
      let y1 = widened y deep limit 3 y0 in
      let z2 = filled z old limit z1 in
      let y2 = filled y aged limit y1 in
      let z3 = widened z depth limit 2 z2 in
      let y3 = widened y deep limit 2 y2 in
      widened_tied depth deep 1 (λ n l. d n l 1 (omega arith)) z3 y3 (widened_tied depth deep 2 (λ n l. d n l 2 (omega arith)) z2 y2
      (filled_tied old aged o v z1 y1 (widened_tied depth deep 3 (λ n l. d n l 3 (omega arith)) z0 y0 (packed_tied forced must e w))))

  -- a delta by both sizes: the same for the nodes of Q
  pub delta_same : (forced must : ℕ → Bool) → ((n : ℕ) → Q n → forced n ≡ must n) → ((n : ℕ) → n < limit → forced n ≡ true → Seen n)
      → (depth deep : ℕ → ℕ) → ((n : ℕ) → n < limit → (d : ℕ) → d < 4 → eqb (depth n) d ≡ eqb (deep n) d)
      → (old aged : ℕ → Bool) → ((n : ℕ) → n < limit → old n ≡ aged n) → ((n : ℕ) → n < limit → old n ≡ true → Seen n)
      → SamePacking Q (delta_packing z forced depth old limit) (delta_packing y must deep aged limit)
  delta_same forced must e w depth deep d old aged o v = (delta_tied forced must e w depth deep d old aged o v).same

  -- and the nodes packed without filling
  pub packed_same : (forced must : ℕ → Bool) → ((n : ℕ) → Q n → forced n ≡ must n) → ((n : ℕ) → n < limit → forced n ≡ true → Seen n)
      → SamePacking Q (packed z forced limit) (packed y must limit)
  packed_same forced must e w = (packed_tied forced must e w).same

-- ---- a node of a delta, one with a page or written anew, has own units or a page in the oldest block
pub delta_seen : (z : Sizes) (forced : ℕ → Bool) (depth : ℕ → ℕ) (old : ℕ → Bool) (limit : ℕ) → ((n : ℕ) → n < limit → forced n ≡ true → 0 < z.part n)
    → (n : ℕ) → n < limit
    → (is_unwritten ((delta_packing z forced depth old limit).target n) ≡ false) ⊎ ((delta_packing z forced depth old limit).is_anew n ≡ true)
    → (0 < z.part n) ⊎ (old n ≡ true)
delta_seen z forced depth old limit must n l h =
    let t = delta_tied (λ n. Unit {0}) (λ n. (0 < z.part n) ⊎ (old n ≡ true)) limit z z refl (λ n l. tt) (λ n l. refl) (λ n l s. refl) (λ n l p. inl p)
    forced forced (λ n q. refl) (λ n l f. inl (must n l f)) depth depth (λ n l d b. refl) old old (λ n l. refl) (λ n l o. inr o) in
    ⊎_elim {C = (0 < z.part n) ⊎ (old n ≡ true)} (λ e. t.paged n l e) (λ e. t.anew n l e) h

-- ---- contents, assignments and decisions that are the same for the nodes below limit
-- lists of as many pages in the same blocks; their order is of no account
pub record SamePages (xs ys : List ℕ) : Type 0 where
  pub size : length xs ≡ length ys
  pub blocks : (g : Geometry) (b : ℕ) → any (in_block g b) xs ≡ any (in_block g b) ys

pub same_pages : (xs ys : List ℕ) → xs ≡ ys → SamePages xs ys
same_pages xs ys e = record { size = ap length e; blocks = λ g b. ap (any (in_block g b)) e }

pub record SameContents (limit : ℕ) (N M : Contents) : Type 0 where
  pub after : (n : ℕ) → n < limit → N.after n ≡ M.after n
  pub buffered : (n : ℕ) → n < limit → N.buffered n ≡ M.buffered n
  pub listed : (n : ℕ) → n < limit → SamePages (N.listed n) (M.listed n)

-- as many pages, and for each node the same page and form
pub record SameAssignment (limit : ℕ) (A C : Assignment) : Type 0 where
  pub count : A.count ≡ C.count
  pub target : (n : ℕ) → n < limit → A.target n ≡ C.target n
  pub is_anew : (n : ℕ) → n < limit → A.is_anew n ≡ C.is_anew n

-- nothing and nothing, or to follow the same assignment
pub data SameBelow (limit : ℕ) : Decision → Decision → Type 0 where
  both_nothing : SameBelow limit nothing nothing
  both_follow : {A C : Assignment} → SameAssignment limit A C → SameBelow limit (follow A) (follow C)

-- nodes that are the same below limit have the same contents there
pub contents_same : (limit : ℕ) (T S : ℕ → Node) (us : List U.Unit) → ((n : ℕ) → n < limit → T n ≡ S n) → SameContents limit (contents_of T us) (contents_of S us)
contents_same limit T S us e =
    record {
      after = λ n l. ap (λ (s : Node). present n s.now us) (e n l);
      buffered = λ n l. refl;
      listed = λ n l. same_pages (T n).pages (S n).pages (ap (λ (s : Node). s.pages) (e n l));
    }

pub assignment_same : (limit : ℕ) (S R : Packing) → SamePacking (λ n. n < limit) S R → SameAssignment limit (assignment_of S) (assignment_of R)
assignment_same limit S R h = record { count = ap length h.rooms; target = h.target; is_anew = h.is_anew }

-- ---- the two ways to pack
first_same : (g : Geometry) (limit : ℕ) (N M : Contents) (us : List ℕ) → ((n : ℕ) → n < limit → SamePages (N.listed n) (M.listed n))
    → (n : ℕ) → n < limit → in_first g N us n ≡ in_first g M us n
first_same g limit N M [] e n l = refl
first_same g limit N M (b ∷ bs) e n l = (e n l).blocks g b

-- the test that a node must be written anew, of its contents
abbrev forced_by : View → List Update → ℕ → Bool
forced_by v os size = ltb 0 (length os) && (any is_reset os || (leb (length (rewrite v)) (length os) || leb 4 size))

unforced : (v w : View) (os : List Update) (size : ℕ) → ltb 0 (length os) ≡ false → forced_by v os size ≡ forced_by w os size
unforced v w os size t = rw t

-- a delta reads a node after the buffer only where it has buffered units or a page in the oldest block
pub delta_reads : (g : Geometry) (limit : ℕ) (us : List ℕ) (N M : Contents)
    → ((n : ℕ) → n < limit → N.buffered n ≡ M.buffered n) → ((n : ℕ) → n < limit → SamePages (N.listed n) (M.listed n))
    → ((n : ℕ) → n < limit → (0 < length (N.buffered n)) ⊎ (in_first g N us n ≡ true) → N.after n ≡ M.after n)
    → SameAssignment limit (delta_assignment g limit us N) (delta_assignment g limit us M)
delta_reads g limit us N M own list after =
    assignment_same limit
    (delta_packing (sizes_of g N) (is_forced N) (λ (n : ℕ). length (N.listed n)) (in_first g N us) limit)
    (delta_packing (sizes_of g M) (is_forced M) (λ (n : ℕ). length (M.listed n)) (in_first g M us) limit)
    (delta_same (λ n. n < limit) (λ n. (0 < length (N.buffered n)) ⊎ (in_first g N us n ≡ true)) limit (sizes_of g N) (sizes_of g M) refl (λ n l. l)
    (λ n l. ap length (own n l)) (λ n l s. ap (λ (v : View). length (rewrite v)) (after n l s)) (λ n l p. inl p)
    (is_forced N) (is_forced M) forced_same (λ n l f. inl (ltb-true 0 (length (N.buffered n)) (and_left (ltb 0 (length (N.buffered n))) _ f)))
    (λ (n : ℕ). length (N.listed n)) (λ (n : ℕ). length (M.listed n)) (λ n l d b. ap (λ (k : ℕ). eqb k d) (list n l).size)
    (in_first g N us) (in_first g M us) (first_same g limit N M us list) (λ n l o. inr o))
  where
    forced_same : (n : ℕ) → n < limit → is_forced N n ≡ is_forced M n
    forced_same n l =
        cases {Q = forced_by (N.after n) (N.buffered n) (length (N.listed n)) ≡ forced_by (M.after n) (N.buffered n) (length (N.listed n))} (ltb 0 (length (N.buffered n)))
        (λ t. ap (λ (v : View). forced_by v (N.buffered n) (length (N.listed n))) (after n l (inl (ltb-true 0 (length (N.buffered n)) t))))
        (λ t. unforced (N.after n) (M.after n) (N.buffered n) (length (N.listed n)) t)
        ∙ ap₂ (forced_by (M.after n)) (own n l) (list n l).size

delta_contents : (g : Geometry) (limit : ℕ) (us : List ℕ) (N M : Contents) → SameContents limit N M
    → SameAssignment limit (delta_assignment g limit us N) (delta_assignment g limit us M)
delta_contents g limit us N M h = delta_reads g limit us N M h.buffered h.listed (λ n l s. h.after n l)

snapshot_contents : (g : Geometry) (limit : ℕ) (N M : Contents) → SameContents limit N M
    → SameAssignment limit (snapshot_assignment g limit N) (snapshot_assignment g limit M)
snapshot_contents g limit N M h =
    assignment_same limit (snapshot_packing (sizes_of g N) limit) (snapshot_packing (sizes_of g M) limit)
    (packed_same (λ n. n < limit) (λ n. Unit {0}) limit (sizes_of g N) (sizes_of g M) refl (λ n l. l)
    (λ n l. ap length (h.buffered n l)) (λ n l s. ap (λ (v : View). length (rewrite v)) (h.after n l)) (λ n l p. tt)
    (λ (n : ℕ). true) (λ (n : ℕ). true) (λ n q. refl) (λ n l f. tt))

-- ---- the decision reads the nodes below limit only
pub decide_same : (g : Geometry) (limit h : ℕ) (ps : List Page) (head : ℕ) (un us : List ℕ) (N M : Contents) → SameContents limit N M
    → SameBelow limit (decide_on g limit h ps head un us N) (decide_on g limit h ps head un us M)
decide_same g limit h ps head un us N M e =
    let d = delta_contents g limit us N M e in
    let s = snapshot_contents g limit N M e in
    let i : has_places g ps head (take (length un - h) un) (delta_assignment g limit us N) ≡ has_places g ps head (take (length un - h) un) (delta_assignment g limit us M) =
    ap (λ (k : ℕ). leb (suc k) (length (places g ps head (take (length un - h) un)))) d.count in
    let j : has_places g ps head (take h un) (snapshot_assignment g limit N) ≡ has_places g ps head (take h un) (snapshot_assignment g limit M) =
    ap (λ (k : ℕ). leb (suc k) (length (places g ps head (take h un)))) s.count in
    cases (has_places g ps head (take (length un - h) un) (delta_assignment g limit us N))
    (λ t. rw (t, sym i ∙ t) (both_follow d))
    (λ t. cases (has_places g ps head (take h un) (snapshot_assignment g limit N))
    (λ v. rw (t, sym i ∙ t, v, sym j ∙ v) (both_follow s))
    (λ v. rw (t, sym i ∙ t, v, sym j ∙ v) both_nothing))

-- ---- the plan reads the nodes below limit only
-- the same contents and form: the same updates
pub written_same : (N M : Contents) (a b : ℕ → Bool) (n : ℕ) → N.after n ≡ M.after n → N.buffered n ≡ M.buffered n → a n ≡ b n → written_of N a n ≡ written_of M b n
written_same N M a b n v o e =
    ap₂ (λ (x : View) (os : List Update). cond (a n) (rewrite x) os) v o ∙ ap (λ (c : Bool). cond c (rewrite (M.after n)) (M.buffered n)) e

-- a page has the same packs where units and targets are the same
pub page_same : (f h : ℕ → List Update) (t s : ℕ → Target) (limit p : ℕ) → ((n : ℕ) → n < limit → f n ≡ h n) → ((n : ℕ) → n < limit → t n ≡ s n)
    → page_packs f t limit p ≡ page_packs h s limit p
page_same f h t s limit p e d = go 0 limit (λ n l. e n (omega (arith, l))) (λ n l. d n (omega (arith, l)))
  where
    go : (k m : ℕ) → ((n : ℕ) → n < k + m → f n ≡ h n) → ((n : ℕ) → n < k + m → t n ≡ s n)
        → flat (λ (n : ℕ). cond (goes_to p (t n)) (keep n (f n) []) []) (count_from k m) ≡ flat (λ (n : ℕ). cond (goes_to p (s n)) (keep n (h n) []) []) (count_from k m)
    go k zero w v = refl
    go k (suc m) w v =
        ap₂ ◌++◌ (ap₂ (λ (x : Target) (us : List Update). cond (goes_to p x) (keep k us []) []) (v k (omega arith)) (w k (omega arith)))
        (go (suc k) m (λ n l. w n (omega arith)) (λ n l. v n (omega arith)))

-- and so have all pages
pub packs_same : (limit : ℕ) (N M : Contents) (A C : Assignment) → SameContents limit N M → SameAssignment limit A C → all_packs N A limit ≡ all_packs M C limit
packs_same limit N M A C e d =
    tab_same (page_packs (written_of N A.is_anew) A.target limit) (page_packs (written_of M C.is_anew) C.target limit) 0 A.count
    (λ p l. page_same (written_of N A.is_anew) (written_of M C.is_anew) A.target C.target limit p
    (λ n m. written_same N M A.is_anew C.is_anew n (e.after n m) (e.buffered n m) (d.is_anew n m)) d.target)
    ∙ ap (λ (c : ℕ). tab 0 c (page_packs (written_of M C.is_anew) C.target limit)) d.count

-- the same decision, over contents that are the same below limit: the same plan
pub plan_by_same : (g : Geometry) (limit B : ℕ) (ps : List Page) (tb : List Node) (G : ℕ) (N M : Contents) (D E : Decision) → SameContents limit N M → SameBelow limit D E
    → plan_by g limit B ps tb G N D ≡ plan_by g limit B ps tb G M E
plan_by_same g limit B ps tb G N M nothing nothing e both_nothing = refl
plan_by_same g limit B ps tb G N M (follow A) (follow C) e (both_follow d) =
    ap (plan_on g ps (head_block g ps) (unused_blocks g B ps tb G)) (packs_same limit N M A C e d)
plan_by_same g limit B ps tb G N M nothing (follow C) e x = elim x [ ]
plan_by_same g limit B ps tb G N M (follow A) nothing e x = elim x [ ]
