-- The survey of blocks: what the marks leave is the list of unused blocks, and that list is the one of the plan. Assumes nothing.
use mathlib.Core.Path.{◌≡◌, refl, sym, ap, ap₂, ◌∙◌, subst}
use mathlib.Core.Bool.{Bool, true, false, cond, ◌||◌, not}
use mathlib.Core.List.{List, [], ◌∷◌, ◌++◌, reverse, reverse_aux}
use Prim.Native.Nat.{ℕ, zero, suc, ◌+◌, ◌-◌, ◌*◌, ◌<◌, ◌≤◌}
use native.Mathlib.Nat.{mul-le-mul}
use native.Mathlib.Numerals.{add-one}
use native.Mathlib.Omega.{arith}
use lib.ListN.{length, length-append, take, drop, get_or}
use borrow.Author.Tests.{lt-leb}
use lib.Seq.{drop-cons, take-take}
use Rattle.std.specs.Prelude.{Option, Some, None}
use Rattle.std.specs.List.{range_with_len}
use Rattle.std.specs.Iterator.{Yields}
use Rattle.std.proofs.lemmas.List.{map-id, take-append-drop}
use Rattle.std.proofs.lemmas.Option.{none-some, same_Some}
use Rattle.std.specs.declared.iter.Chain.{Chain}
use Rattle.std.specs.declared.ops.Range.{Range}
use Rattle.std.proofs.iter.Yields.{nat_range_steps}
use Rattle.std.specs.Iterator.Adapters.{chain_first, chain_second, chain_first_done, chain_second_done, chain_steps}
use Rattle.std.proofs.lemmas.Iterator.{YieldsList, YieldsList-from_range}
use Rattle.std.proofs.lemmas.Iterator.Consumers.{YieldsList-at, YieldsList-end, YieldsList-from_chain, YieldsList-so_far, YieldsList-turn}
use Rattle.lists.specs.Lists.{All, filter, any, more}
use Rattle.lists.proofs.Alls.{All-head, All-tail, All-map, All-take, All-drop, All-filter, false_any}
use Rattle.lists.proofs.Flats.{length_tab}
use Rattle.lists.proofs.Filters.{filter_append}
use Rattle.chip.specs.Geometry.{Geometry, Fits, block_size}
use Rattle.chip.specs.Page.{Page}
use Rattle.chip.specs.Chip.{in_block, pages_of}
use Rattle.chip.proofs.ImageLaws.{length_pages}
use Rattle.chip.proofs.Sizes.{blocks_pages, pages_pos}
use Rattle.pages.specs.Steps.{Live, live_from}
use Rattle.views.specs.Table.{Node, fresh}
use Rattle.views.specs.Stored.{stored_list}
use Rattle.journal.specs.Plan.{is_listed, holds_commit, is_used, unused, count_from, ring, head_block, node_at}
use Rattle.lists.proofs.Sets.{diff_filter, diff_take, filter_same}
use Rattle.journal.proofs.PlanBlocks.{ring_range, ring_diff}
use Rattle.plan.specs.SurveyCode.{listed_in, used_in, used_around, unused_in, first_of, is_held, is_unmarked, Surveys, Marked, Pushes}
use Rattle.plan.specs.declared.survey.Surveyed.{Surveyed}
use Rattle.plan.proofs.LastLaws.{head_on}
use Rattle.plan.specs.PlacesCode.{Spare}

-- ---- the order of a list is of no account to any
any_reversed : {A : Type 0} (p : A → Bool) (xs ys : List A) → any p (reverse_aux xs ys) ≡ (any p xs || any p ys)
any_reversed p [] ys = refl
any_reversed p (x ∷ xs) ys = any_reversed p xs (x ∷ ys) ∙ swap (p x) (any p xs) (any p ys)
  where
    swap : (a b d : Bool) → (b || (a || d)) ≡ ((a || b) || d)
    swap true true d = refl
    swap true false d = refl
    swap false b d = refl

pub any_reverse : {A : Type 0} (p : A → Bool) (xs : List A) → any p (reverse xs) ≡ any p xs
any_reverse p xs = any_reversed p xs [] ∙ none (any p xs)
  where
    none : (a : Bool) → (a || false) ≡ a
    none true = refl
    none false = refl

-- a test of the elements, by index
any_from : {A : Type 0} (f : ℕ → Bool) (p : A → Bool) (d : A) (xs : List A) (k : ℕ)
    → ((i : ℕ) → i < length xs → f (k + i) ≡ p (get_or xs i d)) → any f (count_from k (length xs)) ≡ any p xs
any_from f p d [] k h = refl
any_from f p d (x ∷ xs) k h =
    let a : f k ≡ p x = ap f (let e : k ≡ k + 0 = omega arith in e) ∙ h 0 (omega arith) in
    ap₂ ◌||◌ a (any_from f p d xs (suc k) (λ i l. ap f (let e : suc k + i ≡ k + suc i = omega arith in e) ∙ h (suc i) (omega arith)))

-- ---- the arrays hold the lists of the table tb
module _ (g : Geometry) (limit : ℕ) (lens slots : List ℕ) (c : ℕ) (xs : List Live) (tb : List Node) (size : length tb ≡ limit)
    (lists : (n : ℕ) → n < limit → stored_list lens slots n ≡ reverse (node_at tb n).pages) where
  listed_is : (b : ℕ) → listed_in g limit lens slots b ≡ is_listed g tb b
  listed_is b =
      ap (λ (n : ℕ). any (λ (i : ℕ). any (in_block g b) (stored_list lens slots i)) (count_from 0 n)) (sym size)
      ∙ any_from (λ (i : ℕ). any (in_block g b) (stored_list lens slots i)) (λ (s : Node). any (in_block g b) s.pages) fresh tb 0
      (λ i l. let on : i < limit = omega arith in
      let z : 0 + i ≡ i = omega arith in
      ap (λ (j : ℕ). any (in_block g b) (stored_list lens slots j)) z
      ∙ ap (any (in_block g b)) (lists i on) ∙ any_reverse (in_block g b) (node_at tb i).pages)

  -- a block is used by the arrays where it is by the table
  pub used_is : (b : ℕ) → used_in g limit lens slots c xs b ≡ is_used g tb c xs b
  unfolding used_in is_used
  used_is b = ap (λ (t : Bool). t || holds_commit g c xs b) (listed_is b)

  pub around_is : (B head : ℕ) → used_around g B limit lens slots c xs head ≡ filter (is_used g tb c xs) (ring B head)
  unfolding used_around
  around_is B head = all_same (ring B head)
    where
      all_same : (bs : List ℕ) → filter (used_in g limit lens slots c xs) bs ≡ filter (is_used g tb c xs) bs
      all_same [] = refl
      all_same (b ∷ bs) = rw (used_is b, all_same bs)

  pub unused_is : (B head : ℕ) → unused_in g B limit lens slots c xs head ≡ unused g B tb c xs head
  unfolding unused_in unused
  unused_is B head = all_same (ring B head)
    where
      all_same : (bs : List ℕ) → filter (λ (b : ℕ). not (used_in g limit lens slots c xs b)) bs ≡ filter (λ (b : ℕ). not (is_used g tb c xs b)) bs
      all_same [] = refl
      all_same (b ∷ bs) = rw (used_is b, all_same bs)

-- ---- the unused blocks are on the chip, no one is the head, no one stands twice
pub unused_spare : (g : Geometry) (B limit : ℕ) (lens slots : List ℕ) (c : ℕ) (xs : List Live) (head : ℕ) → head < B
    → Spare B head (unused_in g B limit lens slots c xs head)
unfolding unused_in
unused_spare g B limit lens slots c xs head h =
    record {
      range = All-filter (λ (b : ℕ). not (used_in g limit lens slots c xs b)) (ring_range B head h);
      differ = diff_filter (λ (b : ℕ). not (used_in g limit lens slots c xs b)) (ring B head) (ring_diff B head);
    }

-- so are the first n
pub spare_take : (B head n : ℕ) (bs : List ℕ) → Spare B head bs → Spare B head (take n bs)
spare_take B head n bs s = record { range = All-take n s.range; differ = diff_take n bs s.differ }

-- ---- numbers below a bound
all_below_lem : (m : ℕ) (xs : List ℕ) → ((j : ℕ) → get_or xs j 0 < m) → All (λ (x : ℕ). x < m) xs
all_below_lem m [] h = All.none
all_below_lem m (x ∷ xs) h = more (h 0) (all_below_lem m xs (λ j. h (suc j)))

-- ---- a block number that no page has
out_of : (g : Geometry) → Fits g → (p : ℕ) → p < 4294967296 → in_block g 4294967295 p ≡ false
unfolding in_block
out_of g f p l = rw (lt-leb (4294967295 * g.pages) p (omega (arith, f.many)))

pub no_block : (g : Geometry) → Fits g → (slots : List ℕ) → ((j : ℕ) → get_or slots j 0 < 4294967296) → (lens : List ℕ) (n : ℕ)
    → any (in_block g 4294967295) (stored_list lens slots n) ≡ false
no_block g f slots h lens n =
    false_any (in_block g 4294967295)
    (All-map (λ p l. out_of g f p l) (All-take (get_or lens n 0) (All-take 4 (All-drop (4 * n) (all_below_lem 4294967296 slots h)))))

-- ---- the survey
-- the head of an image of B blocks
pub survey_on : (g : Geometry) → Fits g → (B : ℕ) (image : List ℕ) → length image ≡ B * block_size g → 3 ≤ B → head_block g (pages_of g image) < B
survey_on g f B image e h =
    let l : length (pages_of g image) ≡ B * g.pages = length_pages g image ∙ blocks_pages g f (length image) B e in
    let b : 0 < B = omega arith in
    head_on g B (pages_of g image) (pages_pos g f) b l (rw l (mul-le-mul b (pages_pos g f)))

-- the unmarked blocks are the unused ones
pub unmarked_unused : (g : Geometry) (B limit : ℕ) (lens slots : List ℕ) (c : ℕ) (ps : List Page) (m : List Bool) (head : ℕ) → head < B → B ≤ 32
    → Marked g limit lens slots c ps m → filter (is_unmarked m) (ring B head) ≡ unused_in g B limit lens slots c (live_from g 0 ps) head
unfolding unused_in
unmarked_unused g B limit lens slots c ps m head h k a =
    filter_same (is_unmarked m) (λ (b : ℕ). not (used_in g limit lens slots c (live_from g 0 ps) b))
    (All-map (λ b r. ap not (a.are b (omega (arith, r.0)))) (ring_range B head h))

-- the marked blocks are the used ones
pub marked_used : (g : Geometry) (B limit : ℕ) (lens slots : List ℕ) (c : ℕ) (ps : List Page) (m : List Bool) (head : ℕ) → head < B → B ≤ 32
    → Marked g limit lens slots c ps m → filter (is_held m) (ring B head) ≡ used_around g B limit lens slots c (live_from g 0 ps) head
unfolding used_around
marked_used g B limit lens slots c ps m head h k a =
    filter_same (is_held m) (used_in g limit lens slots c (live_from g 0 ps))
    (All-map (λ b r. a.are b (omega (arith, r.0))) (ring_range B head h))

-- ---- the first of a list is of its kind where all are
first_all : {P : ℕ → Type 0} (bs : List ℕ) → All P bs → (b : ℕ) → first_of bs ≡ Some b → P b
first_all [] a b e = absurd (none-some b e)
first_all {P} (c ∷ bs) a b e = subst P (same_Some c b e) (All-head a)

-- so the oldest block is on the chip
pub oldest_on : (g : Geometry) (B limit : ℕ) (lens slots : List ℕ) (c : ℕ) (xs : List Live) (head : ℕ) → head < B
    → (b : ℕ) → first_of (used_around g B limit lens slots c xs head) ≡ Some b → b < B
unfolding used_around
oldest_on g B limit lens slots c xs head h =
    first_all (filter (used_in g limit lens slots c xs) (ring B head))
    (All-filter (used_in g limit lens slots c xs) (All-map (λ b r. r.0) (ring_range B head h)))

-- ---- what a survey tells of the first w blocks that it wrote
module _ {g : Geometry} {B limit : ℕ} {lens slots : List ℕ} {c : ℕ} {ps : List Page} {blocks : List ℕ} {r : Surveyed} (s : Surveys g B limit lens slots c ps blocks r) (w : ℕ) (h : w ≤ r.unused) where
  pub survey_take : take w blocks ≡ take w (unused_in g B limit lens slots c (live_from g 0 ps) r.head)
  survey_take = sym (take-take w r.unused blocks h) ∙ ap (take w) s.list

  pub survey_spare : Spare B r.head (take w blocks)
  survey_spare =
      let us : List ℕ = unused_in g B limit lens slots c (live_from g 0 ps) r.head in
      rw survey_take (spare_take B r.head w us (unused_spare g B limit lens slots c (live_from g 0 ps) r.head s.on))

-- ---- the ring walked as two ranges, one behind the other
range_is : (a n : ℕ) → range_with_len a n ≡ count_from a n
range_is a zero = refl
range_is a (suc n) = ap (λ (l : List ℕ). a ∷ l) (ap (λ (b : ℕ). range_with_len b n) (add-one a) ∙ range_is (suc a) n)

module _ (B head : ℕ) {s s' : Chain (Range ℕ) (Range ℕ)} (same : s' ≡ s) (first : chain_first s ≡ record { start = head + 1; end = B }) (second : chain_second s ≡ record { start = 0; end = head })
    (here : chain_first_done s ≡ false) (there : chain_second_done s ≡ false) where
  ring_walk : YieldsList (chain_steps nat_range_steps nat_range_steps) (λ x. x) s' (ring B head)
  ring_walk =
      YieldsList-at same
      (subst (YieldsList (chain_steps nat_range_steps nat_range_steps) (λ x. x) s)
      (ap₂ ◌++◌ (range_is (head + 1) (B - (head + 1)) ∙ ap (λ (a : ℕ). count_from a (B - a)) (add-one head)) (range_is 0 head))
      (YieldsList-from_chain (YieldsList-from_range (head + 1) B (B - (head + 1)) first refl) (YieldsList-from_range 0 head head second (omega arith)) here there))

  many : length (ring B head) ≡ (B - suc head) + head
  many =
      length-append (count_from (suc head) (B - suc head)) (count_from 0 head)
      ∙ ap₂ ◌+◌ (length_tab (λ (i : ℕ). i) (suc head) (B - suc head)) (length_tab (λ (i : ℕ). i) 0 head)

  module _ (h : head < B) (xs : List ℕ) (t u : Chain (Range ℕ) (Range ℕ)) (r : Option ℕ) (y : Yields (chain_steps nat_range_steps nat_range_steps) s' xs t)
      (step : chain_steps nat_range_steps nat_range_steps t r u) where
    -- an item is on the chip, and few came before it
    pub ring_item : {b : ℕ} → r ≡ Some b → (b < B) × (length xs + 1 < B)
    ring_item {b} e =
        let k = YieldsList-turn ring_walk xs t y r u b e step in
        (rw k.1 (item_at b (ring B head) (length xs) k.0 (ring_range B head h)).0, omega (arith, many, k.0))
      where
        item_at : {P : ℕ → Type 0} (d : ℕ) (ys : List ℕ) (i : ℕ) → i < length ys → All P ys → P (get_or ys i d)
        item_at d [] i l a = absurd (omega arith)
        item_at d (z ∷ zs) zero l a = All-head a
        item_at d (z ∷ zs) (suc i) l a = item_at d zs i (omega arith) (All-tail a)

    -- the first that passes
    pub ring_here : {b : ℕ} → r ≡ Some b → (q : ℕ → Bool) → filter q xs ≡ [] → q b ≡ true → Some b ≡ first_of (filter q (ring B head))
    ring_here {b} e q f p =
        let k = YieldsList-turn ring_walk xs t y r u b e step in
        let i : ℕ = length xs in
        let all : List ℕ = ring B head in
        let split : all ≡ xs ++ (b ∷ drop (suc i) all) =
        sym (take-append-drop i all)
        ∙ ap₂ ◌++◌ (sym (YieldsList-so_far ring_walk xs t y) ∙ map-id xs) (drop-cons all i b k.0 ∙ ap (λ (x : ℕ). x ∷ drop (suc i) all) (sym k.1)) in
        let found : first_of (filter q xs ++ filter q (b ∷ drop (suc i) all)) ≡ Some b = rw (f, p) refl in
        sym (ap (λ (l : List ℕ). first_of (filter q l)) split ∙ ap first_of (filter_append q xs (b ∷ drop (suc i) all)) ∙ found)

    -- at the end all were yielded
    pub ring_end : r ≡ None → (xs ≡ ring B head) × (length xs < B)
    ring_end e =
        let k = YieldsList-end ring_walk xs t y r u e step in
        (sym (map-id xs) ∙ k.0, omega (arith, many, k.1))

-- one item more kept
pub keep_item : (q : ℕ → Bool) (b n r : ℕ) (xs list after : List ℕ) → take n list ≡ filter q xs → Pushes (q b) b list after n r → take r after ≡ filter q (xs ++ (b ∷ []))
keep_item q b n r xs list after e p = p.list ∙ ap (λ (l : List ℕ). l ++ cond (q b) (b ∷ []) []) e ∙ sym (filter_append q xs (b ∷ []))

-- one item more passed over
pub pass_item : (q : ℕ → Bool) (b : ℕ) (xs : List ℕ) → filter q xs ≡ [] → q b ≡ false → filter q (xs ++ (b ∷ [])) ≡ []
pass_item q b xs e p = filter_append q xs (b ∷ []) ∙ rw (e, p)
