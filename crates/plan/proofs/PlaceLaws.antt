-- Free pages of a block, and the places and erases that follow from them. Assumes nothing.
use mathlib.Core.Path.{◌≡◌, refl, sym, ap, ap₂, ◌∙◌, subst}
use mathlib.Core.Bool.{Bool, true, false, cond, ◌&&◌, not}
use mathlib.Core.List.{List, [], ◌∷◌, ◌++◌, append_assoc, append-nil}
use mathlib.Core.Logic.{⊎_elim}
use Prim.Native.Nat.{ℕ, zero, suc, ◌+◌, ◌-◌, ◌*◌, ◌/◌, ◌%◌, ◌<◌, ◌≤◌}
use native.Mathlib.Nat.{add-mul, add-sub_cancel_left, div-eq_of_lt, div-eq-sub-div, div-lt_iff_lt-mul, mod-eq_of_lt, mod-eq-sub-mod, mul_assoc}
use native.Mathlib.Numerals.{add-one}
use native.Mathlib.Omega.{arith}
use lib.Dec.{leb, ltb}
use lib.ListN.{length, take, drop, set, get_or, length-append, drop_of_length-le, get_or-append}
use lib.Seq.{take_all, take-take, take-nil, take_at, take-suc, take-suc-set, drop-drop, drop-cons, length-take-le, get_or-append-add, get_or-take}
use borrow.Author.Tests.{le-leb, lt-leb}
use Rattle.lists.specs.Lists.{filter, all, flat, part, All, Diff}
use Rattle.lists.proofs.Tests.{below_or_not}
use Rattle.lists.proofs.Alls.{All-head, All-tail, All-map, All-take, All-filter}
use Rattle.lists.proofs.Flats.{length_tab, get_d_tab}
use Rattle.lists.proofs.Parts.{length_part}
use Rattle.lists.proofs.Places.{get_d_default}
use Rattle.chip.specs.Geometry.{Geometry, Fits, block_size, page_size}
use Rattle.chip.specs.Page.{Page, is_free}
use Rattle.chip.specs.Chip.{pages_of}
use Rattle.chip.proofs.ImageLaws.{block_length, length_pages, page_at_lem, pages_free}
use Rattle.chip.proofs.Sizes.{block_on, block_within, page_in}
use Rattle.journal.specs.Plan.{count_from, free_at, pages_in, places, erases, wholly_free}
use Rattle.lists.proofs.Sets.{mem_at}
use Rattle.journal.proofs.PlanPlaces.{Origin, old, new, places_from, length_flat}
use Rattle.plan.proofs.EraseLaws.{places_count, erases_walk}
use Rattle.plan.proofs.LastLaws.{page_is}
use Rattle.plan.proofs.MarkLaws.{push_done}
use Rattle.plan.specs.PlacesCode.{free_pages, first_places, first_erases, Spare, Lays, erases_from}

-- ---- the closed names
module _ (g : Geometry) (ps : List Page) where
  pub free_pages_is : (b : ℕ) → free_pages g ps b ≡ filter (free_at ps) (pages_in g b)
  unfolding free_pages
  free_pages_is b = refl

  module _ (head : ℕ) (bs : List ℕ) where
    pub first_places_is : (n : ℕ) → first_places g ps head bs n ≡ take n (places g ps head bs)
    unfolding first_places
    first_places_is n = refl

    pub first_erases_is : (n : ℕ) → first_erases g ps head bs n ≡ erases g ps (take n (places g ps head bs)) bs
    unfolding first_erases
    first_erases_is n = refl

    -- how many places there are
    pub places_size : length (places g ps head bs) ≡ length (free_pages g ps head) + length bs * g.pages
    unfolding free_pages
    places_size = places_count g ps head bs

-- the first n of two lists, of which the first is cut to n already
take_front : (n : ℕ) (xs ys : List ℕ) → take n (take n xs ++ ys) ≡ take n (xs ++ ys)
take_front zero xs ys = refl
take_front (suc n) [] ys = refl
take_front (suc n) (x ∷ xs) ys = ap (λ (l : List ℕ). x ∷ l) (take_front n xs ys)

-- ---- the pages of a block
part_drop : {A : Type 0} (a m n : ℕ) (xs : List A) → n ≡ a + m → drop a (take n xs) ≡ take m (drop a xs)
part_drop zero m n xs e = ap (λ (i : ℕ). take i xs) (let q : n ≡ m = omega arith in q)
part_drop (suc a) m zero xs e = absurd (omega arith)
part_drop (suc a) m (suc n) [] e = sym (take-nil m)
part_drop (suc a) m (suc n) (x ∷ xs) e = part_drop a m n xs (omega arith)

-- a part of a part
part_part : {A : Type 0} (a n b k : ℕ) (xs : List A) → b + k ≤ n → part b k (part a n xs) ≡ part (a + b) k xs
part_part a n b k xs h =
    let e : n ≡ b + (n - b) = omega arith in
    ap (take k) (part_drop b (n - b) n (drop a xs) e)
    ∙ take-take k (n - b) (drop b (drop a xs)) (omega arith)
    ∙ ap (take k) (drop-drop b a xs)

-- all of a list, by places
all_from : {A : Type 0} (p : A → Bool) (q : ℕ → Bool) (d : A) (xs : List A) (k : ℕ)
    → ((i : ℕ) → i < length xs → p (get_or xs i d) ≡ q (k + i)) → all p xs ≡ all q (count_from k (length xs))
all_from p q d [] k h = refl
all_from p q d (x ∷ xs) k h =
    let a : p x ≡ q k = h 0 (omega arith) ∙ ap q (let e : k + 0 ≡ k = omega arith in e) in
    ap₂ ◌&&◌ a (all_from p q d xs (suc k) (λ i l. h (suc i) (omega arith) ∙ ap q (let e : k + suc i ≡ suc k + i = omega arith in e)))

module _ (g : Geometry) (f : Fits g) (image : List ℕ) (b : ℕ) (on : b * g.pages + g.pages ≤ length image / page_size g) where
  abbrev block_at : List ℕ
  block_at = part (b * block_size g) (block_size g) image

  block_bytes : length block_at ≡ block_size g
  block_bytes = length_part image (b * block_size g) (block_size g) (block_within g (length image) b on)

  block_pages_lem : length (pages_of g block_at) ≡ g.pages
  block_pages_lem = block_length g block_at f block_bytes

  page_count_lem : length block_at / page_size g ≡ g.pages
  page_count_lem = sym (length_pages g block_at) ∙ block_pages_lem

  page_free : (i : ℕ) → i < g.pages → is_free (get_or (pages_of g block_at) i []) ≡ free_at (pages_of g image) (b * g.pages + i)
  page_free i h =
      let size : ℕ = page_size g in
      let l : b * g.pages + i < length image / size = omega arith in
      let e : b * block_size g + i * size ≡ (b * g.pages + i) * size =
      ap (λ (n : ℕ). n + i * size) (sym (mul_assoc b g.pages size)) ∙ sym (add-mul (b * g.pages) i size) in
      ap is_free
      (page_at_lem g block_at i (subst (λ (n : ℕ). i < n) (sym page_count_lem) h)
      ∙ part_part (b * block_size g) (block_size g) (i * size) size image (page_in g i h)
      ∙ ap (λ (a : ℕ). part a size image) e
      ∙ sym (page_at_lem g image (b * g.pages + i) l)
      ∙ get_d_default (pages_of g image) (b * g.pages + i) [] (0 ∷ []) (subst (λ (n : ℕ). b * g.pages + i < n) (sym (length_pages g image)) l))

  -- the block is wholly free: its bytes, and its pages by place
  pub block_free : is_free (part (b * block_size g) (b * block_size g + block_size g - b * block_size g) image) ≡ wholly_free g (pages_of g image) b
  block_free =
      ap (λ (n : ℕ). is_free (part (b * block_size g) n image)) (add-sub_cancel_left (b * block_size g) (block_size g))
      ∙ pages_free g block_at g.pages page_count_lem block_bytes
      ∙ all_from is_free (free_at (pages_of g image)) [] (pages_of g block_at) (b * g.pages) (λ i l. page_free i (subst (λ (n : ℕ). i < n) block_pages_lem l))
      ∙ ap (λ (n : ℕ). all (free_at (pages_of g image)) (count_from (b * g.pages) n)) block_pages_lem

-- ---- free pages by place
pub free_is : (g : Geometry) (image : List ℕ) (n : ℕ) → n < length image / page_size g
    → is_free (part (n * page_size g) (n * page_size g + page_size g - n * page_size g) image) ≡ free_at (pages_of g image) n
free_is g image n h =
    ap is_free (page_is g image n h ∙ get_d_default (pages_of g image) n [] (0 ∷ []) (omega (arith, length_pages g image)))

-- ---- the pages of blocks, counted through them
pub flat_at : (g : Geometry) → 0 < g.pages → (bs : List ℕ) (j : ℕ) → j < length bs * g.pages
    → get_or (flat (pages_in g) bs) j 0 ≡ get_or bs (j / g.pages) 0 * g.pages + j % g.pages
flat_at g pos [] j h = absurd (omega arith)
flat_at g pos (b ∷ bs) j h =
    let k : ℕ = g.pages in
    let own : List ℕ = pages_in g b in
    let rest : List ℕ = flat (pages_in g) bs in
    let l : length own ≡ k = length_tab (λ (i : ℕ). i) (b * k) k in
    ⊎_elim
    (λ (m : j < k). let z : j / k ≡ 0 = div-eq_of_lt m in let y : j % k ≡ j = mod-eq_of_lt m in
    get_or-append own rest 0 j (subst (λ (n : ℕ). j < n) (sym l) m) ∙ get_d_tab (λ (i : ℕ). i) (b * k) k j 0 m
    ∙ ap₂ (λ (a r : ℕ). get_or (b ∷ bs) a 0 * k + r) (sym z) (sym y))
    (λ (m : k ≤ j). let i : ℕ = j - k in
    let e : j ≡ k + i = omega arith in
    let z : j / k ≡ suc (i / k) = div-eq-sub-div pos m ∙ add-one (i / k) in
    let y : j % k ≡ i % k = mod-eq-sub-mod m in
    ap (λ (n : ℕ). get_or (own ++ rest) n 0) (e ∙ ap (λ (n : ℕ). n + i) (sym l)) ∙ get_or-append-add own rest i 0
    ∙ flat_at g pos bs i (omega arith) ∙ ap₂ (λ (a r : ℕ). get_or (b ∷ bs) a 0 * k + r) (sym z) (sym y))
    (below_or_not j k)

-- an element of a list
pub all_at : {P : ℕ → Type 0} (xs : List ℕ) (k : ℕ) → k < length xs → All P xs → P (get_or xs k 0)
all_at [] k l a = absurd (omega arith)
all_at (x ∷ xs) zero l a = All-head a
all_at (x ∷ xs) (suc k) l a = all_at xs k (omega arith) (All-tail a)

-- an element of the first w
pub take_at_all : {P : ℕ → Type 0} (xs : List ℕ) (w k : ℕ) → w ≤ length xs → k < w → All P (take w xs) → P (get_or xs k 0)
take_at_all {P} xs w k h l a = subst P (get_or-take w xs k 0 l) (all_at (take w xs) k (rw (length-take-le w xs h) l) a)

-- place j of the first w blocks of the ring is on one of them
pub ring_block : (g : Geometry) → 0 < g.pages → (B head w : ℕ) (ring : List ℕ) → length ring ≡ 32 → w ≤ 32 → B ≤ 32 → Spare B head (take w ring)
    → (j : ℕ) → j < w * g.pages → (j / g.pages < 32) × (get_or ring (j / g.pages) 0 < 32)
ring_block g pos B head w ring lr lw lb s j h =
    let m : j / g.pages < w = (div-lt_iff_lt-mul pos).1 h in
    let on = take_at_all ring w (j / g.pages) (omega arith) m s.range in
    (omega arith, omega (arith, on.0))

-- ---- the places behind the first n
module _ (g : Geometry) (pos : 0 < g.pages) (w n : ℕ) (ring before : List ℕ) (lr : length ring ≡ 32) (lw : w ≤ 32) (ln : n ≤ length before) where
  abbrev bs : List ℕ
  bs = take w ring

  abbrev goal : List ℕ
  goal = take n before ++ flat (pages_in g) bs

  front : length (take n before) ≡ n
  front = length-take-le n before ln

  width : length bs ≡ w
  width = length-take-le w ring (omega arith)

  goal_length : length goal ≡ n + w * g.pages
  goal_length = length-append (take n before) (flat (pages_in g) bs) ∙ ap₂ ◌+◌ front (length_flat g bs ∙ ap (λ (k : ℕ). k * g.pages) width)

  pub rest_start : take n before ≡ take n goal
  rest_start = sym (take_at (take n before) (flat (pages_in g) bs) n front)

  -- one place more
  pub rest_next : (i : ℕ) (after : List ℕ) (v : ℕ) → n ≤ i → i < n + w * g.pages → i < length after → take i after ≡ take i goal
      → v ≡ get_or ring ((i - n) / g.pages) 0 * g.pages + (i - n) % g.pages → take (i + 1) (set after i v) ≡ take (i + 1) goal
  rest_next i after v h k l e q =
      let j : ℕ = i - n in
      let low : j < w * g.pages = omega arith in
      let m : j / g.pages < w = (div-lt_iff_lt-mul pos).1 low in
      let at : get_or goal i 0 ≡ v =
      ap (λ (a : ℕ). get_or goal a 0) (let z : i ≡ length (take n before) + j = omega (arith, front) in z)
      ∙ get_or-append-add (take n before) (flat (pages_in g) bs) j 0
      ∙ flat_at g pos bs j (subst (λ (k : ℕ). j < k * g.pages) (sym width) low)
      ∙ ap (λ (a : ℕ). a * g.pages + j % g.pages) (get_or-take w ring (j / g.pages) 0 m) ∙ sym q in
      ap (λ (a : ℕ). take a (set after i v)) (add-one i)
      ∙ take-suc-set after i v l
      ∙ ap₂ (λ (a : List ℕ) (b : ℕ). a ++ (b ∷ [])) e (sym at)
      ∙ sym (take-suc goal i 0 (omega (arith, goal_length)))
      ∙ ap (λ (a : ℕ). take a goal) (sym (add-one i))

-- enough places
pub rest_done : (need i : ℕ) (after goal : List ℕ) → need ≤ i → take i after ≡ take i goal → take need after ≡ take need goal
rest_done need i after goal h e = sym (take-take need i after h) ∙ ap (take need) e ∙ take-take need i goal h

-- ---- every place is on the chip
pub places_on : (g : Geometry) (B head n : ℕ) (ps : List Page) (bs : List ℕ) → head < B → Spare B head bs → All (λ (p : ℕ). p < B * g.pages) (first_places g ps head bs n)
unfolding first_places
places_on g B head n ps bs h s = All-take n (All-map (λ p o. go p o) (places_from g ps head bs))
  where
    go : (p : ℕ) → Origin g ps head bs p → p < B * g.pages
    go p (old i f) = omega (arith, i.1, block_on g head B h)
    go p (new b m i) = let r = mem_at m s.range in omega (arith, i.1, block_on g b B r.0)

-- ---- the blocks to erase
-- the next block
module _ (g : Geometry) (ps : List Page) (bs : List ℕ) (j : ℕ) where
  pub erase_next : (left n r : ℕ) (before after target : List ℕ) → j < length bs
      → take n before ++ erases_from g ps left (drop j bs) ≡ target
      → (keep : Bool) → keep ≡ (ltb 0 left && not (wholly_free g ps (get_or bs j 0)))
      → take r after ≡ take n before ++ cond keep (get_or bs j 0 ∷ []) []
      → take r after ++ erases_from g ps (left - g.pages) (drop (j + 1) bs) ≡ target
  erase_next left n r before after target h e keep k is =
      let b : ℕ = get_or bs j 0 in
      let rest : List ℕ = erases_from g ps (left - g.pages) (drop (suc j) bs) in
      let next : drop j bs ≡ b ∷ drop (suc j) bs = drop-cons bs j 0 h in
      ap (λ (a : ℕ). take r after ++ erases_from g ps (left - g.pages) (drop a bs)) (add-one j)
      ∙ ap (λ (a : List ℕ). a ++ rest) is ∙ append_assoc (take n before) (cond keep (b ∷ []) []) rest
      ∙ ap (λ (a : List ℕ). take n before ++ a) (one keep b rest ∙ ap (λ (t : Bool). cond t (b ∷ rest) rest) k)
      ∙ ap (λ (a : List ℕ). take n before ++ erases_from g ps left a) (sym next) ∙ e
    where
      one : (t : Bool) (b : ℕ) (rest : List ℕ) → cond t (b ∷ []) [] ++ rest ≡ cond t (b ∷ rest) rest
      one true b rest = refl
      one false b rest = refl

  pub erase_done : (left : ℕ) (list target : List ℕ) → length bs ≤ j → list ++ erases_from g ps left (drop j bs) ≡ target → list ≡ target
  erase_done left list target h e =
      sym (append-nil list)
      ∙ ap (λ (a : List ℕ). list ++ erases_from g ps left a) (sym (drop_of_length-le bs {i = j} h)) ∙ e

-- the erases of the plan
erases_first : (g : Geometry) → 0 < g.pages → (head n : ℕ) (ps : List Page) (bs : List ℕ) → Diff bs → All (λ b. b ≡ head → ⊥) bs
    → erases_from g ps (n - length (free_pages g ps head)) bs ≡ first_erases g ps head bs n
unfolding free_pages first_erases
erases_first g pos head n ps bs d a = sym (erases_walk g ps pos head n bs d a)

erases_on : (g : Geometry) (B head n : ℕ) (ps : List Page) (bs : List ℕ) → Spare B head bs → All (λ (b : ℕ). b < B) (first_erases g ps head bs n)
unfolding first_erases
erases_on g B head n ps bs s = All-filter _ (All-map (λ b h. h.0) s.range)

-- as the walk lists them
pub erases_are : (g : Geometry) → 0 < g.pages → (B head w n reach r : ℕ) (ps : List Page) (ring after : List ℕ) → Spare B head (take w ring)
    → reach ≡ n - length (free_pages g ps head)
    → take r after ≡ erases_from g ps reach (take w ring)
    → (take r after ≡ first_erases g ps head (take w ring) n) × All (λ (b : ℕ). b < B) (take r after)
erases_are g pos B head w n reach r ps ring after s er e =
    let bs : List ℕ = take w ring in
    let is : take r after ≡ first_erases g ps head bs n =
    e ∙ ap (λ (k : ℕ). erases_from g ps k bs) er
    ∙ erases_first g pos head n ps bs s.differ (All-map (λ b h. h.1) s.range) in
    (is, rw is (erases_on g B head n ps bs s))

-- ---- what the functions on the image ask
pub lower : (a b d : ℕ) → a < b → b ≤ d → a < d
lower a b d h k = omega arith

-- the pages of a block have a place each in the array of a plan
pub most_places : (g : Geometry) → Fits g → (n : ℕ) → n ≤ g.pages → n ≤ 160
most_places g f n h = omega (arith, f.pages_most)

-- ---- the first `most` free pages of a block, found one after the other
module _ (q : ℕ → Bool) (most i e n : ℕ) (list target : List ℕ) (ln : n ≤ length list) (left : take n list ++ filter q (count_from i (e - i)) ≡ target) where
  -- enough are found
  pub free_enough : n ≡ most → take n list ≡ take most target
  free_enough h =
      ap (λ (k : ℕ). take k list) h
      ∙ sym (take_at (take most list) (filter q (count_from i (e - i))) most (length-take-le most list (omega arith)))
      ∙ ap (take most) (ap (λ (k : ℕ). take k list ++ filter q (count_from i (e - i))) (sym h) ∙ left)

  -- the block ends
  pub free_over : e ≤ i → n ≤ most → take n list ≡ take most target
  free_over h l =
      push_done q i e (take n list) target h left
      ∙ sym (take_all most target (omega (arith, ap length (sym (push_done q i e (take n list) target h left)), length-take-le n list ln)))

-- the first n of the array are the first `most` free pages of the head
module _ (g : Geometry) (head most n : ℕ) (ps : List Page) (after : List ℕ) (ln : n ≤ length after) (found : take n after ≡ take most (free_pages g ps head)) where
  -- n is the lesser of `most` and their number
  pub found_count : length (take most (free_pages g ps head)) ≡ n
  found_count = sym (ap length found) ∙ length-take-le n after ln

  pub found_low : (n ≤ most) × (n ≤ length (free_pages g ps head)) × (most - n ≡ most - length (free_pages g ps head))
  found_low = least most (free_pages g ps head) n found_count
    where
      least : (m : ℕ) (xs : List ℕ) (n : ℕ) → length (take m xs) ≡ n → (n ≤ m) × (n ≤ length xs) × (m - n ≡ m - length xs)
      least m xs n e =
          ⊎_elim
          (λ (h : length xs < m). let k : length (take m xs) ≡ length xs = ap length (take_all m xs (omega arith)) in (omega arith, omega arith, omega arith))
          (λ (h : m ≤ length xs). let k : length (take m xs) ≡ m = length-take-le m xs h in (omega arith, omega arith, omega arith))
          (below_or_not (length xs) m)

-- have `need` pages a place on the head and o others, where the head is searched for those that the others do not give?
pub enough_found : (need o n free : ℕ) → n ≤ free → (need - o) - n ≡ (need - o) - free → leb need (n + o) ≡ leb need (free + o)
enough_found need o n free l e =
    ⊎_elim
    (λ (h : n + o < need). lt-leb need (n + o) h ∙ sym (lt-leb need (free + o) (omega arith)))
    (λ (h : need ≤ n + o). le-leb need (n + o) h ∙ sym (le-leb need (free + o) (omega arith)))
    (below_or_not (n + o) need)

-- ---- the first n of the array are the free pages of the head that are needed, and the need has places
module _ (g : Geometry) (head w need n : ℕ) (ps : List Page) (ring after : List ℕ) (ln : n ≤ length after) (found : take n after ≡ take need (free_pages g ps head)) where
  pub need_fits : need ≤ length (free_pages g ps head) + w * g.pages → need ≤ n + w * g.pages
  need_fits h = omega (arith, (found_low g head need n ps after ln found).2)

  first_is : take need (free_pages g ps head ++ flat (pages_in g) (take w ring)) ≡ first_places g ps head (take w ring) need
  unfolding free_pages first_places
  first_is = refl

  pub lays : (B : ℕ) (last : List ℕ) → head < B → Spare B head (take w ring)
      → take need last ≡ take need (take n after ++ flat (pages_in g) (take w ring)) → Lays g B head w need ps ring last (need - n)
  lays B last h s e =
      let is : take need last ≡ first_places g ps head (take w ring) need =
      e ∙ ap (λ (a : List ℕ). take need (a ++ flat (pages_in g) (take w ring))) found
      ∙ take_front need (free_pages g ps head) (flat (pages_in g) (take w ring)) ∙ first_is in
      record { list = is; on = rw is (places_on g B head need ps (take w ring) h s); reach = (found_low g head need n ps after ln found).2 }
