-- The last page in order, found in one pass over the pages from the last place down. Assumes nothing.
use mathlib.Core.Path.{◌≡◌, refl, sym, ap, ap₂, ◌∙◌}
use mathlib.Core.Bool.{Bool, true, false, cond, ◌&&◌}
use mathlib.Core.List.{List, [], ◌∷◌}
use Prim.Native.Nat.{ℕ, suc, ◌+◌, ◌-◌, ◌*◌, ◌/◌, ◌<◌, ◌≤◌}
use native.Mathlib.Nat.{add-sub_cancel_left, div-lt_iff_lt-mul}
use native.Mathlib.Omega.{arith}
use lib.Dec.{eqb}
use lib.ListN.{length, take, drop, get_or, drop_of_length-le}
use lib.Seq.{drop-cons, get_or-take}
use borrow.Author.Tests.{eqb-true, eqb-false}
use Rattle.std.specs.Prelude.{Option, Some, None}
use Rattle.lists.specs.Lists.{part, All, none, more, insert}
use Rattle.lists.proofs.Tests.{cases}
use Rattle.lists.proofs.Alls.{All-map}
use Rattle.lists.proofs.Sorts.{All-sort, Sorted, end, then, sorted}
use Rattle.chip.specs.Geometry.{Geometry, Fits, page_size}
use Rattle.chip.specs.Page.{Page, is_live}
use Rattle.chip.specs.Chip.{pages_of}
use Rattle.chip.proofs.ImageLaws.{length_pages, page_at_lem}
use Rattle.pages.specs.Units.{word}
use Rattle.pages.specs.Data.{head_of}
use Rattle.journal.proofs.MountCode.{word_front}
use Rattle.pages.specs.Steps.{Live, live, live_from, commit, index, before, ordered, last_from}
use Rattle.pages.proofs.Order.{asym, trans}
use Rattle.pages.proofs.LivePages.{places_below}
use Rattle.journal.specs.Plan.{last_place, head_block}
use Rattle.journal.specs.MountCode.{is_of}
use Rattle.plan.specs.declared.survey.Newest.{Newest}
use Rattle.plan.specs.SurveyCode.{mark, mark_held, noted, last_in, is_behind, later, LooksAtPage}

-- ---- one page more in front
behind_is : (w x : Live) → is_behind (noted w) (noted x) ≡ before w x
unfolding before
behind_is w x = refl

newer : (w x : Live) → before w x ≡ true → later (Some (noted w)) (noted x) ≡ noted x
newer w x e = let b : is_behind (noted w) (noted x) ≡ true = behind_is w x ∙ e in rw b

older : (w x : Live) → before w x ≡ false → later (Some (noted w)) (noted x) ≡ noted w
older w x e = let b : is_behind (noted w) (noted x) ≡ false = behind_is w x ∙ e in rw b

last_has : {P : Live → Type 0} (y : Live) {ys : List Live} → P y → All P ys → P (last_from y ys)
last_has y h none = h
last_has y h (more {x = z} k ks) = last_has z k ks

-- something stands behind y
skip : (y x : Live) (s : List Live) → last_in (y ∷ insert before x s) ≡ last_in (insert before x s)
skip y x [] = refl
skip y x (w ∷ ws) = cases (before w x) (λ t. rw t) (λ t. rw t)

last_insert : (x : Live) {s : List Live} → Sorted before s → last_in (insert before x s) ≡ Some (later (last_in s) (noted x))
last_insert x end = refl
last_insert x (then {x = y} {xs = []} h s) =
    cases (before y x) (λ t. rw t (ap Some (sym (newer y x t)))) (λ t. rw t (ap Some (sym (older y x t))))
last_insert x (then {x = y} {xs = w ∷ ws} h s) =
    cases (before y x)
    (λ t. rw t (skip y x (w ∷ ws) ∙ last_insert x s))
    (λ t. rw t (ap Some (sym (older (last_from w ws) x
    (last_has {P = λ (z : Live). before z x ≡ false} y t (All-map (λ z k. trans x y z t k) h))))))

-- of pages by place: of two that are equal in the order the one on the higher place is last
pub last_more : (x : Live) (xs : List Live) → last_in (ordered (x ∷ xs)) ≡ Some (later (last_in (ordered xs)) (noted x))
last_more x xs = last_insert x (sorted before asym trans xs)

pub above : (a b : ℕ) → b ≤ a → (a ≡ b → ⊥) → b < a
above a b h d = cases (eqb a b) (λ t. absurd (d (eqb-true a b t))) (λ t. omega (arith, eqb-false a b t))

-- ---- the place of the last page
abbrev pub place_of : Option Newest → ℕ
place_of None = 0
place_of (Some z) = z.place

pub last_place_lem : (s : List Live) → last_place s ≡ place_of (last_in s)
last_place_lem [] = refl
last_place_lem (x ∷ xs) = refl

last_below : (n : ℕ) → 0 < n → {s : List Live} → All (λ (x : Live). x.place < n) s → last_place s < n
last_below n l none = l
last_below n l (more {x = x} h hs) = last_has {P = λ (y : Live). y.place < n} x h hs

-- the head is on the chip, whatever the image
pub head_on : (g : Geometry) (B : ℕ) (ps : List Page) → 0 < g.pages → 0 < B → length ps ≡ B * g.pages → 0 < length ps → head_block g ps < B
head_on g B ps pos b e n =
    let l : last_place (ordered (live_from g 0 ps)) < B * g.pages =
    rw (← e) (last_below (length ps) n (All-sort before (All-map (λ (x : Live) h. omega arith) (places_below g 0 ps)))) in
    (div-lt_iff_lt-mul pos).1 l

-- ---- the pages from place n on
abbrev pub live_at : Geometry → List Page → ℕ → List Live
live_at g ps n = live_from g n (drop n ps)

module _ (g : Geometry) (ps : List Page) (n : ℕ) where
  live_step : n < length ps → live_at g ps n ≡ cond (is_live g (get_or ps n [])) (live g n (get_or ps n []) ∷ live_at g ps (suc n)) (live_at g ps (suc n))
  live_step h = rw (drop-cons ps n [] h)

  -- a live page, and one that is not
  live_on : n < length ps → is_live g (get_or ps n []) ≡ true → live_at g ps n ≡ live g n (get_or ps n []) ∷ live_at g ps (suc n)
  live_on h t = live_step h ∙ ap (λ (b : Bool). cond b (live g n (get_or ps n []) ∷ live_at g ps (suc n)) (live_at g ps (suc n))) t

  live_off : n < length ps → is_live g (get_or ps n []) ≡ false → live_at g ps n ≡ live_at g ps (suc n)
  live_off h t = live_step h ∙ ap (λ (b : Bool). cond b (live g n (get_or ps n []) ∷ live_at g ps (suc n)) (live_at g ps (suc n))) t

  -- before the first turn no page is seen
  pub look_start : length ps ≤ n → live_at g ps n ≡ []
  look_start h = rw (drop_of_length-le ps {i = n} h)

-- the marks of a live page
one_mark : (g : Geometry) (c n : ℕ) (x : Page) (m : List Bool) → is_live g x ≡ true
    → cond (is_of g c x) (mark g m n) m ≡ cond (eqb (commit (live g n x)) c) (mark g m n) m
unfolding commit
one_mark g c n x m t = rw t

module _ (g : Geometry) (c : ℕ) (ps : List Page) (m₀ : List Bool) (n at : ℕ) (e : at ≡ suc n) (h : n < length ps) (z : Option Newest) (m : List Bool)
    (ez : z ≡ last_in (ordered (live_at g ps at))) (em : m ≡ mark_held g c (live_at g ps at) m₀)
    (r : Option Newest) (m' : List Bool) (k : LooksAtPage g c n (get_or ps n []) z m r m') where
  was_z : z ≡ last_in (ordered (live_at g ps (suc n)))
  was_z = ez ∙ ap (λ (i : ℕ). last_in (ordered (live_at g ps i))) e

  was_m : m ≡ mark_held g c (live_at g ps (suc n)) m₀
  was_m = em ∙ ap (λ (i : ℕ). mark_held g c (live_at g ps i) m₀) e

  pub look_newest : r ≡ last_in (ordered (live_at g ps n))
  look_newest =
      let x : Page = get_or ps n [] in
      let y : Live = live g n x in
      let to : (b : Bool) → is_live g x ≡ b → r ≡ cond b (Some (later z (noted y))) z =
      λ b t. k.newest ∙ ap (λ (b : Bool). cond b (Some (later z (noted y))) z) t in
      cases (is_live g x)
      (λ t. to true t ∙ ap (λ (w : Option Newest). Some (later w (noted y))) was_z ∙ sym (last_more y (live_at g ps (suc n)))
      ∙ ap (λ (l : List Live). last_in (ordered l)) (sym (live_on g ps n h t)))
      (λ t. to false t ∙ was_z ∙ ap (λ (l : List Live). last_in (ordered l)) (sym (live_off g ps n h t)))

  pub look_marks : m' ≡ mark_held g c (live_at g ps n) m₀
  look_marks =
      let x : Page = get_or ps n [] in
      let y : Live = live g n x in
      cases (is_live g x)
      (λ t. k.marks ∙ one_mark g c n x m t ∙ ap (λ (w : List Bool). cond (eqb (commit y) c) (mark g w n) w) was_m
      ∙ ap (λ (l : List Live). mark_held g c l m₀) (sym (live_on g ps n h t)))
      (λ t. k.marks ∙ ap (λ (b : Bool). cond (b && eqb (head_of (take g.area x)).commit c) (mark g m n) m) t ∙ was_m
      ∙ ap (λ (l : List Live). mark_held g c l m₀) (sym (live_off g ps n h t)))

-- ---- one page
module _ (g : Geometry) (c p : ℕ) (x : Page) (z : Option Newest) (m : List Bool) where
  -- it is not live
  pub look_dead : is_live g x ≡ false → LooksAtPage g c p x z m z m
  look_dead t = record { newest = rw t; marks = rw t }

  -- it is live, with commit number w and index i
  pub look_live : Fits g → (r : Option Newest) (m' : List Bool) (w i : ℕ) → is_live g x ≡ true → w ≡ word x 0 → i ≡ get_or x 4 0
      → m' ≡ cond (eqb w c) (mark g m p) m → r ≡ Some (later z (record { commit = w; index = i; place = p })) → LooksAtPage g c p x z m r m'
  unfolding commit index
  look_live f r m' w i t ew ei em er =
      let d : List ℕ = take g.area x in
      let ec : (head_of d).commit ≡ w = word_front g.area x (omega (arith, f.holds)) ∙ sym ew in
      let eo : get_or d 4 0 ≡ i = get_or-take g.area x 4 0 (omega (arith, f.holds)) ∙ sym ei in
      record {
        newest =
            er ∙ ap₂ (λ (a b : ℕ). Some (later z (record { commit = a; index = b; place = p }))) (sym ec) (sym eo)
            ∙ ap (λ (b : Bool). cond b (Some (later z (record { commit = (head_of d).commit; index = get_or d 4 0; place = p }))) z) (sym t);
        marks =
            em ∙ ap (λ (a : ℕ). cond (eqb a c) (mark g m p) m) (sym ec)
            ∙ ap (λ (b : Bool). cond (b && eqb (head_of d).commit c) (mark g m p) m) (sym t);
      }

-- the page at place n as a part of the image
pub page_is : (g : Geometry) (image : List ℕ) (n : ℕ) → n < length image / page_size g
    → part (n * page_size g) (n * page_size g + page_size g - n * page_size g) image ≡ get_or (pages_of g image) n []
page_is g image n h =
    ap (λ (k : ℕ). part (n * page_size g) k image) (add-sub_cancel_left (n * page_size g) (page_size g)) ∙ sym (page_at_lem g image n h)

-- a turn of the pass over an image
module _ (g : Geometry) (c : ℕ) (image : List ℕ) (m₀ : List Bool) (n at : ℕ) (e : at ≡ suc n) (h : n < length image / page_size g) (z : Option Newest) (m : List Bool)
    (ez : z ≡ last_in (ordered (live_at g (pages_of g image) at))) (em : m ≡ mark_held g c (live_at g (pages_of g image) at) m₀)
    (r : Option Newest) (m' : List Bool) (k : LooksAtPage g c n (part (n * page_size g) (n * page_size g + page_size g - n * page_size g) image) z m r m') where
  on_chip : n < length (pages_of g image)
  on_chip = omega (arith, length_pages g image)

  looked : LooksAtPage g c n (get_or (pages_of g image) n []) z m r m'
  looked = rw (← page_is g image n h) k

  pub turn_newest : r ≡ last_in (ordered (live_at g (pages_of g image) n))
  turn_newest = look_newest g c (pages_of g image) m₀ n at e on_chip z m ez em r m' looked

  pub turn_marks : m' ≡ mark_held g c (live_at g (pages_of g image) n) m₀
  turn_marks = look_marks g c (pages_of g image) m₀ n at e on_chip z m ez em r m' looked
