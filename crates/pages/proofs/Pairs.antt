-- Step 2 asks of any two pages what a chain asks of neighbours in order; so steps 1 to 3 can be read from the ordered pages. Assumes nothing.
use mathlib.Core.Path.{◌≡◌, refl, sym, ap₂, ◌∙◌}
use mathlib.Core.Logic.{inl, inr}
use mathlib.Core.Bool.{Bool, true, cond, ◌&&◌, not}
use mathlib.Core.List.{List, [], ◌∷◌}
use native.Mathlib.Omega.{arith}
use lib.Dec.{eqb}
use borrow.Author.Tests.{not-true, eqb-true, eqb-false, eq-eqb, ne_eqb}
use Rattle.lists.specs.Lists.{all, All, none, more, insert}
use Rattle.lists.proofs.Tests.{cases, and_left, and_right, and_intro}
use Rattle.lists.proofs.Alls.{All-head, All-tail, All-map, all_All, All-all}
use Rattle.lists.proofs.Sorts.{All-insert, All-sort, insert_All, sort_All}
use Rattle.lists.proofs.Anys.{all_sort}
use Rattle.lists.proofs.Tests.{same_test}
use Rattle.chip.specs.Geometry.{Geometry}
use Rattle.chip.specs.Page.{Page}
use Rattle.pages.specs.Data.{obeys}
use Rattle.pages.specs.Steps.{Live, commit, index, count, agree, agree_all, before, ordered, Stood, refused, split_last, settle, live_from, steps}
use Rattle.pages.proofs.Order.{Before, Behind, Next, chain_from_lem, chain, before_is, not_before, trans_Next, chain_far, chain_tail, chain_cons}

-- ---- two pages
abbrev pub Agree : Live → Live → Type 0
Agree x y = commit x ≡ commit y → (count x ≡ count y) × (index x ≡ index y → ⊥)

pub agree_is : (x y : Live) → agree x y ≡ true → Agree x y
agree_is x y e q =
    let k : (eqb (count x) (count y) && not (eqb (index x) (index y))) ≡ true = (rw (eq-eqb (commit x) (commit y) q) at e) in (
      eqb-true (count x) (count y) (and_left _ _ k),
      eqb-false (index x) (index y) (not-true (eqb (index x) (index y)) (and_right (eqb (count x) (count y)) _ k)),
    )

pub is_agree : (x y : Live) → Agree x y → agree x y ≡ true
is_agree x y h =
    cases (eqb (commit x) (commit y))
    (λ t. let r = h (eqb-true (commit x) (commit y) t) in rw (t, eq-eqb (count x) (count y) r.0, ne_eqb (index x) (index y) r.1))
    (λ t. rw t)

agree_next : (x y : Live) → Next x y → Agree x y
agree_next x y (inl h) e = absurd (omega arith)
agree_next x y (inr h) e = (h.2, λ q. omega arith)

agree_back : (x y : Live) → Next y x → Agree x y
agree_back x y (inl h) e = absurd (omega arith)
agree_back x y (inr h) e = (sym h.2, λ q. omega arith)

next_agree : (x y : Live) → Before y x → Agree x y → Next y x
next_agree x y (inl h) a = inl h
next_agree x y (inr h) a = inr (h.0, h.1, sym (a (sym h.0)).0)

next_behind : (x y : Live) → Behind y x → Agree x y → Next x y
next_behind x y (inl h) a = inl h
next_behind x y (inr h) a = let r = a h.0 in let d = r.1 in inr (h.0, omega (arith, h.1, d), r.0)

-- ---- a page put into a chain where it belongs, and taken out of it
insert_chain : (x : Live) (s : List Live) → chain s ≡ true → All (Agree x) s → chain (insert before x s) ≡ true
insert_chain x [] e h = refl
insert_chain x (y ∷ ys) e h =
    cases (before y x)
    (λ t. rw t
    (chain_cons y (insert before x ys) (All-insert before x (next_agree x y (before_is y x t) (All-head h)) (chain_far y ys e))
    (insert_chain x ys (chain_tail y ys e) (All-tail h))))
    (λ t. let n = next_behind x y (not_before y x t) (All-head h) in
    rw t (chain_cons x (y ∷ ys) (more n (All-map (λ z k. trans_Next x y z n k) (chain_far y ys e))) e))

chain_insert : (x : Live) (s : List Live) → chain (insert before x s) ≡ true → (chain s ≡ true) × All (Agree x) s
chain_insert x [] e = (refl, none)
chain_insert x (y ∷ ys) e =
    cases (before y x)
    (λ t.
    let k : chain_from_lem y (insert before x ys) ≡ true = (rw t at e) in
    let r = chain_insert x ys (chain_tail y (insert before x ys) k) in
    let m = insert_All before x ys (chain_far y (insert before x ys) k) in
    (chain_cons y ys m.1 r.0, more (agree_back x y m.0) r.1))
    (λ t.
    let k : chain_from_lem x (y ∷ ys) ≡ true = (rw t at e) in
    (chain_tail x (y ∷ ys) k, All-map (λ z n. agree_next x z n) (chain_far x (y ∷ ys) k)))

chain_agree : (xs : List Live) → chain (ordered xs) ≡ true → agree_all xs ≡ true
chain_agree [] e = refl
chain_agree (x ∷ xs) e =
    let r = chain_insert x (ordered xs) e in
    and_intro (all (agree x) xs) (agree_all xs) (All-all (agree x) (All-map (λ y a. is_agree x y a) (sort_All before xs r.1))) (chain_agree xs r.0)

agree_chain : (xs : List Live) → agree_all xs ≡ true → chain (ordered xs) ≡ true
agree_chain [] e = refl
agree_chain (x ∷ xs) e =
    insert_chain x (ordered xs) (agree_chain xs (and_right (all (agree x) xs) (agree_all xs) e))
    (All-sort before (All-map (λ y a. agree_is x y a) (all_All (agree x) xs (and_left (all (agree x) xs) (agree_all xs) e))))

-- any two pages agree exactly if the ordered pages are a chain
pub chain_is : (xs : List Live) → chain (ordered xs) ≡ agree_all xs
chain_is xs = same_test (chain (ordered xs)) (agree_all xs) (chain_agree xs) (agree_chain xs)

-- ---- steps 1 to 3 on the ordered pages
-- a page's own rules
abbrev pub own : Geometry → Live → Bool
own g x = obeys g x.bytes

abbrev pub settle_ordered_lem : Geometry → List Live → Stood
settle_ordered_lem g [] = refused 7
settle_ordered_lem g (x ∷ xs) = cond (all (own g) (x ∷ xs) && chain (x ∷ xs)) (split_last (x ∷ xs)) (refused 8)

pub ordered_is : (g : Geometry) (s : List Live) → settle_ordered_lem g s ≡ cond (all (own g) s && chain s) (split_last s) (refused 8)
ordered_is g [] = refl
ordered_is g (x ∷ xs) = refl

pub settle_is : (g : Geometry) (xs : List Live) → settle g xs ≡ cond (all (own g) xs && agree_all xs) (split_last (ordered xs)) (refused 8)
settle_is g [] = refl
settle_is g (x ∷ xs) = refl

pub settle_ordered : (g : Geometry) (xs : List Live) → settle g xs ≡ settle_ordered_lem g (ordered xs)
settle_ordered g xs =
    settle_is g xs
    ∙ ap₂ (λ (a b : Bool). cond (a && b) (split_last (ordered xs)) (refused 8)) (sym (all_sort before (own g) xs)) (sym (chain_is xs))
    ∙ sym (ordered_is g (ordered xs))

pub steps_ordered : (g : Geometry) (ps : List Page) → steps g ps ≡ settle_ordered_lem g (ordered (live_from g 0 ps))
unfolding steps
steps_ordered g ps = settle_ordered g (live_from g 0 ps)
