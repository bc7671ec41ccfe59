-- Pages sorted by place: from any order, and as one pass over the chip meets them. Assumes nothing.
use mathlib.Core.Path.{◌≡◌, refl, sym, ap, ◌∙◌}
use mathlib.Core.Bool.{Bool, true, false}
use mathlib.Core.List.{List, [], ◌∷◌}
use Prim.Native.Nat.{ℕ, suc, ◌≤◌}
use native.Mathlib.Omega.{arith}
use lib.Dec.{ltb}
use borrow.Author.Tests.{ltb-true, ltb-false, lt-ltb, le-ltb}
use Rattle.lists.specs.Lists.{filter, All, none, more, insert, sort}
use Rattle.lists.proofs.Tests.{cases}
use Rattle.lists.proofs.Alls.{All-head, All-tail, All-map, All-filter}
use Rattle.lists.proofs.Sorts.{All-sort}
use Rattle.chip.specs.Geometry.{Geometry}
use Rattle.chip.specs.Page.{Page, is_live}
use Rattle.pages.specs.Steps.{Live, live, live_from}
use Rattle.pages.proofs.LivePages.{places}
use Rattle.views.proofs.ViewLaws.{Apart}
use Rattle.journal.specs.Mount.{lower_place}

-- ---- two pages at different places may be put in one after the other, in either order

insert_swap : (x y : Live) (l : List Live) → (y.place ≡ x.place → ⊥) → insert lower_place x (insert lower_place y l) ≡ insert lower_place y (insert lower_place x l)
insert_swap x y [] d =
    cases (ltb x.place y.place)
    (λ t. let h = ltb-true x.place y.place t in rw (t, le-ltb y.place x.place (omega arith)))
    (λ t. let h = ltb-false x.place y.place t in rw (t, lt-ltb y.place x.place (omega (arith, d))))
insert_swap x y (a ∷ l) d =
    cases (ltb a.place x.place)
    (λ t. let h = ltb-true a.place x.place t in
    cases (ltb a.place y.place)
    (λ u. simp (t, u) (ap (λ (r : List Live). a ∷ r) (insert_swap x y l d)))
    (λ u. let k = ltb-false a.place y.place u in let e : ltb y.place x.place ≡ true = lt-ltb y.place x.place (omega arith) in simp (t, u, e)))
    (λ t. let h = ltb-false a.place x.place t in
    cases (ltb a.place y.place)
    (λ u. let k = ltb-true a.place y.place u in let e : ltb x.place y.place ≡ true = lt-ltb x.place y.place (omega arith) in simp (t, u, e))
    (λ u. cases (ltb x.place y.place)
    (λ w. let m = ltb-true x.place y.place w in let e : ltb y.place x.place ≡ false = le-ltb y.place x.place (omega arith) in simp (t, u, w, e))
    (λ w. let m = ltb-false x.place y.place w in let e : ltb y.place x.place ≡ true = lt-ltb y.place x.place (omega (arith, d)) in simp (t, u, w, e))))

sort_insert : (b : Live → Live → Bool) (x : Live) (ys : List Live) → All (λ (y : Live). y.place ≡ x.place → ⊥) ys
    → sort lower_place (insert b x ys) ≡ insert lower_place x (sort lower_place ys)
sort_insert b x [] h = refl
sort_insert b x (y ∷ ys) h =
    cases (b y x)
    (λ t. rw t (ap (insert lower_place y) (sort_insert b x ys (All-tail h)) ∙ insert_swap y x (sort lower_place ys) (λ e. All-head h (sym e))))
    (λ t. rw t)

-- the order that pages at different places had is of no account
pub sort_sort : (b : Live → Live → Bool) (xs : List Live) → Apart xs → sort lower_place (sort b xs) ≡ sort lower_place xs
sort_sort b [] a = refl
sort_sort b (x ∷ xs) a = sort_insert b x (sort b xs) (All-sort b a.0) ∙ ap (insert lower_place x) (sort_sort b xs a.1)

-- ---- pages that stand by place already
insert_first : (x : Live) {ys : List Live} → All (λ (y : Live). x.place ≤ y.place) ys → insert lower_place x ys ≡ x ∷ ys
insert_first x none = refl
insert_first x (more {x = y} h hs) = rw (le-ltb y.place x.place h)

-- the live pages that pass a test, as one pass over the chip meets them
pub sort_live : (g : Geometry) (k : Live → Bool) (i : ℕ) (ps : List Page) → sort lower_place (filter k (live_from g i ps)) ≡ filter k (live_from g i ps)
sort_live g k i [] = refl
sort_live g k i (x ∷ xs) =
    let r = sort_live g k (suc i) xs in
    let y : Live = live g i x in
    let q : insert lower_place y (filter k (live_from g (suc i) xs)) ≡ y ∷ filter k (live_from g (suc i) xs) =
    insert_first y (All-map (λ w h. omega arith) (All-filter k (places g (suc i) xs))) in
    cases (is_live g x)
    (λ t. cases (k y) (λ u. rw (t, u, r) q) (λ u. rw (t, u) r))
    (λ t. rw t r)
