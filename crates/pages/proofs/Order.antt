-- The order of live pages: before, next, chain. Assumes nothing.
use mathlib.Core.Path.{◌≡◌, refl, sym}
use mathlib.Core.Logic.{◌⊎◌, inl, inr, ⊎_elim}
use mathlib.Core.Bool.{Bool, true, false, ◌&&◌, ◌||◌}
use mathlib.Core.List.{List, [], ◌∷◌, ◌++◌}
use Prim.Native.Nat.{◌≤◌, ◌<◌}
use native.Mathlib.Omega.{arith}
use lib.Dec.{ltb, eqb}
use borrow.Author.Tests.{ltb-true, ltb-false, eqb-true, eqb-false, lt-ltb, le-ltb, eq-eqb, ne_eqb}
use Rattle.lists.specs.Lists.{filter, All, none, more}
use Rattle.lists.proofs.Tests.{cases, clash, and_left, and_right, and_intro}
use Rattle.lists.proofs.Alls.{All-head, All-map, All-filter, All-right}
use Rattle.pages.specs.Steps.{Live, commit, index, count, before}

-- what `before` says
abbrev pub Before : Live → Live → Type 0
Before x y = (commit x < commit y) ⊎ ((commit x ≡ commit y) × (index x < index y))

-- not before: behind, or at the same place of the order
abbrev pub Behind : Live → Live → Type 0
Behind x y = (commit y < commit x) ⊎ ((commit y ≡ commit x) × (index y ≤ index x))

-- neighbours in order: a lesser commit number, or an equal one with a lesser index and an equal count
abbrev pub Next : Live → Live → Type 0
Next x y = (commit x < commit y) ⊎ ((commit x ≡ commit y) × (index x < index y) × (count x ≡ count y))

unfoldable pub next : Live → Live → Bool
next x y = ltb (commit x) (commit y) || (eqb (commit x) (commit y) && (ltb (index x) (index y) && eqb (count x) (count y)))

abbrev pub chain_from_lem : Live → List Live → Bool
chain_from_lem x [] = true
chain_from_lem x (y ∷ ys) = next x y && chain_from_lem y ys

-- each page and its neighbour
abbrev pub chain : List Live → Bool
chain [] = true
chain (x ∷ xs) = chain_from_lem x xs

-- ---- the tests and what they say
pub before_is : (x y : Live) → before x y ≡ true → Before x y
unfolding before
before_is x y e =
    cases (ltb (commit x) (commit y))
    (λ t. inl (ltb-true (commit x) (commit y) t))
    (λ t. let k : (eqb (commit x) (commit y) && ltb (index x) (index y)) ≡ true = (rw t at e) in
    inr (eqb-true (commit x) (commit y) (and_left _ _ k), ltb-true (index x) (index y) (and_right (eqb (commit x) (commit y)) _ k)))

pub is_before : (x y : Live) → Before x y → before x y ≡ true
unfolding before
is_before x y (inl h) = rw (lt-ltb (commit x) (commit y) h)
is_before x y (inr h) = rw (le-ltb (commit x) (commit y) (omega arith), eq-eqb (commit x) (commit y) h.0, lt-ltb (index x) (index y) h.1)

pub not_before : (x y : Live) → before x y ≡ false → Behind x y
unfolding before
not_before x y e =
    cases (ltb (commit x) (commit y))
    (λ t. let z : true ≡ false = (rw t at e) in clash refl z)
    (λ t. cases (eqb (commit x) (commit y))
    (λ q. let k : ltb (index x) (index y) ≡ false = (rw (t, q) at e) in inr (sym (eqb-true (commit x) (commit y) q), ltb-false (index x) (index y) k))
    (λ q. let n = eqb-false (commit x) (commit y) q in inl (omega (arith, ltb-false (commit x) (commit y) t, n))))

pub behind : (x y : Live) → Behind x y → before x y ≡ false
unfolding before
behind x y (inl h) = rw (le-ltb (commit x) (commit y) (omega arith), ne_eqb (commit x) (commit y) (λ e. omega arith))
behind x y (inr h) = rw (le-ltb (commit x) (commit y) (omega arith), eq-eqb (commit x) (commit y) (sym h.0), le-ltb (index x) (index y) h.1)

pub next_is : (x y : Live) → next x y ≡ true → Next x y
unfolding next
next_is x y e =
    cases (ltb (commit x) (commit y))
    (λ t. inl (ltb-true (commit x) (commit y) t))
    (λ t. let k : (eqb (commit x) (commit y) && (ltb (index x) (index y) && eqb (count x) (count y))) ≡ true = (rw t at e) in
    let m = and_right (eqb (commit x) (commit y)) _ k in
    inr (
      eqb-true (commit x) (commit y) (and_left _ _ k),
      ltb-true (index x) (index y) (and_left _ _ m),
      eqb-true (count x) (count y) (and_right (ltb (index x) (index y)) _ m),
    ))

pub is_next : (x y : Live) → Next x y → next x y ≡ true
unfolding next
is_next x y (inl h) = rw (lt-ltb (commit x) (commit y) h)
is_next x y (inr h) =
    rw (
      le-ltb (commit x) (commit y) (omega arith),
      eq-eqb (commit x) (commit y) h.0,
      lt-ltb (index x) (index y) h.1,
      eq-eqb (count x) (count y) h.2,
    )

-- ---- `before` orders, as the laws of sorting ask
pub asym : (x y : Live) → before y x ≡ true → before x y ≡ false
asym x y e = behind x y (⊎_elim {C = Behind x y} (λ h. inl h) (λ h. inr (h.0, omega arith)) (before_is y x e))

trans_behind : (x y z : Live) → Behind y x → Behind z y → Behind z x
trans_behind x y z (inl h) (inl k) = inl (omega arith)
trans_behind x y z (inl h) (inr k) = inl (omega arith)
trans_behind x y z (inr h) (inl k) = inl (omega arith)
trans_behind x y z (inr h) (inr k) = inr (omega arith, omega arith)

pub trans : (x y z : Live) → before y x ≡ false → before z y ≡ false → before z x ≡ false
trans x y z e f = behind z x (trans_behind x y z (not_before y x e) (not_before z y f))

pub trans_Next : (x y z : Live) → Next x y → Next y z → Next x z
trans_Next x y z (inl h) (inl k) = inl (omega arith)
trans_Next x y z (inl h) (inr k) = inl (omega arith)
trans_Next x y z (inr h) (inl k) = inl (omega arith)
trans_Next x y z (inr h) (inr k) = inr (omega arith, omega arith, omega arith)

pub next_before : (x y : Live) → Next x y → Before x y
next_before x y (inl h) = inl h
next_before x y (inr h) = inr (h.0, h.1)

-- ---- a chain, neighbour by neighbour, is a chain for any two
pub chain_far : (x : Live) (ys : List Live) → chain_from_lem x ys ≡ true → All (Next x) ys
chain_far x [] e = none
chain_far x (y ∷ ys) e =
    let h = next_is x y (and_left _ _ e) in
    more h (All-map (λ z k. trans_Next x y z h k) (chain_far y ys (and_right (next x y) _ e)))

pub chain_tail : (x : Live) (ys : List Live) → chain_from_lem x ys ≡ true → chain ys ≡ true
chain_tail x [] e = refl
chain_tail x (y ∷ ys) e = and_right (next x y) _ e

pub chain_cons : (x : Live) (ys : List Live) → All (Next x) ys → chain ys ≡ true → chain_from_lem x ys ≡ true
chain_cons x [] h e = refl
chain_cons x (y ∷ ys) h e = and_intro (next x y) (chain_from_lem y ys) (is_next x y (All-head h)) e

-- parts of a chain
pub chain_filter : (p : Live → Bool) (xs : List Live) → chain xs ≡ true → chain (filter p xs) ≡ true
chain_filter p [] e = refl
chain_filter p (x ∷ xs) e =
    let r = chain_filter p xs (chain_tail x xs e) in
    cases (p x) (λ t. rw t (chain_cons x (filter p xs) (All-filter p (chain_far x xs e)) r)) (λ t. rw t r)

pub chain_right : (xs ys : List Live) → chain (xs ++ ys) ≡ true → chain ys ≡ true
chain_right [] ys e = e
chain_right (x ∷ xs) ys e = chain_right xs ys (chain_tail x (xs ++ ys) e)

-- what stands in front of y in a chain
pub chain_front : (xs : List Live) (y : Live) (ys : List Live) → chain (xs ++ y ∷ ys) ≡ true → All (λ (x : Live). Next x y) xs
chain_front [] y ys e = none
chain_front (x ∷ xs) y ys e =
    more (All-head (All-right xs (y ∷ ys) (chain_far x (xs ++ y ∷ ys) e))) (chain_front xs y ys (chain_tail x (xs ++ y ∷ ys) e))
