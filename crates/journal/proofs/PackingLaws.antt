-- First fit into pages of which the free units are known, and filling: no page gets more than it holds, none is begun while one has room. Assumes nothing.
use mathlib.Core.Path.{◌≡◌, refl, ap, ap₂, ◌∙◌, subst}
use mathlib.Core.Bool.{Bool, true, false, cond, ◌&&◌}
use mathlib.Core.List.{List, [], ◌∷◌}
use Prim.Native.Nat.{ℕ, zero, suc, ◌+◌, ◌-◌, ◌*◌, ◌≤◌, ◌<◌}
use native.Mathlib.Omega.{arith}
use lib.Dec.{eqb, leb, ltb}
use lib.ListN.{get_or, length}
use borrow.Author.Tests.{eq-eqb, eqb-false, eqb-true, le-leb, leb-true, ltb-false, ltb-true, ne_eqb}
use Rattle.lists.specs.Lists.{any, first, modify}
use Rattle.lists.proofs.Places.{At-get_or, At-is, At-same, get_d_default, length_modify}
use Rattle.lists.proofs.Tests.{and_left, and_right, cases, clash}
use Rattle.journal.specs.Admissible.{Target, unwritten, in_page, goes_to}
use Rattle.journal.specs.Packing.{Packing, Sizes, fill_node, fit, is_unwritten, pack_node, assign, size_of, changed_at, widen_node, widen_in}

-- ---- an element altered
module _ {A : Type 0} where
  get_d_modify : (n : ℕ) (f : A → A) (xs : List A) (d : A) → n < length xs → get_or (modify n f xs) n d ≡ f (get_or xs n d)
  get_d_modify n f xs d h = At-is n (f (get_or xs n d)) (modify n f xs) d (At-same f n (get_or xs n d) xs (At-get_or n xs d h))

  pub get_d_modify_other : (m n : ℕ) (f : A → A) (xs : List A) (d : A) → (m ≡ n → ⊥) → get_or (modify m f xs) n d ≡ get_or xs n d
  get_d_modify_other m n f [] d h = refl
  get_d_modify_other zero zero f (x ∷ xs) d h = absurd (h refl)
  get_d_modify_other zero (suc n) f (x ∷ xs) d h = refl
  get_d_modify_other (suc m) zero f (x ∷ xs) d h = refl
  get_d_modify_other (suc m) (suc n) f (x ∷ xs) d h = get_d_modify_other m n f xs d (λ e. h (ap suc e))

-- ---- sums over node numbers
abbrev pub sum : (ℕ → ℕ) → ℕ → ℕ → ℕ
sum h k zero = 0
sum h k (suc m) = h k + sum h (suc k) m

-- the same values, the same sum
pub sum_same : (h j : ℕ → ℕ) (k m : ℕ) → ((n : ℕ) → k ≤ n → n < k + m → j n ≡ h n) → sum j k m ≡ sum h k m
sum_same h j k zero e = refl
sum_same h j k (suc m) e = ap₂ ◌+◌ (e k (omega arith) (omega arith)) (sum_same h j (suc k) m (λ n a b. e n (omega arith) (omega arith)))

-- one value changed
pub sum_change : (h j : ℕ → ℕ) (n : ℕ) → ((i : ℕ) → (i ≡ n → ⊥) → j i ≡ h i) → (k m : ℕ) → k ≤ n → n < k + m → sum j k m + h n ≡ sum h k m + j n
sum_change h j n e k zero a b = absurd (omega arith)
sum_change h j n e k (suc m) a b =
    cases (eqb k n)
    (λ t. let q : k ≡ n = eqb-true k n t in
    let r = sum_same h j (suc k) m (λ i c d. e i (λ z. omega arith)) in
    omega (arith, r, ap h q, ap j q))
    (λ t. let d = eqb-false k n t in
    omega (arith, e k d, sum_change h j n e (suc k) m (omega arith) (omega arith)))

-- no value is above the sum
pub sum_least : (h : ℕ → ℕ) (n k m : ℕ) → k ≤ n → n < k + m → h n ≤ sum h k m
sum_least h n k zero a b = absurd (omega arith)
sum_least h n k (suc m) a b =
    cases (eqb k n) (λ t. omega (arith, ap h (eqb-true k n t))) (λ t. omega (arith, sum_least h n (suc k) m (omega (arith, eqb-false k n t)) (omega arith)))

-- values of 0 and 1: not above their number
pub sum_most : (h : ℕ → ℕ) (k m : ℕ) → ((n : ℕ) → h n ≤ 1) → sum h k m ≤ m
sum_most h k zero b = omega arith
sum_most h k (suc m) b = omega (arith, b k, sum_most h (suc k) m b)

-- ---- one page takes s units
module _ (units s : ℕ) where
  -- the page that takes them has s less
  pub fit_same : (rs : List ℕ) → get_or (fit units s rs) (first (leb s) rs) units ≡ get_or rs (first (leb s) rs) units - s
  fit_same [] = refl
  fit_same (r ∷ rs) = cases (leb s r) (λ t. rw t) (λ t. rw t (fit_same rs))

  -- the others stay
  pub fit_other : (rs : List ℕ) (p : ℕ) → (first (leb s) rs ≡ p → ⊥) → get_or (fit units s rs) p units ≡ get_or rs p units
  fit_other [] zero d = absurd (d refl)
  fit_other [] (suc p) d = refl
  fit_other (r ∷ rs) zero d = cases (leb s r) (λ t. let z : 0 ≡ 0 → ⊥ = rw t at d in absurd (z refl)) (λ t. rw t)
  fit_other (r ∷ rs) (suc p) d = cases (leb s r) (λ t. rw t) (λ t. rw t (fit_other rs p (λ e. d (rw t (ap suc e)))))

  -- that page has room
  pub fit_room : (rs : List ℕ) → s ≤ units → s ≤ get_or rs (first (leb s) rs) units
  fit_room [] l = l
  fit_room (r ∷ rs) l = cases (leb s r) (λ t. rw t (leb-true s r t)) (λ t. rw t (fit_room rs l))

  -- it is one of the pages then
  pub fit_index : (rs : List ℕ) → first (leb s) rs < length (fit units s rs)
  fit_index [] = omega arith
  fit_index (r ∷ rs) = cases (leb s r) (λ t. rw t (omega arith)) (λ t. rw t (omega (arith, fit_index rs)))

  -- the others were there before
  pub fit_short : (rs : List ℕ) (p : ℕ) → p < length (fit units s rs) → (first (leb s) rs ≡ p → ⊥) → p < length rs
  fit_short [] zero l d = absurd (d refl)
  fit_short [] (suc p) l d = absurd (omega arith)
  fit_short (r ∷ rs) zero l d = omega arith
  fit_short (r ∷ rs) (suc p) l d =
      cases (leb s r) (λ t. let m : suc p < suc (length rs) = rw t at l in omega arith)
      (λ t. let m : suc p < suc (length (fit units s rs)) = rw t at l in omega (arith, fit_short rs p (omega arith) (λ e. d (rw t (ap suc e)))))

  -- no page goes
  pub fit_long : (rs : List ℕ) → length rs ≤ length (fit units s rs)
  fit_long [] = omega arith
  fit_long (r ∷ rs) = cases (leb s r) (λ t. rw t (omega arith)) (λ t. rw t (omega (arith, fit_long rs)))

  -- where a page has room none is begun
  pub fit_keeps : (rs : List ℕ) → any (leb s) rs ≡ true → length (fit units s rs) ≡ length rs
  fit_keeps [] e = clash e refl
  fit_keeps (r ∷ rs) e = cases (leb s r) (λ t. rw t) (λ t. rw t (ap suc (fit_keeps rs (rw t at e))))

-- ---- one page for two groups: all pages but at most one hold two groups, and that one has room for another
pub data Filled (c : ℕ) : List ℕ → ℕ → ℕ → Type 0 where
  empty : Filled c [] 0 0
  two : {r : ℕ} {rs : List ℕ} {m k : ℕ} → Filled c rs m k → Filled c (r ∷ rs) (suc (suc m)) k
  one : {r : ℕ} {rs : List ℕ} {m k : ℕ} → c ≤ r → Filled c rs m k → Filled c (r ∷ rs) (suc m) (suc k)

-- so at most one page for two of n groups, and one more
pub record Half (c : ℕ) (rs : List ℕ) (n : ℕ) : Type 0 where
  pub groups : ℕ
  pub singles : ℕ
  pub is : Filled c rs groups singles
  pub most : groups ≤ n
  pub single : singles ≤ 1

-- two for each page, but for the single ones
pub filled_length : {c : ℕ} {rs : List ℕ} {m k : ℕ} → Filled c rs m k → 2 * length rs ≡ m + k
filled_length empty = refl
filled_length (two h) = omega (arith, filled_length h)
filled_length (one l h) = omega (arith, filled_length h)

module _ (units c s : ℕ) (big : c + c ≤ units) (small : s ≤ c) where
  -- more pages to the right of those that have no room
  fit_half : {rs : List ℕ} {m k : ℕ} → Filled c rs m k → k ≤ 1 → Half c (fit units s rs) (suc m)
  fit_half empty l = record { groups = 1; singles = 1; is = one {r = units - s} (omega arith) empty; most = omega arith; single = omega arith }
  fit_half (two {r = r} {rs = rs} {m = m} {k = k} h) l =
      cases (leb s r)
      (λ t. record { groups = suc (suc m); singles = k; is = rw t (two h); most = omega arith; single = l })
      (λ t. let H = fit_half h l in
      record { groups = suc (suc H.groups); singles = H.singles; is = rw t (two H.is); most = omega (arith, H.most); single = H.single })
  fit_half (one {r = r} {rs = rs} {m = m} {k = k} g h) l =
      let t : leb s r ≡ true = le-leb s r (omega arith) in
      record { groups = suc (suc m); singles = k; is = rw t (two h); most = omega arith; single = omega arith }

  -- one more group keeps that
  pub half_fit : {rs : List ℕ} {n : ℕ} → Half c rs n → Half c (fit units s rs) (suc n)
  half_fit H =
      let K = fit_half H.is H.single in
      record { groups = K.groups; singles = K.singles; is = K.is; most = omega (arith, K.most, H.most); single = K.single }

-- ---- the state
-- units of node n with target x, in page p
abbrev pub share : Sizes → ℕ → Target → Bool → ℕ → ℕ
share z p x a n = cond (goes_to p x) (size_of z a n) 0

-- the units of page p
abbrev pub load : Sizes → ℕ → Packing → ℕ → ℕ
load z limit S p = sum (λ (n : ℕ). share z p (S.target n) (S.is_anew n) n) 0 limit

-- the target, if there is one, is one of c pages
abbrev pub Below : ℕ → Target → Type 0
Below c unwritten = Unit {0}
Below c (in_page p) = p < c

-- every target is a page that is there; no page is empty; what is free is free; what must be anew is
pub record Good (z : Sizes) (limit : ℕ) (forced : ℕ → Bool) (S : Packing) : Type 0 where
  pub below : (n : ℕ) → Below (length S.rooms) (S.target n)
  pub some : (p : ℕ) → p < length S.rooms → 0 < load z limit S p
  pub free : (p : ℕ) → load z limit S p + get_or S.rooms p z.units ≤ z.units
  pub kept : (n : ℕ) → forced n ≡ true → S.is_anew n ≡ true

below_more : (c d : ℕ) (x : Target) → c ≤ d → Below c x → Below d x
below_more c d unwritten l b = tt
below_more c d (in_page p) l b = omega arith

unwritten_share : (z : Sizes) (p : ℕ) (x : Target) (a : Bool) (n : ℕ) → is_unwritten x ≡ true → share z p x a n ≡ 0
unwritten_share z p unwritten a n e = refl
unwritten_share z p (in_page q) a n e = clash e refl

module _ (z : Sizes) (limit : ℕ) (forced : ℕ → Bool) where
  abbrev G : Packing → Type 0
  G S = Good z limit forced S

  -- ---- a node without a page gets one
  module _ (a : Bool) (n : ℕ) (S : Packing) (good : G S) (l : n < limit) (bare : is_unwritten (S.target n) ≡ true)
      (pos : 0 < size_of z a n) (fits : size_of z a n ≤ z.units) where
    abbrev s : ℕ
    s = size_of z a n

    abbrev i : ℕ
    i = first (leb s) S.rooms

    load_assign : (p : ℕ) → load z limit (assign z a n S) p ≡ load z limit S p + cond (eqb i p) s 0
    load_assign p =
        let j : ℕ → ℕ = λ (m : ℕ). share z p (changed_at n (in_page i) S.target m) (changed_at n a S.is_anew m) m in
        let h : ℕ → ℕ = λ (m : ℕ). share z p (S.target m) (S.is_anew m) m in
        let c = sum_change h j n (λ m d. rw (ne_eqb m n d)) 0 limit (omega arith) (omega arith) in
        let o : h n ≡ 0 = unwritten_share z p (S.target n) (S.is_anew n) n bare in
        let w : j n ≡ cond (eqb i p) s 0 = rw (eq-eqb n n refl) in
        omega (arith, c, o, w)

    share_i : cond (eqb i i) s 0 ≡ s
    share_i = rw (eq-eqb i i refl)

    assign_some : (p : ℕ) → p < length (fit z.units s S.rooms) → 0 < load z limit (assign z a n S) p
    assign_some p q =
        cases (eqb i p)
        (λ t. let w : cond (eqb i p) s 0 ≡ s = rw t in omega (arith, load_assign p, w))
        (λ t. omega (arith, load_assign p, good.some p (fit_short z.units s S.rooms p q (eqb-false i p t))))

    assign_free : (p : ℕ) → load z limit (assign z a n S) p + get_or (fit z.units s S.rooms) p z.units ≤ z.units
    assign_free p =
        cases (eqb i p)
        (λ t. subst (λ (x : ℕ). load z limit (assign z a n S) x + get_or (fit z.units s S.rooms) x z.units ≤ z.units) (eqb-true i p t)
        (omega (arith, load_assign i, share_i, fit_same z.units s S.rooms, fit_room z.units s S.rooms fits, good.free i)))
        (λ t. let w : cond (eqb i p) s 0 ≡ 0 = rw t in
        omega (arith, load_assign p, w, fit_other z.units s S.rooms p (eqb-false i p t), good.free p))

    -- a good state stays good
    pub assign_good : (forced n ≡ true → a ≡ true) → G (assign z a n S)
    assign_good fo =
        record {
          below = λ m. cases (eqb m n)
              (λ t. rw t (fit_index z.units s S.rooms))
              (λ t. rw t (below_more (length S.rooms) (length (fit z.units s S.rooms)) (S.target m) (fit_long z.units s S.rooms) (good.below m)));
          some = assign_some;
          free = assign_free;
          kept = λ m f. cases (eqb m n) (λ t. rw t (fo (subst (λ (x : ℕ). forced x ≡ true) (eqb-true m n t) f))) (λ t. rw t (good.kept m f));
        }

  -- ---- a node in its own units turns anew
  module _ (n p : ℕ) (S : Packing) (good : G S) (l : n < limit) (touched : 0 < z.part n → 0 < z.whole n)
      (at_p : S.target n ≡ in_page p) (part : S.is_anew n ≡ false) (room : z.whole n ≤ z.part n + get_or S.rooms p 0) where
    abbrev turned : Packing
    turned = record { rooms = modify p (λ (r : ℕ). z.part n + r - z.whole n) S.rooms; target = S.target; is_anew = changed_at n true S.is_anew }

    there : p < length S.rooms
    there = subst (Below (length S.rooms)) at_p (good.below n)

    load_turn : (q : ℕ) → (load z limit turned q + cond (eqb p q) (z.part n) 0 ≡ load z limit S q + cond (eqb p q) (z.whole n) 0)
        × (cond (eqb p q) (z.part n) 0 ≤ load z limit S q)
    load_turn q =
        let j : ℕ → ℕ = λ (m : ℕ). share z q (S.target m) (changed_at n true S.is_anew m) m in
        let h : ℕ → ℕ = λ (m : ℕ). share z q (S.target m) (S.is_anew m) m in
        let c = sum_change h j n (λ m d. rw (ne_eqb m n d)) 0 limit (omega arith) (omega arith) in
        let b = sum_least h n 0 limit (omega arith) (omega arith) in
        let o : h n ≡ cond (eqb p q) (z.part n) 0 = rw (at_p, part) in
        let w : j n ≡ cond (eqb p q) (z.whole n) 0 = rw (at_p, eq-eqb n n refl) in
        (omega (arith, c, o, w), omega (arith, b, o))

    turn_some : (q : ℕ) → 0 < load z limit S q → 0 < load z limit turned q
    turn_some q b =
        let e = load_turn q in
        cases (eqb p q)
        (λ t. let x : cond (eqb p q) (z.part n) 0 ≡ z.part n = rw t in
        let y : cond (eqb p q) (z.whole n) 0 ≡ z.whole n = rw t in
        cases (ltb 0 (z.part n))
        (λ u. omega (arith, e.0, e.1, x, y, touched (ltb-true 0 (z.part n) u)))
        (λ u. omega (arith, e.0, x, y, ltb-false 0 (z.part n) u)))
        (λ t. let x : cond (eqb p q) (z.part n) 0 ≡ 0 = rw t in let y : cond (eqb p q) (z.whole n) 0 ≡ 0 = rw t in omega (arith, e.0, x, y))

    turn_free : (q : ℕ) → load z limit turned q + get_or turned.rooms q z.units ≤ z.units
    turn_free q =
        cases (eqb p q)
        (λ t. subst (λ (x : ℕ). load z limit turned x + get_or turned.rooms x z.units ≤ z.units) (eqb-true p q t)
        (let e = (load_turn p).0 in
        let x : cond (eqb p p) (z.part n) 0 ≡ z.part n = rw (eq-eqb p p refl) in
        let y : cond (eqb p p) (z.whole n) 0 ≡ z.whole n = rw (eq-eqb p p refl) in
        omega (
          arith,
          e,
          x,
          y,
          good.free p,
          get_d_modify p (λ (r : ℕ). z.part n + r - z.whole n) S.rooms z.units there,
          get_d_default S.rooms p 0 z.units there,
        )))
        (λ t. let e = (load_turn q).0 in
        let x : cond (eqb p q) (z.part n) 0 ≡ 0 = rw t in
        let y : cond (eqb p q) (z.whole n) 0 ≡ 0 = rw t in
        omega (arith, e, x, y, good.free q, get_d_modify_other p q (λ (r : ℕ). z.part n + r - z.whole n) S.rooms z.units (eqb-false p q t)))

    -- a good state stays good
    pub turn_good : G turned
    turn_good =
        let k : length turned.rooms ≡ length S.rooms = length_modify p (λ (r : ℕ). z.part n + r - z.whole n) S.rooms in
        record {
          below = λ m. below_more (length S.rooms) (length turned.rooms) (S.target m) (omega (arith, k)) (good.below m);
          some = λ q b. turn_some q (good.some q (omega (arith, k)));
          free = turn_free;
          kept = λ m f. cases (eqb m n) (λ t. rw t) (λ t. rw t (good.kept m f));
        }

-- ---- what is known of the sizes: c units at most of a node, two of them fit a page
pub record Fine (z : Sizes) (limit : ℕ) (forced : ℕ → Bool) (c : ℕ) : Type 0 where
  pub two : c + c ≤ z.units
  pub whole : (n : ℕ) → n < limit → z.whole n ≤ c
  pub part : (n : ℕ) → n < limit → forced n ≡ false → z.part n ≤ c
  pub touched : (n : ℕ) → n < limit → forced n ≡ false → 0 < z.part n → 0 < z.whole n

-- a node with units to write has a page
abbrev pub Done : Sizes → Packing → ℕ → Type 0
Done z S n = 0 < size_of z (S.is_anew n) n → is_unwritten (S.target n) ≡ false

-- how many nodes have a page
abbrev pub with_page : ℕ → Packing → ℕ
with_page limit S = sum (λ (n : ℕ). cond (is_unwritten (S.target n)) 0 1) 0 limit

module _ {z : Sizes} {limit : ℕ} {forced : ℕ → Bool} {c : ℕ} (fine : Fine z limit forced c) where
  size_most : (S : Packing) (n : ℕ) → Good z limit forced S → n < limit → size_of z (S.is_anew n) n ≤ c
  size_most S n g l =
      cases (S.is_anew n) (λ t. rw t (fine.whole n l))
      (λ t. rw t (fine.part n l (cases (forced n) (λ f. clash (g.kept n f) t) (λ f. f))))

  -- ---- the three steps keep the state good
  -- packing a node
  pub pack_good : (S : Packing) (n : ℕ) → n < limit → Good z limit forced S → Good z limit forced (pack_node z S n)
  pack_good S n l g =
      cases (is_unwritten (S.target n) && ltb 0 (size_of z (S.is_anew n) n))
      (λ t. rw t (assign_good z limit forced (S.is_anew n) n S g l (and_left (is_unwritten (S.target n)) _ t)
      (ltb-true 0 (size_of z (S.is_anew n) n) (and_right (is_unwritten (S.target n)) _ t)) (omega (arith, size_most S n g l, fine.two)) (g.kept n)))
      (λ t. rw t g)

  -- filling with a node
  pub fill_good : (S : Packing) (n : ℕ) → n < limit → Good z limit forced S → Good z limit forced (fill_node z S n)
  fill_good S n l g =
      cases (is_unwritten (S.target n) && (ltb 0 (z.whole n) && any (leb (z.whole n)) S.rooms))
      (λ t. rw t (assign_good z limit forced true n S g l (and_left (is_unwritten (S.target n)) _ t)
      (ltb-true 0 (z.whole n) (and_left (ltb 0 (z.whole n)) _ (and_right (is_unwritten (S.target n)) _ t))) (omega (arith, fine.whole n l, fine.two)) (λ f. refl)))
      (λ t. rw t g)

  widen_in_lem : (S : Packing) (n : ℕ) → n < limit → Good z limit forced S → S.is_anew n ≡ false → (x : Target) → S.target n ≡ x → Good z limit forced (widen_in z S n x)
  widen_in_lem S n l g e unwritten q = g
  widen_in_lem S n l g e (in_page p) q =
      cases (leb (z.whole n) (z.part n + get_or S.rooms p 0))
      (λ t. rw t (turn_good z limit forced n p S g l (fine.touched n l (cases (forced n) (λ f. clash (g.kept n f) e) (λ f. f))) q e (leb-true (z.whole n) (z.part n + get_or S.rooms p 0) t)))
      (λ t. rw t g)

  -- turning a node anew
  pub widen_good : (S : Packing) (n : ℕ) → n < limit → Good z limit forced S → Good z limit forced (widen_node z S n)
  widen_good S n l g = cases (S.is_anew n) (λ t. rw t g) (λ t. rw t (widen_in_lem S n l g t (S.target n) refl))

  -- ---- two groups a page
  pub pack_half : (S : Packing) (n : ℕ) → n < limit → Good z limit forced S → Half c S.rooms (with_page limit S)
      → Half c (pack_node z S n).rooms (with_page limit (pack_node z S n))
  pack_half S n l g H =
      cases (is_unwritten (S.target n) && ltb 0 (size_of z (S.is_anew n) n))
      (λ t. let bare = and_left (is_unwritten (S.target n)) _ t in
      let s = size_of z (S.is_anew n) n in
      let x : Target = in_page (first (leb s) S.rooms) in
      let h : ℕ → ℕ = λ (m : ℕ). cond (is_unwritten (S.target m)) 0 1 in
      let j : ℕ → ℕ = λ (m : ℕ). cond (is_unwritten (changed_at n x S.target m)) 0 1 in
      let e = sum_change h j n (λ m d. rw (ne_eqb m n d)) 0 limit (omega arith) (omega arith) in
      let o : h n ≡ 0 = rw bare in
      let w : j n ≡ 1 = rw (eq-eqb n n refl) in
      let k : suc (sum h 0 limit) ≡ sum j 0 limit = omega (arith, e, o, w) in
      rw t (subst (Half c (fit z.units s S.rooms)) k (half_fit z.units c s fine.two (size_most S n g l) H)))
      (λ t. rw t H)

  -- ---- nodes with units to write have pages
  -- a node that was packed is done, and what is done stays so
  pub pack_done : (S : Packing) (n : ℕ) → Done z (pack_node z S n) n
  pack_done S n =
      cases (is_unwritten (S.target n) && ltb 0 (size_of z (S.is_anew n) n))
      (λ t. rw (t, eq-eqb n n refl) (λ b. refl))
      (λ t. rw t (λ b. cases (is_unwritten (S.target n)) (λ a. let u : ltb 0 (size_of z (S.is_anew n) n) ≡ false = rw a at t in absurd (omega (arith, ltb-false 0 (size_of z (S.is_anew n) n) u))) (λ a. a)))

  assign_still : (S : Packing) (a : Bool) (n m : ℕ) → Done z S m → Done z (assign z a n S) m
  assign_still S a n m d = cases (eqb m n) (λ t. rw t (λ b. refl)) (λ t. rw t d)

  pub pack_still : (S : Packing) (n m : ℕ) → Done z S m → Done z (pack_node z S n) m
  pack_still S n m d = cases (is_unwritten (S.target n) && ltb 0 (size_of z (S.is_anew n) n)) (λ t. rw t (assign_still S (S.is_anew n) n m d)) (λ t. rw t d)

  pub fill_still : (S : Packing) (n m : ℕ) → Done z S m → Done z (fill_node z S n) m
  fill_still S n m d =
      cases (is_unwritten (S.target n) && (ltb 0 (z.whole n) && any (leb (z.whole n)) S.rooms)) (λ t. rw t (assign_still S true n m d)) (λ t. rw t d)

  widen_in_still : (S : Packing) (n m : ℕ) → (x : Target) → S.target n ≡ x → Done z S m → Done z (widen_in z S n x) m
  widen_in_still S n m unwritten q d = d
  widen_in_still S n m (in_page p) q d =
      cases (leb (z.whole n) (z.part n + get_or S.rooms p 0))
      (λ t. rw t (cases (eqb m n) (λ u. rw u (λ b. ap is_unwritten (ap S.target (eqb-true m n u) ∙ q))) (λ u. rw u d)))
      (λ t. rw t d)

  pub widen_still : (S : Packing) (n m : ℕ) → Done z S m → Done z (widen_node z S n) m
  widen_still S n m d = cases (S.is_anew n) (λ t. rw t d) (λ t. rw t (widen_in_still S n m (S.target n) refl d))

  -- ---- filling adds no page
  pub fill_count : (S : Packing) (n : ℕ) → length (fill_node z S n).rooms ≡ length S.rooms
  fill_count S n =
      cases (is_unwritten (S.target n) && (ltb 0 (z.whole n) && any (leb (z.whole n)) S.rooms))
      (λ t. rw t (fit_keeps z.units (z.whole n) S.rooms (and_right (ltb 0 (z.whole n)) _ (and_right (is_unwritten (S.target n)) _ t))))
      (λ t. rw t)

  widen_in_count : (S : Packing) (n : ℕ) (x : Target) → length (widen_in z S n x).rooms ≡ length S.rooms
  widen_in_count S n unwritten = refl
  widen_in_count S n (in_page p) =
      cases (leb (z.whole n) (z.part n + get_or S.rooms p 0))
      (λ t. rw t (length_modify p (λ (r : ℕ). z.part n + r - z.whole n) S.rooms)) (λ t. rw t)

  pub widen_count : (S : Packing) (n : ℕ) → length (widen_node z S n).rooms ≡ length S.rooms
  widen_count S n = cases (S.is_anew n) (λ t. rw t) (λ t. rw t (widen_in_count S n (S.target n)))
