-- Packing on arrays: a fold over some of the nodes is a loop over all with a test; a store in an array is a change of a function. Assumes nothing.
use mathlib.Core.Path.{◌≡◌, refl, sym, ap, ap₂, ◌∙◌, fun_ext}
use mathlib.Core.Bool.{Bool, true, false, cond}
use mathlib.Core.List.{List, [], ◌∷◌, ◌++◌, foldl}
use Prim.Native.Nat.{ℕ, zero, suc, ◌+◌, ◌-◌, ◌*◌, ◌≤◌, ◌<◌}
use native.Mathlib.Numerals.{add-one}
use native.Mathlib.Omega.{arith}
use lib.Dec.{eqb, leb}
use lib.ListN.{get_or, length, length-replicate, replicate, set, take}
use lib.Seq.{get_or-set_other, get_or-set_same, get_or-take, length-take-le, take-set-lt, take-suc-set}
use borrow.Author.Tests.{eqb-false, eqb-true, ne_eqb, le-leb, lt-leb}
use Rattle.std.specs.List.{AllWithin, HoldsAt}
use Rattle.std.specs.Option.{MatchOption, IfSome}
use Rattle.std.proofs.Common.{Option, Some, None}
use Rattle.std.proofs.lemmas.Iterator.{index_from_first}
use Rattle.lists.specs.Lists.{filter, first, modify}
use Rattle.lists.proofs.Tests.{cases}
use Rattle.lists.proofs.Places.{get_d_default, get_d_same}
use Rattle.journal.specs.Plan.{count_from}
use Rattle.journal.specs.Admissible.{Target, unwritten, in_page}
use Rattle.journal.specs.Packing.{Packing, Sizes, fit, assign, size_of, changed_at, pack_node, packed, unpacked}
use Rattle.journal.specs.PlanCode.{target_of, target_in, is_marked, packing_of, sizes_in}
use Rattle.packing.specs.PackingCode.{pack_if, Placed, Ready, FirstFit, Assigns, Packs}

-- ---- tests
-- ---- a test in the loop
pub fold_filter : {A : Type 0} (step : A → ℕ → A) (q : ℕ → Bool) (ns : List ℕ) (s : A)
    → foldl step s (filter q ns) ≡ foldl (λ (x : A) (n : ℕ). cond (q n) (step x n) x) s ns
fold_filter step q [] s = refl
fold_filter step q (n ∷ ns) s =
    cases (q n)
    (λ t. ap (foldl step s) (pick t) ∙ fold_filter step q ns (step s n) ∙ ap (λ x. foldl (λ y m. cond (q m) (step y m) y) x ns) (sym (take_step t)))
    (λ t. ap (foldl step s) (skip t) ∙ fold_filter step q ns s ∙ ap (λ x. foldl (λ y m. cond (q m) (step y m) y) x ns) (sym (skip_step t)))
  where
    pick : q n ≡ true → filter q (n ∷ ns) ≡ n ∷ filter q ns
    pick t = rw t

    skip : q n ≡ false → filter q (n ∷ ns) ≡ filter q ns
    skip t = rw t

    take_step : q n ≡ true → cond (q n) (step s n) s ≡ step s n
    take_step t = rw t

    skip_step : q n ≡ false → cond (q n) (step s n) s ≡ s
    skip_step t = rw t

-- ---- a loop over the numbers below e: what is left to do at i
module _ {A : Type 0} (step : A → ℕ → A) (i e : ℕ) (s : A) {end : A} (left : foldl step s (count_from i (e - i)) ≡ end) where
  pub fold_next : i < e → {s' : A} → s' ≡ step s i → foldl step s' (count_from (i + 1) (e - (i + 1))) ≡ end
  fold_next h q =
      let rest : List ℕ = count_from (i + 1) (e - (i + 1)) in
      let m : e - i ≡ suc (e - (i + 1)) = omega arith in
      ap (λ (x : A). foldl step x rest) q
      ∙ sym (ap (λ (k : ℕ). foldl step s (count_from i k)) m ∙ ap (λ (k : ℕ). foldl step (step s i) (count_from k (e - (i + 1)))) (sym (add-one i)))
      ∙ left

  pub fold_done : e ≤ i → s ≡ end
  fold_done h = let m : e - i ≡ 0 = omega arith in sym (ap (λ (k : ℕ). foldl step s (count_from i k)) m) ∙ left

-- ---- the first page that has room, as a search of the pages finds it
pub found_first : (rooms : List ℕ) (size : ℕ) (r : Option ℕ)
    → MatchOption r (AllWithin (λ (x : ℕ). x < size) rooms 0 (length rooms)) (λ i. (i < length rooms) × HoldsAt (λ (x : ℕ). size ≤ x) rooms i × AllWithin (λ (x : ℕ). x < size) rooms 0 i)
    → FirstFit rooms size r
found_first rooms size r m =
    record {
      is = index_from_first (first (leb size)) (λ (x : ℕ). size ≤ x) (λ (x : ℕ). x < size) refl (λ x xs h. rw (le-leb size x h))
          (λ x xs h. rw (lt-leb size x h) (sym (add-one (first (leb size) xs)))) rooms r m;
      room = room r m;
    }
  where
    room : (r : Option ℕ)
        → MatchOption r (AllWithin (λ (x : ℕ). x < size) rooms 0 (length rooms)) (λ i. (i < length rooms) × HoldsAt (λ (x : ℕ). size ≤ x) rooms i × AllWithin (λ (x : ℕ). x < size) rooms 0 i)
        → IfSome r (λ p. (p < length rooms) × (size ≤ get_or rooms p 0))
    room None m = tt
    room (Some p) m = (m.0, m.1 0)

-- ---- first fit: one number altered, or one more
module _ (units s : ℕ) where
  fit_old : (rs : List ℕ) → first (leb s) rs < length rs → fit units s rs ≡ modify (first (leb s) rs) (λ (r : ℕ). r - s) rs
  fit_old [] l = absurd (omega arith)
  fit_old (r ∷ rs) l =
      cases (leb s r) (λ t. rw t)
      (λ t. let m : suc (first (leb s) rs) < suc (length rs) = rw t at l in rw t (ap (λ k. r ∷ k) (fit_old rs (omega arith))))

  fit_new : (rs : List ℕ) → length rs ≤ first (leb s) rs → fit units s rs ≡ rs ++ ((units - s) ∷ [])
  fit_new [] l = refl
  fit_new (r ∷ rs) l =
      cases (leb s r) (λ t. let m : suc (length rs) ≤ 0 = rw t at l in absurd (omega arith))
      (λ t. let m : suc (length rs) ≤ suc (first (leb s) rs) = rw t at l in rw t (ap (λ k. r ∷ k) (fit_new rs (omega arith))))

-- an alteration as a store
pub modify_set : (f : ℕ → ℕ) (n : ℕ) (xs : List ℕ) → n < length xs → modify n f xs ≡ set xs n (f (get_or xs n 0))
modify_set f n [] h = absurd (omega arith)
modify_set f zero (x ∷ xs) h = refl
modify_set f (suc n) (x ∷ xs) h = ap (λ k. x ∷ k) (modify_set f n xs (omega arith))

-- the same on the first count of an array
pub modify_take : (f : ℕ → ℕ) (n count : ℕ) (xs : List ℕ) → n < count → count ≤ length xs → modify n f (take count xs) ≡ take count (set xs n (f (get_or xs n 0)))
modify_take f n count xs h l =
    modify_set f n (take count xs) (rw (length-take-le count xs l) h)
    ∙ ap (λ (x : ℕ). set (take count xs) n (f x)) (get_or-take count xs n 0 h)
    ∙ sym (take-set-lt count xs n (f (get_or xs n 0)) h)

module _ (units n size count : ℕ) (rooms targets : List ℕ) where
  -- a page has room
  pub assign_old : (p : ℕ) → count ≤ length rooms → FirstFit (take count rooms) size (Some p)
      → Assigns units n size count rooms targets count (set rooms p (get_or rooms p 0 - size)) (set targets n p)
  assign_old p l f =
      let w = length-take-le count rooms l in
      let low : p < count = omega (arith, f.room.0, w) in
      record {
        free =
            sym (fit_old units size (take count rooms) (rw f.is f.room.0)
            ∙ ap (λ (k : ℕ). modify k (λ (r : ℕ). r - size) (take count rooms)) f.is
            ∙ modify_take (λ (r : ℕ). r - size) p count rooms low l);
        target = ap (set targets n) (sym f.is);
        page = rw f.is low;
        low = omega arith;
        high = omega arith;
      }

  -- no page has room
  pub assign_new : (v : ℕ) → v ≡ units - size → count < length rooms → FirstFit (take count rooms) size None
      → Assigns units n size count rooms targets (count + 1) (set rooms count v) (set targets n count)
  assign_new v q l f =
      let w = length-take-le count rooms (omega arith) in
      let e : first (leb size) (take count rooms) ≡ count = f.is ∙ w in
      record {
        free =
            ap (λ (k : ℕ). take k (set rooms count v)) (add-one count) ∙ take-suc-set rooms count v l
            ∙ sym (fit_new units size (take count rooms) (omega (arith, e, w)) ∙ ap (λ (x : ℕ). take count rooms ++ (x ∷ [])) (sym q));
        target = ap (set targets n) (sym e);
        page = omega (arith, e);
        low = omega arith;
        high = omega arith;
      }

-- ---- the page and the form of a node: a store in an array is a change of a function
pub changed_set : {A : Type 0} (h : ℕ → A) (xs : List ℕ) (n x d : ℕ) → n < length xs
    → changed_at n (h x) (λ (m : ℕ). h (get_or xs m d)) ≡ (λ (m : ℕ). h (get_or (set xs n x) m d))
changed_set h xs n x d l =
    fun_ext (λ m. cases (eqb m n)
    (λ t. let e = eqb-true m n t in rw (t, e, get_or-set_same xs n x d l))
    (λ t. rw (t, get_or-set_other xs n m x d (eqb-false m n t))))

-- a node put into a page
pub assign_arrays : (z : Sizes) (a : Bool) (n : ℕ) (rooms targets forms forms' : List ℕ) → n < length targets
    → first (leb (size_of z a n)) rooms < 65535 → changed_at n a (is_marked forms) ≡ is_marked forms'
    → packing_of (fit z.units (size_of z a n) rooms) (set targets n (first (leb (size_of z a n)) rooms)) forms' ≡ assign z a n (packing_of rooms targets forms)
assign_arrays z a n rooms targets forms forms' l b q =
    let i = first (leb (size_of z a n)) rooms in
    let d : i ≡ 65535 → ⊥ = λ e. omega arith in
    let e : target_of i ≡ in_page i = rw (ne_eqb i 65535 d) in
    sym (ap₂ (λ (ts : ℕ → Target) (an : ℕ → Bool). record { rooms = fit z.units (size_of z a n) rooms; target = ts; is_anew = an })
    (ap (λ (x : Target). changed_at n x (target_in targets)) (sym e) ∙ changed_set target_of targets n i 65535 l) q)

-- it has one of the first r pages
pub placed_set : (count r n p : ℕ) (targets : List ℕ) → n < length targets → count ≤ r → p < r → Placed count targets → Placed r (set targets n p)
placed_set count r n p targets l g h k m d =
    cases (eqb m n)
    (λ t. let e = eqb-true m n t in rw (e, get_or-set_same targets n p 65535 l) h)
    (λ t. let o = get_or-set_other targets n m p 65535 (eqb-false m n t) in
    let low = k m (λ e. d (o ∙ e)) in omega (arith, o))

-- ---- the page of a node, as the code reads it
module _ (n : ℕ) (targets : List ℕ) (on : n < length targets) where
  target_at : get_or targets n 0 ≡ get_or targets n 65535
  target_at = get_d_default targets n 0 65535 on

  pub target_none : get_or targets n 0 ≡ 65535 → target_in targets n ≡ unwritten
  target_none e = ap target_of (sym target_at ∙ e)

  pub target_some : (get_or targets n 0 ≡ 65535 → ⊥) → target_in targets n ≡ in_page (get_or targets n 0)
  target_some d = ap target_of (sym target_at) ∙ rw (ne_eqb (get_or targets n 0) 65535 d)

  -- no page where it is not below count
  pub target_beyond : (count : ℕ) → Placed count targets → count ≤ get_or targets n 0 → target_in targets n ≡ unwritten
  target_beyond count k h =
      cases (eqb (get_or targets n 65535) 65535) (λ t. rw t)
      (λ t. let l = k n (eqb-false (get_or targets n 65535) 65535 t) in absurd (omega (arith, target_at)))

-- ---- the two passes
-- no node has a page
module _ (k : ℕ) (rooms forms targets : List ℕ) (none : targets ≡ replicate k 65535) where
  target_unset : (n : ℕ) → get_or targets n 65535 ≡ 65535
  target_unset n = ap (λ (l : List ℕ). get_or l n 65535) none ∙ get_d_same k n 65535

  pub unpacked_ready : k ≡ 256 → length rooms ≡ 512 → length forms ≡ 256 → Ready 0 rooms targets forms
  unpacked_ready e lr lf =
      record { pages = lr; nodes = ap length none ∙ length-replicate k 65535 ∙ e; marks = lf; placed = λ n d. absurd (d (target_unset n)) }

  unpacked_arrays : packing_of [] targets forms ≡ unpacked (is_marked forms)
  unpacked_arrays = ap (λ (ts : ℕ → Target). record { rooms = []; target = ts; is_anew = is_marked forms }) (fun_ext (λ n. ap target_of (target_unset n)))

  -- the nodes whose form is 1, then all
  pub packs_passes : (units : ℕ) (wholes parts : List ℕ) (limit : ℕ) {c r : ℕ} {rooms' targets' rooms'' targets'' : List ℕ}
      → Packs (foldl (pack_if units false wholes parts forms) (packing_of [] targets forms) (count_from 0 limit)) (0 + limit) c rooms' targets' forms
      → Packs (foldl (pack_if units true wholes parts forms) (packing_of (take c rooms') targets' forms) (count_from 0 limit)) (c + limit) r rooms'' targets'' forms
      → Packs (packed (sizes_in units wholes parts) (is_marked forms) limit) (2 * limit) r rooms'' targets'' forms
  packs_passes units wholes parts limit p q =
      record {
        is =
            q.is
            ∙ ap (λ (S : Packing). foldl (pack_if units true wholes parts forms) S (count_from 0 limit))
            (p.is
            ∙ ap (λ (S : Packing). foldl (pack_if units false wholes parts forms) S (count_from 0 limit)) unpacked_arrays
            ∙ sym (fold_filter (pack_node (sizes_in units wholes parts)) (is_marked forms) (count_from 0 limit) (unpacked (is_marked forms))));
        ready = q.ready;
        few = omega (arith, p.few, q.few);
      }
