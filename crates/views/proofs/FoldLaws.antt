-- One update of a view that is folded in two arrays, and the turns of the loop over its units. Assumes nothing.
use mathlib.Core.Path.{◌≡◌, refl, sym, ap, ap₂, ◌∙◌, subst}
use mathlib.Core.Logic.{⊎_elim}
use mathlib.Core.Bool.{Bool, true, false, cond}
use mathlib.Core.List.{List, ◌∷◌}
use Prim.Native.Nat.{ℕ, zero, suc, ◌+◌, ◌*◌, ◌-◌, ◌<◌, ◌≤◌}
use native.Mathlib.Omega.{arith}
use lib.Dec.{eqb}
use lib.ListN.{get_or, length, take, drop, length-drop}
use lib.Seq.{drop-drop, take_all}
use borrow.Author.Tests.{eq-eqb, le-leb, lt-leb, lt-ltb, ne_eqb}
use Rattle.lists.specs.Lists.{all}
use Rattle.lists.proofs.Tests.{below_or_not}
use Rattle.pages.specs.declared.unit.Update.TheVariants.{Insert, Delete, Reset}
use Rattle.pages.specs.declared.unit.Unit as U
use Rattle.std.proofs.Common.{Option, Some, None}
use Rattle.pages.specs.Units.{decode, decodes, half, is_reset_value, word}
use Rattle.views.specs.declared.fold.Shape.{Shape}
use Rattle.views.specs.declared.fold.Stage.TheVariants.{Broken, Freed, Full, Untouched}
use Rattle.views.specs.declared.fold.Stage.{Stage}
use Rattle.views.specs.declared.node.Node.{Node}
use Rattle.views.specs.Nodes.{View, broken, insert_entry, delete_entry, apply}
use Rattle.views.specs.NodeCode.{entries_in, HoldsEntries}
use Rattle.views.specs.Table.{is_good}
use Rattle.views.specs.FoldCode.{IsLaid, IsPassed, Skips, view_at, view_in, StandsIn}
use Rattle.views.specs.Stored.{turn_view, view_after, view_over}

-- ---- one update of a view so far, its shape s over keys ks and values vs, which leaves the entries in ls and ws
module _ (s : Shape) (ks vs ls ws : List ℕ) where
  -- an entry put in
  pub entered : (k v n : ℕ) → s.stage ≡ Full → HoldsEntries n ls ws (insert_entry k v (entries_in s.len ks vs)) → n ≤ 16
      → StandsIn (record { stage = Full; level = s.level; len = n }) ls ws (apply (view_in s ks vs) (Insert k v))
  entered k v n e h l =
      let m : length (insert_entry k v (entries_in s.len ks vs)) ≤ 16 = omega (arith, h.len) in
      record { is = rw (e, le-leb _ 16 m, h.is); room = l; keys = h.keys; values = h.values }

  -- a 17th entry
  pub overfull : (r : Shape) (k v n : ℕ) → s.stage ≡ Full → HoldsEntries n ls ws (insert_entry k v (entries_in s.len ks vs)) → 16 < n
      → (r.stage ≡ Broken) × (r.len ≤ 16) → StandsIn r ls ws (apply (view_in s ks vs) (Insert k v))
  overfull r k v n e h l q =
      let m : 16 < length (insert_entry k v (entries_in s.len ks vs)) = omega (arith, h.len) in
      record { is = rw (q.0, e, lt-leb _ 16 m); room = q.1; keys = h.keys; values = h.values }

  -- an entry taken out
  pub left_out : (k n : ℕ) → s.stage ≡ Full → HoldsEntries n ls ws (delete_entry k (entries_in s.len ks vs)) × (n ≤ s.len) → s.len ≤ 16
      → StandsIn (record { stage = Full; level = s.level; len = n }) ls ws (apply (view_in s ks vs) (Delete k))
  left_out k n e h l = record { is = rw (e, h.0.is); room = omega (arith, h.1); keys = h.0.keys; values = h.0.values }

-- a view that is broken, whatever the arrays hold
pub spoilt : (r : Shape) (ks vs : List ℕ) (w : View) → length ks ≡ 17 → length vs ≡ 17 → (r.stage ≡ Broken) × (r.len ≤ 16) → broken ≡ w
    → StandsIn r ks vs w
spoilt r ks vs w lk lv q e = record { is = rw q.0 e; room = q.1; keys = lk; values = lv }

-- an entry put into a view that is not full, or taken out of it, breaks it
pub not_full_insert : (t : Stage) (x : Node) (k v : ℕ) → (t ≡ Full → ⊥) → broken ≡ apply (view_at t x) (Insert k v)
not_full_insert Untouched x k v h = refl
not_full_insert Freed x k v h = refl
not_full_insert Broken x k v h = refl
not_full_insert Full x k v h = absurd (h refl)

pub not_full_delete : (t : Stage) (x : Node) (k : ℕ) → (t ≡ Full → ⊥) → broken ≡ apply (view_at t x) (Delete k)
not_full_delete Untouched x k h = refl
not_full_delete Freed x k h = refl
not_full_delete Broken x k h = refl
not_full_delete Full x k h = absurd (h refl)

-- ---- the loop: what the units from unit i on make of view w is what all of them make of view w₀
module _ (limit n count : ℕ) (p : List ℕ) (w₀ : View) where
  abbrev rest : ℕ → List (Option U.Unit)
  rest i = decodes limit (count - i) (drop (12 * i) p)

  pub record Left (i : ℕ) (w : View) : Type 0 where
    pub good : all is_good (rest i) ≡ all is_good (decodes limit count p)
    pub is : view_after n w (rest i) ≡ view_after n w₀ (decodes limit count p)

  pub left_start : Left 0 w₀
  left_start = let e : count - 0 ≡ count = omega arith in record { good = rw e; is = rw e }

  module _ (i : ℕ) (w : View) (d : Option U.Unit) (left : Left i w) (h : i < count)
      (ed : d ≡ decode limit (take (length p - 12 * i) (drop (12 * i) p))) where
    next : rest i ≡ d ∷ rest (i + 1)
    next =
        let e : count - i ≡ suc (count - (i + 1)) = omega arith in
        let a : 12 * (i + 1) ≡ 12 * i + 12 = omega arith in
        ap (λ (m : ℕ). decodes limit m (drop (12 * i) p)) e
        ∙ ap₂ ◌∷◌ (sym (ed ∙ ap (decode limit) (take_all (length p - 12 * i) (drop (12 * i) p) (omega (arith, length-drop (12 * i) p)))))
        (ap (decodes limit (count - (i + 1))) (drop-drop 12 (12 * i) p ∙ ap (λ (m : ℕ). drop m p) (sym a)))

    -- a unit
    pub left_next : (u : U.Unit) (t : View) → d ≡ Some u → t ≡ turn_view n w (Some u) → Left (i + 1) t
    left_next u t e q = record {
      good = ap (λ (x : Option U.Unit). all is_good (x ∷ rest (i + 1))) (sym e) ∙ ap (all is_good) (sym next) ∙ left.good;
      is = ap (λ (v : View). view_after n v (rest (i + 1))) (q ∙ ap (turn_view n w) (sym e)) ∙ ap (view_after n w) (sym next) ∙ left.is;
    }

    -- a unit of another node
    left_passed : (q : (u : U.Unit) × (d ≡ Some u) × (eqb u.node n ≡ false)) → Left (i + 1) w
    left_passed q =
        let t : eqb q.0.node n ≡ false = q.2 in
        let e : w ≡ turn_view n w (Some q.0) = rw t in
        left_next q.0 w q.1 e

    -- no unit
    pub stopped : d ≡ None → broken ≡ view_over n w₀ (decodes limit count p)
    stopped e =
        ap (λ (b : Bool). cond b (view_after n w₀ (decodes limit count p)) broken)
        (ap (λ (x : Option U.Unit). all is_good (x ∷ rest (i + 1))) (sym e) ∙ ap (all is_good) (sym next) ∙ left.good)

  -- units of other nodes
  pub left_skip : (i r : ℕ) (w : View) → Left i w → Skips limit n p count i r → Left r w
  left_skip i r w left s = go (r - i) i (omega (arith, s.low)) left s.are
    where
      go : (m j : ℕ) → r ≡ j + m → Left j w → ((k : ℕ) → j ≤ k → k < r → IsPassed limit n (take (length p - 12 * k) (drop (12 * k) p))) → Left r w
      go zero j e l are = subst (λ (k : ℕ). Left k w) (let z : j ≡ r = omega arith in z) l
      go (suc m) j e l are =
          go m (j + 1) (omega arith)
          (left_passed j w (decode limit (take (length p - 12 * j) (drop (12 * j) p))) l (omega (arith, s.high)) refl (are j (omega arith) (omega arith)))
          (λ k a b. are k (omega arith) b)

  -- all units are folded
  pub ended : (i : ℕ) (w : View) → Left i w → count ≤ i → w ≡ view_over n w₀ (decodes limit count p)
  ended i w left h =
      let e : count - i ≡ 0 = omega arith in
      let a = left.good in
      let b = left.is in
      (rw e at b) ∙ ap (λ (t : Bool). cond t (view_after n w₀ (decodes limit count p)) broken) (rw e at a)

-- ---- kind, key and value that obey the layout
pub laid_insert : (b : List ℕ) → get_or b 0 0 ≡ 1 → IsLaid b
laid_insert b k m = (record { node = m; update = Insert (word b 4) (word b 8) }, rw (eq-eqb (get_or b 0 0) 1 k), refl)

pub laid_delete : (b : List ℕ) → get_or b 0 0 ≡ 2 → word b 8 ≡ 0 → IsLaid b
laid_delete b k v m = (record { node = m; update = Delete (word b 4) }, rw (k, v), refl)

pub laid_reset : (b : List ℕ) → get_or b 0 0 ≡ 3 → word b 4 ≡ 0 → is_reset_value (word b 8) ≡ true → IsLaid b
laid_reset b k e v m = (record { node = m; update = Reset (word b 8) }, rw (k, e, v), refl)

-- a unit of another node
pub passed : (limit n : ℕ) (b : List ℕ) (m : ℕ) → get_or b 1 0 ≡ 0 → m ≡ half b 2 → (m ≡ n → ⊥) → m < limit → IsLaid b → IsPassed limit n b
unfolding decode
passed limit n b m z e d l laid =
    let q = laid (half b 2) in
    (q.0, rw (eq-eqb (get_or b 1 0) 0 z, lt-ltb (half b 2) limit (omega arith)) q.1, ne_eqb q.0.node n (λ s. d (e ∙ sym q.2 ∙ s)))

-- one more that is skipped
pub skips_next : (limit n : ℕ) (p : List ℕ) (i j : ℕ) → ((k : ℕ) → i ≤ k → k < j → IsPassed limit n (take (length p - 12 * k) (drop (12 * k) p)))
    → IsPassed limit n (take (length p - 12 * j) (drop (12 * j) p)) → (k : ℕ) → i ≤ k → k < j + 1 → IsPassed limit n (take (length p - 12 * k) (drop (12 * k) p))
skips_next limit n p i j are here k a b =
    ⊎_elim (λ (l : k < j). are k a l)
    (λ (l : j ≤ k). subst (λ (m : ℕ). IsPassed limit n (take (length p - 12 * m) (drop (12 * m) p))) (let z : j ≡ k = omega arith in z) here) (below_or_not k j)
