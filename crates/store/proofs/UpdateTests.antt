-- Insert and delete as updates of the promise, whatever their kind: refused by the tests 2, 1 and 3, or past them. Assumes nothing.
use mathlib.Core.Path.{◌≡◌, refl, sym, ap, subst, ◌∙◌}
use mathlib.Core.Bool.{Bool, true, false, not, ◌&&◌}
use mathlib.Core.List.{List, [], ◌∷◌}
use Prim.Native.Nat.{ℕ, zero, suc, ◌<◌, ◌≤◌}
use native.Mathlib.Omega.{arith}
use lib.Dec.{leb, eqb}
use lib.ListN.{length, get_or}
use borrow.Author.Tests.{le-leb, lt-leb, leb-true, leb-false}
use Rattle.lists.proofs.Tests.{clash, or_right}
use Rattle.chip.specs.Geometry.{Geometry}
use Rattle.promise.specs.Plain.{UpdateCall, updates, Answer, refuses, accepted, tells, Plain, admission, later_refusal, or_else, when, is_chip_size, has_blocks}
use Rattle.promise.specs.Calls.{ProperUpdate, state_of, is_one_of, accepts_or}
use Rattle.store.specs.declared.state.State.{State}
use Rattle.store.specs.declared.state.Updated.{Updated}
use Rattle.store.specs.AdmitCode.{ChipOf, update_tests, answer_for}
use Rattle.store.specs.Answers.{answer_of, refusal_in}
use Rattle.store.specs.State.{present_of, Good, geometry_in}
use Rattle.store.specs.Ensured.{index, KeepsBounds, UpdatesBy}
use Rattle.store.specs.UpdateCode.{Stays, UpdatesIn}
use Rattle.store.proofs.AdmitLaws.{low_first, first_refused, first_passed, admission_chip, not_one}

-- ---- updates: the tests 2, 1 and 3
-- a refusal by 2 or 1
range_low : (n : ℕ) (a : Answer) (ns : List ℕ) → a ≡ refuses (suc n) → suc n ≤ 2 → accepts_or (2 ∷ 1 ∷ ns) a ≡ true
range_low zero a ns e l = rw e
range_low (suc zero) a ns e l = rw e
range_low (suc (suc n)) a ns e l = absurd (omega arith)

range_more : (a : Answer) (m : ℕ) (ns : List ℕ) → accepts_or ns a ≡ true → accepts_or (m ∷ ns) a ≡ true
range_more (refuses n) m ns e = or_right (eqb n m) (is_one_of n ns) e
range_more accepted m ns e = e
range_more (tells vs) m ns e = e

-- a refusal that an update names is none of 1, 2, 3 and 10
own_number : (u : UpdateCall) → ProperUpdate u → (a : Answer) → accepts_or u.numbers a ≡ true → (n : ℕ) → is_one_of n (1 ∷ 2 ∷ 3 ∷ 10 ∷ []) ≡ true → a ≡ refuses n → ⊥
own_number u w a h n o e = clash (let t : is_one_of n u.numbers ≡ true = subst (λ (x : Answer). accepts_or u.numbers x ≡ true) e h in t) (w.own n o)

-- what an accepted update leaves, as three facts
updated_is : {a : Answer} {s' : State} {i : List ℕ} {p : Plain} → (a ≡ accepted) × Stays s' i p → (a ≡ accepted) × (state_of index s' i ≡ p) × Good (geometry_in s') s' i
updated_is d = (d.0, d.1.is, d.1.good)

-- 3 to 6 of an update, by the pending count
later_is : (u : UpdateCall) (s : State) (i : List ℕ)
    → later_refusal (state_of index s i) (updates u (length i)) ≡ or_else (when 3 (leb 16 s.pending)) (u.refusal s.blocks (present_of (geometry_in s) s i))
unfolding state_of
later_is u s i = refl

-- a state that stays keeps its bounds
same_bounds : (s s' : State) → s' ≡ s → KeepsBounds s s'
same_bounds s s' w = record { nand = ap (λ (t : State). t.nand) w; blocks = ap (λ (t : State). t.blocks) w; units = rw w (omega arith) }

module _ (u : UpdateCall) (s : State) (i : List ℕ) (r : Updated) where
  abbrev g : Geometry
  g = geometry_in s

  -- refused with 2 or 1
  refused_first : (n : ℕ) → answer_of r.answer ≡ refuses (suc n) → suc n ≤ 2 → r.state ≡ s → suc n ≡ admission g s.on s.blocks (length i) → UpdatesBy u s i r
  refused_first n q kind w e =
      record {
        says =
            rw w
            (record {
              first = first_refused (updates u (length i)) s i (answer_of r.answer) n e q;
              range = range_low n (answer_of r.answer) (3 ∷ u.numbers) q kind;
              image = refl;
              still = λ _ _. refl;
              figures = λ _. refl;
              full = λ h. let z : suc n ≡ 0 = e ∙ h in absurd (omega arith);
              not_full = λ h. let z : suc n ≡ 0 = e ∙ h in absurd (omega arith);
              then = λ _ h. let z : suc n ≡ 0 = e ∙ h in absurd (omega arith);
              done = λ _ h. let z : suc n ≡ 0 = e ∙ h in absurd (omega arith);
            });
        bounds = same_bounds s r.state w;
        figures = ap (λ (t : State). t.erases) w;
      }

  module _ (e : 0 ≡ admission g s.on s.blocks (length i)) where
    -- refused with 3
    refused_full : 16 ≤ s.pending → answer_of r.answer ≡ refuses 3 → r.state ≡ s → UpdatesBy u s i r
    refused_full full q w =
        let b = u.refusal s.blocks (present_of g s i) in
        let l : later_refusal (state_of index s i) (updates u (length i)) ≡ 3 = later_is u s i ∙ (let o : or_else (when 3 (leb 16 s.pending)) b ≡ 3 = rw (le-leb 16 s.pending full) in o) in
        record {
          says =
              record {
                first = first_passed (updates u (length i)) s i (answer_of r.answer) r.state e (λ d. not_one (sym q ∙ d) (λ z. omega arith)) (λ d. not_one (sym q ∙ d) (λ z. omega arith));
                range = rw q;
                image = refl;
                still = λ _ _. w;
                figures = λ b. ap (λ (t : State). get_or t.erases b 0) w;
                full = λ _ _. q;
                not_full = λ _ h. absurd (omega arith);
                then = λ _ _ m h. q ∙ ap refuses (sym l ∙ h);
                done = λ _ _ h. let z : ◌≡◌ {A = ℕ} 3 0 = sym l ∙ h in absurd (omega arith);
              };
          bounds = same_bounds s r.state w;
          figures = ap (λ (t : State). t.erases) w;
        }

    -- past them
    pub updates_done : ProperUpdate u → s.pending < 16 → UpdatesIn u s i r → UpdatesBy u s i r
    updates_done w low a =
        let b = u.refusal s.blocks (present_of g s i) in
        let l : later_refusal (state_of index s i) (updates u (length i)) ≡ b = later_is u s i ∙ (let o : or_else (when 3 (leb 16 s.pending)) b ≡ b = rw (lt-leb 16 s.pending low) in o) in
        let own : (n : ℕ) → is_one_of n (1 ∷ 2 ∷ 3 ∷ 10 ∷ []) ≡ true → answer_of r.answer ≡ refuses n → ⊥ = own_number u w (answer_of r.answer) a.range in
        record {
          says =
              record {
                first = first_passed (updates u (length i)) s i (answer_of r.answer) r.state e (own 1 refl) (own 2 refl);
                range = range_more (answer_of r.answer) 2 (1 ∷ 3 ∷ u.numbers) (range_more (answer_of r.answer) 1 (3 ∷ u.numbers) (range_more (answer_of r.answer) 3 u.numbers a.range));
                image = refl;
                still = a.still;
                figures = λ b. ap (λ (fs : List ℕ). get_or fs b 0) a.figures;
                full = λ _ h. absurd (omega arith);
                not_full = λ _ _. own 3 refl;
                then = λ ok _ m h. a.refused ok m (sym l ∙ h);
                done = λ ok _ h. updated_is (a.done ok (sym l ∙ h));
              };
          bounds = a.bounds;
          figures = a.figures;
        }

  turned_away : (x : ℕ) (b : Bool) → x ≡ admission g s.on s.blocks (length i) → x ≤ 2 → b ≡ leb 16 s.pending → (n : ℕ) → n ≡ or_else x (when 3 b) → 0 < n
      → answer_of r.answer ≡ answer_for n → r.state ≡ s → UpdatesBy u s i r
  turned_away (suc m) b e l q n h p a w = refused_first m (a ∙ ap answer_for h) l w e
  turned_away zero true e l q n h p a w = refused_full e (leb-true 16 s.pending (sym q)) (a ∙ ap answer_for h) w
  turned_away zero false e l q n h p a w = absurd (omega arith)

  -- refused by these tests
  pub updates_refused : answer_of r.answer ≡ answer_for (update_tests g s.on s.blocks s.pending (length i)) → r.state ≡ s
      → 0 < update_tests g s.on s.blocks s.pending (length i) → UpdatesBy u s i r
  updates_refused a w p =
      turned_away (admission g s.on s.blocks (length i)) (leb 16 s.pending) refl
      (low_first (not s.on) (not (is_chip_size g (length i) && has_blocks g s.blocks (length i)))) refl
      (update_tests g s.on s.blocks s.pending (length i)) refl p a w

-- passed by them
first_zero : (x : ℕ) (b : Bool) → or_else x (when 3 b) ≡ 0 → (0 ≡ x) × (b ≡ false)
first_zero zero true e = absurd (omega arith)
first_zero zero false e = (refl, refl)
first_zero (suc x) b e = absurd (omega arith)

pub updates_pass : (g : Geometry) (on : Bool) (B pending len : ℕ) → update_tests g on B pending len ≡ 0 → (0 ≡ admission g on B len) × ChipOf g B len × (pending < 16)
updates_pass g on B pending len e =
    let z = first_zero (admission g on B len) (leb 16 pending) e in
    (z.0, admission_chip g on B len (sym z.0), leb-false 16 pending z.1)

-- tests that refuse give a number, tests that pass give 0
pub refused_for : (m n : ℕ) → refuses m ≡ answer_for n → 0 < n
refused_for m zero e = let z : ◌≡◌ {A = ℕ} 0 1 = cc in absurd (omega arith)
refused_for m (suc n) e = omega arith

pub passed_for : (n : ℕ) → accepted ≡ answer_for n → n ≡ 0
passed_for zero e = refl
passed_for (suc n) e = let z : ◌≡◌ {A = ℕ} 0 1 = cc in absurd (omega arith)

-- the number of an answer
pub number_for : (n : ℕ) → refusal_in (answer_for n) ≡ n
number_for zero = refl
number_for (suc n) = refl
