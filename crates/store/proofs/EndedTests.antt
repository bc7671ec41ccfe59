-- What a commit or a forecast says that its tests end: refused with 2, 1 or 6, or with nothing pending. Assumes nothing.
use mathlib.Core.Path.{◌≡◌, refl, sym, ap, ◌∙◌}
use mathlib.Core.Bool.{true}
use mathlib.Core.List.{List, ◌∷◌}
use Prim.Native.Nat.{ℕ, zero, suc, ◌≤◌, ◌<◌}
use native.Mathlib.Omega.{arith}
use borrow.Author.Tests.{ne_eqb, lt-ltb, le-ltb}
use Rattle.std.specs.Prelude.{Ok}
use Rattle.promise.specs.Plain.{Answer, refuses, accepted, Call, first_refusal, no_number_left, numbers_refusal, or_else, when}
use Rattle.promise.specs.Calls as P
use Rattle.promise.specs.Calls.{FirstTests, Proceeding}
use Rattle.promise.proofs.Promise.{when_is}
use Rattle.store.specs.Answers as A
use Rattle.store.specs.declared.state.State.{State}
use Rattle.store.specs.AdmitCode.{answer_for}
use Rattle.store.specs.Answers.{answer_of}
use Rattle.store.specs.Ensured.{index}

-- ---- numbers and answers that differ
pub other : {Q : Type 0} (m k : ℕ) → (m ≡ k → ⊥) → refuses m ≡ refuses k → Q
other m k d e = absurd (d (let u : m ≡ k = cc in u))

pub not_refused : {Q : Type 0} (k : ℕ) → accepted ≡ refuses k → Q
not_refused k e = let u : ◌≡◌ {A = ℕ} 0 1 = cc in absurd (omega arith)

-- the refusal 6, by the pending updates and the number
later_idle : (pending number : ℕ) → pending ≡ 0 → when 6 (no_number_left pending number) ≡ 0
later_idle p c e = rw (le-ltb 0 p (omega arith))

pub later_low : (pending number : ℕ) → 0 < pending → number < 4294967295 → when 6 (no_number_left pending number) ≡ 0
later_low p c h l = rw (lt-ltb 0 p h, ne_eqb c 4294967295 (λ e. omega arith))

-- 2 and 1
range_of : (k : ℕ) (a : Answer) (ns : List ℕ) → a ≡ refuses (suc k) → suc k ≤ 2 → P.accepts_or (2 ∷ 1 ∷ 6 ∷ ns) a ≡ true
range_of zero a ns e l = rw e
range_of (suc zero) a ns e l = rw e
range_of (suc (suc k)) a ns e l = absurd (omega arith)

module _ (c : Call) (s : State) (i : List ℕ) where
  abbrev first : ℕ
  first = first_refusal s.nand s.on s.blocks c

  abbrev later : ℕ
  later = numbers_refusal s.pending s.commit c

  -- the answer a, and nothing changed
  pub record EndedBy (a : A.Answer) : Type 0 where
    pub tests : FirstTests index c s i (answer_of a) s i
    pub range : (ns : List ℕ) → P.accepts_or (2 ∷ 1 ∷ 6 ∷ ns) (answer_of a) ≡ true
    pub last : first ≡ 0 → (m : ℕ) → later ≡ suc m → answer_of a ≡ refuses (suc m)
    pub idle : first ≡ 0 → s.pending ≡ 0 → answer_of a ≡ accepted
    pub never : Proceeding index c s → ⊥

  still : P.Same index s i s i
  still = record { state = refl; image = refl }

  module _ (low : first ≤ 2) (six : later ≡ when 6 (no_number_left s.pending s.commit)) where
    refused_by_lem : (x y : ℕ) → first ≡ x → later ≡ y → (a : A.Answer) → answer_of a ≡ answer_for (or_else x y) → 0 < or_else x y → EndedBy a × (answer_of a ≡ refuses 10 → ⊥)
    refused_by_lem (suc k) y f l a e h =
        let z : suc k ≤ 2 = omega arith in (
          record {
            tests = record { refused = λ m q. (e ∙ ap refuses (sym f ∙ q), still); not1 = λ p. absurd (omega arith); not2 = λ p. absurd (omega arith); same_size = refl };
            range = λ ns. range_of k (answer_of a) ns e z;
            last = λ p. absurd (omega arith);
            idle = λ p. absurd (omega arith);
            never = λ c. omega (arith, c.passes);
          },
          λ t. other (suc k) 10 (λ u. omega arith) (sym e ∙ t),
        )
    refused_by_lem zero (suc k) f l a e h =
        let z : suc k ≡ 6 = when_is 6 k (no_number_left s.pending s.commit) (sym six ∙ l) in
        let u : answer_of a ≡ refuses 6 = e ∙ ap refuses z in (
          record {
            tests = record { refused = λ m q. absurd (omega arith); not1 = λ p q. other 6 1 (λ z. omega arith) (sym u ∙ q); not2 = λ p q. other 6 2 (λ z. omega arith) (sym u ∙ q); same_size = refl };
            range = λ ns. rw u;
            last = λ p m q. e ∙ ap refuses (sym l ∙ q);
            idle = λ p q. absurd (omega (arith, later_idle s.pending s.commit q, six));
            never = λ c. omega (arith, c.numbers);
          },
          λ t. other 6 10 (λ v. omega arith) (sym u ∙ t),
        )
    refused_by_lem zero zero f l a e h = absurd (omega arith)

    pub ended_refused : (a : A.Answer) → answer_of a ≡ answer_for (or_else first later) → 0 < or_else first later → EndedBy a × (answer_of a ≡ refuses 10 → ⊥)
    ended_refused a e h = refused_by_lem first later refl refl a e h

  -- nothing is pending
  pub ended_idle : later ≡ when 6 (no_number_left s.pending s.commit) → first ≡ 0 → s.pending ≡ 0 → EndedBy (Ok tt)
  ended_idle six p h =
      record {
        tests = record { refused = λ m e. absurd (omega arith); not1 = λ p e. not_refused 1 e; not2 = λ p e. not_refused 2 e; same_size = refl };
        range = λ ns. refl;
        last = λ p m e. absurd (omega (arith, later_idle s.pending s.commit h, six));
        idle = λ p q. refl;
        never = λ c. omega (arith, c.pending);
      }
