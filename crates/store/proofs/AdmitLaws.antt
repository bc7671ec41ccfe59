-- The first tests, 2 and 1, and what they leave to the calls. Assumes nothing.
use mathlib.Core.Path.{◌≡◌, refl, sym, ap, ◌∙◌}
use mathlib.Core.Bool.{Bool, true, false, not, ◌&&◌}
use mathlib.Core.List.{List}
use Prim.Native.Nat.{ℕ, suc, ◌≤◌, ◌<◌}
use native.Mathlib.Omega.{arith}
use lib.Dec.{ltb, eqb}
use borrow.Author.Tests.{eq-eqb, ne_eqb, lt-ltb, le-ltb, ltb-true, eqb-true, eqb-false}
use Rattle.std.specs.Prelude.{Option, Some, None, Ok, Err}
use Rattle.std.specs.Option.{option_eq}
use Rattle.chip.specs.Geometry.{Geometry, blocks_of}
use Rattle.chip.specs.GeometryCode.{chip_blocks}
use Rattle.chip.proofs.Sizes.{chip_some, chip_none}
use Rattle.promise.specs.Plain.{Call, Answer, refuses, admission, first_refusal, or_else, when, is_chip_size, has_blocks}
use Rattle.promise.specs.Calls.{FirstTests}
use Rattle.store.specs.declared.answer.Refusal.{Refusal}
use Rattle.store.specs.declared.answer.Refusal.TheVariants.{Size, Off, Full, Absent, Nodes, Last, Blank, Layout, Shape, Cut, Thin}
use Rattle.store.specs.declared.state.State.{State}
use Rattle.store.specs.AdmitCode.{ChipOf, Admitted}
use Rattle.store.specs.Answers.{number_of}
use Rattle.store.specs.Ensured.{index}
use Rattle.store.proofs.SizeLaws.{chip_of}

-- 2 and 1 by the blocks of the image
first_is : (g : Geometry) (on : Bool) (b len found : ℕ) → found ≡ blocks_of g len
    → or_else (when 2 (not on)) (when 1 (not (ltb 0 found && eqb found b))) ≡ admission g on b len
unfolding is_chip_size has_blocks
first_is g on b len found e = ap (λ (n : ℕ). or_else (when 2 (not on)) (when 1 (not (ltb 0 n && eqb n b)))) e

pub admit_off : (g : Geometry) (on : Bool) (b len : ℕ) → on ≡ false → Admitted g on b len (Err Off)
admit_off g on b len e = record { number = rw e; chip = λ q. let z : ◌≡◌ {A = ℕ} 0 1 = cc in absurd (omega arith) }

module _ (g : Geometry) (on : Bool) (b len found : ℕ) (e : on ≡ true) (f : found ≡ blocks_of g len) where
  test_is : (t : Bool) → (ltb 0 found && eqb found b) ≡ t → when 1 (not t) ≡ admission g on b len
  test_is t q = (let r : when 1 (not t) ≡ or_else (when 2 (not on)) (when 1 (not (ltb 0 found && eqb found b))) = rw (e, q) in r) ∙ first_is g on b len found f

  size_refused : (ltb 0 found && eqb found b) ≡ false → Admitted g on b len (Err Size)
  size_refused q = record { number = test_is false q; chip = λ p. let z : ◌≡◌ {A = ℕ} 0 1 = cc in absurd (omega arith) }

  pub admit_size : found ≡ 0 → Admitted g on b len (Err Size)
  admit_size z = size_refused (rw (le-ltb 0 found (omega arith)))

  pub admit_other : (found ≡ 0 → ⊥) → (found ≡ b → ⊥) → Admitted g on b len (Err Size)
  admit_other z d = size_refused (rw (lt-ltb 0 found (omega arith), ne_eqb found b d))

  pub admit_passes : (found ≡ 0 → ⊥) → found ≡ b → Admitted g on b len (Ok tt)
  admit_passes z d =
      record {
        number = test_is true (rw (lt-ltb 0 found (omega arith), eq-eqb found b d));
        chip = λ p. chip_of g b len (sym d ∙ f) (λ y. z (d ∙ y));
      }

-- by the blocks that the code finds
module _ (g : Geometry) (on : Bool) (b len : ℕ) (e : on ≡ true) where
  pub admit_fails : (found : Option ℕ) → found ≡ chip_blocks g len → option_eq eqb found (Some b) ≡ false → Admitted g on b len (Err Size)
  admit_fails None q t = admit_size g on b len 0 e (sym (chip_none g len q)) refl
  admit_fails (Some n) q t = let s = chip_some g len n q in admit_other g on b len n e s.0 s.1 (eqb-false n b t)

  pub admit_holds : (found : Option ℕ) → found ≡ chip_blocks g len → option_eq eqb found (Some b) ≡ true → Admitted g on b len (Ok tt)
  admit_holds None q t = let u : ◌≡◌ {A = ℕ} 0 1 = cc in absurd (omega arith)
  admit_holds (Some n) q t = let s = chip_some g len n q in admit_passes g on b len n e s.0 s.1 (eqb-true n b t)

-- they give at most 2
pub low_first : (a b : Bool) → or_else (when 2 a) (when 1 b) ≤ 2
low_first true b = omega arith
low_first false true = omega arith
low_first false false = omega arith

pub admission_low : (g : Geometry) (on : Bool) (B len : ℕ) → admission g on B len ≤ 2
admission_low g on B len = low_first (not on) (not (is_chip_size g len && has_blocks g B len))

-- a refusal has a number
pub number_some : (e : Refusal) → 0 < number_of e
number_some Size = omega arith
number_some Off = omega arith
number_some Full = omega arith
number_some Absent = omega arith
number_some Nodes = omega arith
number_some Last = omega arith
number_some Blank = omega arith
number_some Layout = omega arith
number_some Shape = omega arith
number_some Cut = omega arith
number_some Thin = omega arith

-- where they pass, the image is a chip of these blocks
passes_parts : (on a b : Bool) → or_else (when 2 (not on)) (when 1 (not (a && b))) ≡ 0 → (a ≡ true) × (b ≡ true)
passes_parts true true true e = (refl, refl)
passes_parts true true false e = absurd (omega arith)
passes_parts true false b e = absurd (omega arith)
passes_parts false a b e = absurd (omega arith)

pub admission_chip : (g : Geometry) (on : Bool) (B len : ℕ) → admission g on B len ≡ 0 → ChipOf g B len
unfolding is_chip_size has_blocks
admission_chip g on B len e =
    let w = passes_parts on (ltb 0 (blocks_of g len)) (eqb (blocks_of g len) B) e in
    let q : blocks_of g len ≡ B = eqb-true (blocks_of g len) B w.1 in
    let p : 0 < blocks_of g len = ltb-true 0 (blocks_of g len) w.0 in
    chip_of g B len (sym q) (λ z. omega (arith, p, q))

-- ---- a call refused with 2 or 1
pub not_one : {A : Type 0} {m n : ℕ} → refuses m ≡ refuses n → (m ≡ n → ⊥) → A
not_one e h = absurd (h (cc))

module _ (c : Call) (s : State) (i : List ℕ) (a : Answer) where
  pub first_refused : (n : ℕ) → suc n ≡ first_refusal s.nand s.on s.blocks c → a ≡ refuses (suc n) → FirstTests index c s i a s i
  first_refused n e q =
      record {
        refused = λ m h. (q ∙ ap refuses (e ∙ h), record { state = refl; image = refl });
        not1 = λ p. let z : suc n ≡ 0 = e ∙ p in absurd (omega arith);
        not2 = λ p. let z : suc n ≡ 0 = e ∙ p in absurd (omega arith);
        same_size = refl;
      }

  -- a call that is not
  pub first_passed : (s' : State) → 0 ≡ first_refusal s.nand s.on s.blocks c → (a ≡ refuses 1 → ⊥) → (a ≡ refuses 2 → ⊥) → FirstTests index c s i a s' i
  first_passed s' e n1 n2 =
      record {
        refused = λ m h. let z : 0 ≡ suc m = e ∙ h in absurd (omega arith);
        not1 = λ _. n1;
        not2 = λ _. n2;
        same_size = refl;
      }
