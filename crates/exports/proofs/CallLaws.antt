-- What the store's call says of the numbers loaded, told of the caller's words.
use mathlib.Core.Path.{◌≡◌, refl, subst, ap, ap₂, ◌∙◌}
use mathlib.Core.List.{List, [], ◌∷◌}
use Prim.Native.Nat.{ℕ, ◌<◌, ◌≤◌}
use native.Mathlib.Omega.{arith}
use Rattle.std.specs.Prelude.{Result}
use Rattle.chip.specs.declared.geometry.Nand.TheVariants.{Small, Large}
use Rattle.chip.specs.declared.progress.Counts.{Counts}
use Rattle.chip.specs.Geometry.{Nand}
use Rattle.store.specs.Answers.{forecast_answer, ops_foretold, refusal_number}
use Rattle.store.specs.Ensured.{Looks, Inserts, Deletes, Commits, Forecasts, Reports}
use Rattle.store.specs.Lent.{CommitsLent}
use Rattle.store.specs.Parts.{joined, with_free, updated_with, wrote_with, wrote_free}
use Rattle.store.specs.declared.answer.Look.{Look}
use Rattle.store.specs.declared.answer.Refusal.{Refusal}
use Rattle.store.specs.declared.answer.Report.{Report}
use Rattle.store.specs.declared.state.Numbers.{Numbers}
use Rattle.store.specs.declared.state.State.{State}
use Rattle.store.specs.declared.state.UpdatedParts.{UpdatedParts}
use Rattle.store.specs.declared.state.Wrote.{Wrote}
use Rattle.store.specs.declared.state.WroteParts.{WroteParts}
use Rattle.exports.specs.declared.finds.Told.{Told}
use Rattle.exports.specs.declared.finds.Reported.{Reported}
use Rattle.exports.specs.Told.{look_told, report_told}
use Rattle.exports.specs.Words.{numbers_in, Loads, words_of, part_in, part_word}
use Rattle.exports.proofs.ExactLaws.{Narrow, part_back, words_back, bounds_narrow}
use Rattle.exports.specs.Calls.{LooksTold, ForecastsTold, ReportsTold, InsertsTold, DeletesTold, Tells, WritesAs, WritesTold, CommitsTold}

-- numbers loaded make a state with blocks and units in 32 bits
loaded_narrow : (words free : List ℕ) (n : Numbers) → Loads words free n → (buffer lens slots erases : List ℕ) → Narrow (joined n buffer lens slots erases)
loaded_narrow words free n e buffer lens slots erases = record { blocks = e.blocks; units = e.count }

-- words written as the numbers of a state in 32 bits
exactly : (words' free' : List ℕ) (n : Numbers) (buffer lens slots erases : List ℕ) → words' ≡ words_of n → free' ≡ n.free → Narrow (joined n buffer lens slots erases) → numbers_in words' free' ≡ n
exactly words' free' n buffer lens slots erases e f h = ap₂ numbers_in e f ∙ words_back n h.blocks h.units

-- ---- a call with the number of a part
-- what is done as the part of a number is done as the part that it names
as_named : (Did : Nand → Type 0) (part : ℕ) (nand : Nand) → nand ≡ part_in part → Did nand → (m : Nand) → part ≡ part_word m → Did m
as_named Did part nand e h m f = subst Did (e ∙ ap part_in f ∙ part_back m) h

-- a number above 1 names no part
none_named : (Did : Nand → Type 0) (part : ℕ) → 1 < part → (m : Nand) → part ≡ part_word m → Did m
none_named Did part h Small e = absurd (omega arith)
none_named Did part h Large e = absurd (omega arith)

-- what such a call leaves, whatever its contract
pub unnamed_part : (Contract : Nand → State → List ℕ → Wrote → List ℕ → Type 0) (part : ℕ) → 1 < part → (words free lens slots erases image : List ℕ) (r : ℕ) (ops : List ℕ)
    → (r ≡ 1) × (ops ≡ 0 ∷ 0 ∷ 0 ∷ []) → WritesTold Contract part words free lens slots erases image r ops words free lens slots erases image
unnamed_part Contract part h words free lens slots erases image r ops e =
    record {
      named = none_named (λ (m : Nand). WritesAs (Contract m) words free lens slots erases image r ops words free lens slots erases image) part h;
      unnamed = λ k. record { refusal = e.0; done = e.1; same_words = refl; same_free = refl; same_lens = refl; same_slots = refl; same_erases = refl; same_image = refl };
    }

-- ---- the calls on the numbers loaded
module _ (words free : List ℕ) (n : Numbers) (e : Loads words free n) where
  pub looked : (key : ℕ) (buffer lens slots image : List ℕ) (l : Result Look Refusal) (t : Told) → t ≡ look_told l → ((set erases : List ℕ) → Looks key (joined (with_free n set) buffer lens slots erases) image l)
      → LooksTold key words buffer lens slots image t.refusal (t.first ∷ t.second ∷ [])
  looked key buffer lens slots image l t f h =
      record {
        look = l;
        says = λ (set erases : List ℕ). subst (λ (m : Numbers). Looks key (joined (with_free m set) buffer lens slots erases) image l) e.is (h set erases);
        refusal = ap (λ (x : Told). x.refusal) f;
        tells = ap (λ (x : Told). x.first ∷ x.second ∷ []) f;
      }

  -- a forecast: the counts of its result, in the caller's words
  pub foreseen : (buffer lens slots image : List ℕ) (f : Result Counts Refusal) (r : ℕ) → r ≡ refusal_number (forecast_answer f) → ((set erases : List ℕ) → Forecasts (joined (with_free n set) buffer lens slots erases) image f)
      → ForecastsTold words buffer lens slots image r ((ops_foretold f).programs ∷ (ops_foretold f).marks ∷ (ops_foretold f).erases ∷ [])
  foreseen buffer lens slots image f r g h =
      record {
        result = f;
        says = λ (set erases : List ℕ). subst (λ (m : Numbers). Forecasts (joined (with_free m set) buffer lens slots erases) image f) e.is (h set erases);
        refusal = g;
        done = refl;
      }

  pub reported : (block : ℕ) (erases image : List ℕ) (l : Result Report Refusal) (t : Reported) → t ≡ report_told l
      → ((set buffer lens slots : List ℕ) → Reports block (joined (with_free n set) buffer lens slots erases) image l)
      → ReportsTold block words erases image t.refusal (t.free ∷ t.first ∷ t.erases ∷ [])
  reported block erases image l t f h =
      record {
        report = l;
        says = λ (set buffer lens slots : List ℕ). subst (λ (m : Numbers). Reports block (joined (with_free m set) buffer lens slots erases) image l) e.is (h set buffer lens slots);
        refusal = ap (λ (x : Reported). x.refusal) f;
        tells = ap (λ (x : Reported). x.free ∷ x.first ∷ x.erases ∷ []) f;
      }

  pub inserted : (key value : ℕ) (buffer lens slots image : List ℕ) (u : UpdatedParts) (r : ℕ) (words' free' buffer' : List ℕ)
      → r ≡ refusal_number u.answer → words' ≡ words_of u.numbers → free' ≡ u.numbers.free
      → ((erases : List ℕ) → Inserts key value (joined n buffer lens slots erases) image (updated_with u buffer' lens slots erases))
      → InsertsTold key value words free buffer lens slots image r words' free' buffer'
  inserted key value buffer lens slots image u r words' free' buffer' f g q h =
      record {
        result = u;
        says = λ (erases : List ℕ). subst (λ (m : Numbers). Inserts key value (joined m buffer lens slots erases) image (updated_with u buffer' lens slots erases)) e.is (h erases);
        refusal = f;
        saved = g;
        exact =
            exactly words' free' u.numbers buffer' lens slots [] g q
            (bounds_narrow (joined n buffer lens slots []) (joined u.numbers buffer' lens slots []) (h []).bounds (loaded_narrow words free n e buffer lens slots []));
      }

  pub deleted : (key : ℕ) (buffer lens slots image : List ℕ) (u : UpdatedParts) (r : ℕ) (words' free' buffer' : List ℕ)
      → r ≡ refusal_number u.answer → words' ≡ words_of u.numbers → free' ≡ u.numbers.free
      → ((erases : List ℕ) → Deletes key (joined n buffer lens slots erases) image (updated_with u buffer' lens slots erases))
      → DeletesTold key words free buffer lens slots image r words' free' buffer'
  deleted key buffer lens slots image u r words' free' buffer' f g q h =
      record {
        result = u;
        says = λ (erases : List ℕ). subst (λ (m : Numbers). Deletes key (joined m buffer lens slots erases) image (updated_with u buffer' lens slots erases)) e.is (h erases);
        refusal = f;
        saved = g;
        exact =
            exactly words' free' u.numbers buffer' lens slots [] g q
            (bounds_narrow (joined n buffer lens slots []) (joined u.numbers buffer' lens slots []) (h []).bounds (loaded_narrow words free n e buffer lens slots []));
      }

  -- a call that names its part, where what its contract allows is in 32 bits
  pub named_part : (Contract : Nand → State → List ℕ → Wrote → List ℕ → Type 0) (part : ℕ) (nand : Nand) → nand ≡ part_in part → part ≤ 1
      → (lens slots erases image : List ℕ) (w : WroteParts) (r : ℕ) (ops words' free' lens' slots' erases' image' : List ℕ)
      → Tells w r ops words' → free' ≡ w.numbers.free
      → (Narrow (joined n [] lens slots erases) → Contract nand (joined n [] lens slots erases) image (wrote_with w [] lens' slots' erases') image' → Narrow (joined w.numbers [] lens' slots' erases'))
      → ((buffer : List ℕ) → Contract nand (joined n buffer lens slots erases) image (wrote_with w buffer lens' slots' erases') image')
      → WritesTold Contract part words free lens slots erases image r ops words' free' lens' slots' erases' image'
  named_part Contract part nand d l lens slots erases image w r ops words' free' lens' slots' erases' image' t q k h =
      record {
        named =
            as_named (λ (m : Nand). WritesAs (Contract m) words free lens slots erases image r ops words' free' lens' slots' erases' image') part nand d
            (record {
              result = w;
              says = λ (buffer : List ℕ). subst (λ (m : Numbers). Contract nand (joined m buffer lens slots erases) image (wrote_with w buffer lens' slots' erases') image') e.is (h buffer);
              tells = t;
              exact = exactly words' free' w.numbers [] lens' slots' erases' t.saved q (k (loaded_narrow words free n e [] lens slots erases) (h []));
            });
        unnamed = λ j. absurd (omega (arith, l, j));
      }

  pub committed : (allowance : ℕ) (torn buffer lens slots erases image : List ℕ) (w : WroteParts) (r : ℕ) (ops words' lens' slots' erases' image' : List ℕ)
      → Tells w r ops words'
      → CommitsLent allowance torn n buffer lens slots erases image w lens' slots' erases' image'
      → CommitsTold allowance torn words buffer lens slots erases image r ops words' lens' slots' erases' image'
  committed allowance torn buffer lens slots erases image w r ops words' lens' slots' erases' image' t h =
      record {
        result = w;
        says = λ (set : List ℕ). subst (λ (m : Numbers). Commits allowance torn (joined (with_free m set) buffer lens slots erases) image (wrote_with (wrote_free w set) buffer lens' slots' erases') image') e.is (h.says set);
        tells = t;
        exact = λ (set : List ℕ).
            exactly words' set (with_free w.numbers set) buffer lens' slots' erases' t.saved refl
            (bounds_narrow (joined (with_free n set) buffer lens slots erases) (joined (with_free w.numbers set) buffer lens' slots' erases') (h.says set).bounds (record { blocks = e.blocks; units = e.count }));
      }
