-- What each exported call ensures: it tells in numbers a result that the contract of the store's call holds of. The words and the free numbers that it leaves read
-- back exactly as the numbers of that result (`exact`), on any words and any image.
use Rattle.std.specs.Prelude.{◌≡◌, List, [], ◌∷◌, ℕ, ◌<◌, Result}
use Rattle.chip.specs.declared.progress.Counts.{Counts}
use Rattle.chip.specs.Geometry.{Nand}
use Rattle.store.specs.Answers.{forecast_answer, ops_foretold, refusal_number}
use Rattle.store.specs.Ensured.{Formats, Mounts, Rebuilds, Looks, Inserts, Deletes, Commits, Forecasts, Reports}
use Rattle.store.specs.Parts.{joined, with_free, updated_with, wrote_with, wrote_free}
use Rattle.store.specs.declared.answer.Look.{Look}
use Rattle.store.specs.declared.answer.Refusal.{Refusal}
use Rattle.store.specs.declared.answer.Report.{Report}
use Rattle.store.specs.declared.state.State.{State}
use Rattle.store.specs.declared.state.UpdatedParts.{UpdatedParts}
use Rattle.store.specs.declared.state.Wrote.{Wrote}
use Rattle.store.specs.declared.state.WroteParts.{WroteParts}
use Rattle.exports.specs.Told.{look_told, report_told}
use Rattle.exports.specs.Words.{numbers_in, words_of, part_word}

-- look up: the refusal r, and the value and the pages read in `told`
pub record LooksTold (key : ℕ) (words buffer lens slots image : List ℕ) (r : ℕ) (told : List ℕ) : Type 0 where
  pub look : Result Look Refusal
  pub says : (free erases : List ℕ) → Looks key (joined (numbers_in words free) buffer lens slots erases) image look
  pub refusal : r ≡ (look_told look).refusal
  pub tells : told ≡ (look_told look).first ∷ (look_told look).second ∷ []

-- forecast: the refusal r, and in `ops` the operations by kind that a commit made now would tell
pub record ForecastsTold (words buffer lens slots image : List ℕ) (r : ℕ) (ops : List ℕ) : Type 0 where
  pub result : Result Counts Refusal
  pub says : (free erases : List ℕ) → Forecasts (joined (numbers_in words free) buffer lens slots erases) image result
  pub refusal : r ≡ refusal_number (forecast_answer result)
  pub done : ops ≡ (ops_foretold result).programs ∷ (ops_foretold result).marks ∷ (ops_foretold result).erases ∷ []

-- block report, whatever the free numbers, the buffer and the node table: the refusal r, and the free pages, the first of them and the erases in `told`
pub record ReportsTold (block : ℕ) (words erases image : List ℕ) (r : ℕ) (told : List ℕ) : Type 0 where
  pub report : Result Report Refusal
  pub says : (free buffer lens slots : List ℕ) → Reports block (joined (numbers_in words free) buffer lens slots erases) image report
  pub refusal : r ≡ (report_told report).refusal
  pub tells : told ≡ (report_told report).free ∷ (report_told report).first ∷ (report_told report).erases ∷ []

-- insert: the refusal r, and the words, the free numbers and the buffer that it leaves
pub record InsertsTold (key value : ℕ) (words free buffer lens slots image : List ℕ) (r : ℕ) (words' free' buffer' : List ℕ) : Type 0 where
  pub result : UpdatedParts
  pub says : (erases : List ℕ) → Inserts key value (joined (numbers_in words free) buffer lens slots erases) image (updated_with result buffer' lens slots erases)
  pub refusal : r ≡ refusal_number result.answer
  pub saved : words' ≡ words_of result.numbers
  pub exact : numbers_in words' free' ≡ result.numbers

-- delete: the same
pub record DeletesTold (key : ℕ) (words free buffer lens slots image : List ℕ) (r : ℕ) (words' free' buffer' : List ℕ) : Type 0 where
  pub result : UpdatedParts
  pub says : (erases : List ℕ) → Deletes key (joined (numbers_in words free) buffer lens slots erases) image (updated_with result buffer' lens slots erases)
  pub refusal : r ≡ refusal_number result.answer
  pub saved : words' ≡ words_of result.numbers
  pub exact : numbers_in words' free' ≡ result.numbers

-- what format, mount, rebuild and commit tell of a result: the refusal r, the operations by kind, and the words
pub record Tells (result : WroteParts) (r : ℕ) (ops words' : List ℕ) : Type 0 where
  pub refusal : r ≡ refusal_number result.answer
  pub saved : words' ≡ words_of result.numbers
  pub done : ops ≡ result.ops.programs ∷ result.ops.marks ∷ result.ops.erases ∷ []

-- what a call ensures that names its part and meets this contract, whatever the buffer: the free numbers, the node table, the erases and the image that it leaves
pub record WritesAs (Contract : State → List ℕ → Wrote → List ℕ → Type 0) (words free lens slots erases image : List ℕ) (r : ℕ)
    (ops words' free' lens' slots' erases' image' : List ℕ) : Type 0 where
  pub result : WroteParts
  pub says : (buffer : List ℕ) → Contract (joined (numbers_in words free) buffer lens slots erases) image (wrote_with result buffer lens' slots' erases') image'
  pub tells : Tells result r ops words'
  pub exact : numbers_in words' free' ≡ result.numbers

-- refused with 1 and no operation told, and all that is lent stays as it was
pub record Untouched (words free lens slots erases image : List ℕ) (r : ℕ) (ops words' free' lens' slots' erases' image' : List ℕ) : Type 0 where
  pub refusal : r ≡ 1
  pub done : ops ≡ 0 ∷ 0 ∷ 0 ∷ []
  pub same_words : words' ≡ words
  pub same_free : free' ≡ free
  pub same_lens : lens' ≡ lens
  pub same_slots : slots' ≡ slots
  pub same_erases : erases' ≡ erases
  pub same_image : image' ≡ image

-- with a number for the part: one that names a part, or one that names none
pub record WritesTold (Contract : Nand → State → List ℕ → Wrote → List ℕ → Type 0) (part : ℕ) (words free lens slots erases image : List ℕ) (r : ℕ)
    (ops words' free' lens' slots' erases' image' : List ℕ) : Type 0 where
  pub named : (nand : Nand) → part ≡ part_word nand → WritesAs (Contract nand) words free lens slots erases image r ops words' free' lens' slots' erases' image'
  pub unnamed : 1 < part → Untouched words free lens slots erases image r ops words' free' lens' slots' erases' image'

-- format, mount and rebuild
abbrev pub FormatsTold : (part allowance : ℕ) (torn words free lens slots erases image : List ℕ) (r : ℕ) (ops words' free' lens' slots' erases' image' : List ℕ) → Type 0
FormatsTold part allowance torn = WritesTold (λ n. Formats n allowance torn) part

abbrev pub MountsTold : (part allowance : ℕ) (torn words free lens slots erases image : List ℕ) (r : ℕ) (ops words' free' lens' slots' erases' image' : List ℕ) → Type 0
MountsTold part allowance torn = WritesTold (λ n. Mounts n allowance torn) part

abbrev pub RebuildsTold : (part allowance : ℕ) (torn words free lens slots erases image : List ℕ) (r : ℕ) (ops words' free' lens' slots' erases' image' : List ℕ) → Type 0
RebuildsTold part allowance torn = WritesTold (λ n. Rebuilds n allowance torn) part

-- commit, with the buffer, whatever the free numbers, which stay: as these
pub record CommitsTold (allowance : ℕ) (torn words buffer lens slots erases image : List ℕ) (r : ℕ) (ops words' lens' slots' erases' image' : List ℕ) : Type 0 where
  pub result : WroteParts
  pub says : (free : List ℕ) → Commits allowance torn (joined (numbers_in words free) buffer lens slots erases) image (wrote_with (wrote_free result free) buffer lens' slots' erases') image'
  pub tells : Tells result r ops words'
  pub exact : (free : List ℕ) → numbers_in words' free ≡ with_free result.numbers free
