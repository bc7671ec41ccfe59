-- A list of exported calls, as a program in another language makes it: the caller keeps a state in its memory and lends that to each call.
use Rattle.std.specs.Prelude.{◌≡◌, false, List, [], ◌∷◌, ℕ, ◌+◌, ◌<◌, ◌≤◌, get_or}
use Rattle.chip.specs.declared.progress.Counts.{Counts}
use Rattle.chip.specs.Geometry.{geometry_of}
use Rattle.chip.specs.Counts.{nothing}
use Rattle.promise.specs.Plain as P
use Rattle.promise.specs.Plain.{Plain}
use Rattle.promise.specs.Calls.{means}
use Rattle.promise.specs.Image.{image_meaning}
use Rattle.promise.specs.Steps.{Step, Lends, Hands, boots, next, answer_to}
use Rattle.store.specs.declared.state.State.{State}
use Rattle.store.specs.declared.step.Call.{Call}
use Rattle.store.specs.declared.step.Call.TheVariants.{Format, Insert, Delete, LookUp, Forecast, Commit, Mount}
use Rattle.store.specs.Answers.{Told, forecast_answer, ops_foretold, refusal_in}
use Rattle.store.specs.Ensured.{index, Formats, Mounts}
use Rattle.store.specs.Lent.{Parts, state_from, LentStep, lent_step}
use Rattle.store.specs.Step as S
use Rattle.store.specs.Step.{act_of}
use Rattle.exports.specs.Calls.{LooksTold, ForecastsTold, InsertsTold, DeletesTold, WritesAs, CommitsTold}
use Rattle.exports.specs.Told.{value_in}
use Rattle.exports.specs.Words.{numbers_in}

-- what a caller keeps of a state: six words, and the arrays
pub record Memory : Type 0 where
  pub words : List ℕ
  pub free : List ℕ
  pub buffer : List ℕ
  pub lens : List ℕ
  pub slots : List ℕ
  pub erases : List ℕ

-- the parts of the state that it holds
abbrev pub parts_in : Memory → Parts
parts_in m = record { numbers = numbers_in m.words m.free; buffer = m.buffer; lens = m.lens; slots = m.slots; erases = m.erases }

-- from the memory m and the image i to the refusal r, the numbers told, the memory m' and the image i'
module _ (torn : List ℕ) (m : Memory) (i : List ℕ) (r : ℕ) (told : List ℕ) (m' : Memory) (i' : List ℕ) where
  -- what a call ensures: its contract; and what is lent to it for reading only, or not at all, stays. A format or a mount names a part here:
  -- one with a number that names no part changes nothing, and stands in no list
  abbrev pub Ensures : Call → Type 0
  Ensures (Format p n) = WritesAs (Formats p n torn) m.words m.free m.lens m.slots m.erases i r told m'.words m'.free m'.lens m'.slots m'.erases i' × (m'.buffer ≡ m.buffer)
  Ensures (Mount p n) = WritesAs (Mounts p n torn) m.words m.free m.lens m.slots m.erases i r told m'.words m'.free m'.lens m'.slots m'.erases i' × (m'.buffer ≡ m.buffer)
  Ensures (Commit n) = CommitsTold n torn m.words m.buffer m.lens m.slots m.erases i r told m'.words m'.lens m'.slots m'.erases i' × (m'.buffer ≡ m.buffer) × (m'.free ≡ m.free)
  Ensures (Insert k v) =
      InsertsTold k v m.words m.free m.buffer m.lens m.slots i r m'.words m'.free m'.buffer × (m'.lens ≡ m.lens) × (m'.slots ≡ m.slots) × (m'.erases ≡ m.erases) × (i' ≡ i)
  Ensures (Delete k) =
      DeletesTold k m.words m.free m.buffer m.lens m.slots i r m'.words m'.free m'.buffer × (m'.lens ≡ m.lens) × (m'.slots ≡ m.slots) × (m'.erases ≡ m.erases) × (i' ≡ i)
  Ensures (LookUp k) = LooksTold k m.words m.buffer m.lens m.slots i r told × (m' ≡ m) × (i' ≡ i)
  Ensures Forecast = ForecastsTold m.words m.buffer m.lens m.slots i r told × (m' ≡ m) × (i' ≡ i)

  -- the answer and the operations of the result that it tells
  abbrev pub answer_by : (c : Call) → Ensures c → Told
  answer_by (Format p n) h = S.told h.0.result.answer
  answer_by (Mount p n) h = S.told h.0.result.answer
  answer_by (Commit n) h = S.told h.0.result.answer
  answer_by (Insert k v) h = S.told h.0.result.answer
  answer_by (Delete k) h = S.told h.0.result.answer
  answer_by (LookUp k) h = S.found h.0.look
  answer_by Forecast h = S.told (forecast_answer h.0.result)

  abbrev pub ops_by : (c : Call) → Ensures c → Counts
  ops_by (Format p n) h = h.0.result.ops
  ops_by (Mount p n) h = h.0.result.ops
  ops_by (Commit n) h = h.0.result.ops
  ops_by (Insert k v) h = nothing
  ops_by (Delete k) h = nothing
  ops_by (LookUp k) h = nothing
  ops_by Forecast h = ops_foretold h.0.result

-- one call as it happened: the memory given and the image lent to it, what it left of that, the refusal, the numbers told, the memory then; and the one
-- image after the call
pub record Exported : Type 0 where
  pub call : Call
  pub torn : List ℕ
  pub given : Memory
  pub lent : List ℕ
  pub left : List ℕ
  pub refusal : ℕ
  pub told : List ℕ
  pub after : Memory
  pub image : List ℕ
  pub ensures : Ensures torn given lent refusal told after left call

-- the same as a call on lent arrays
abbrev pub exported_step : Exported → LentStep
exported_step x =
    record {
      call = x.call;
      torn = x.torn;
      given = parts_in x.given;
      lent = x.lent;
      left = x.left;
      answer = answer_by x.torn x.given x.lent x.refusal x.told x.after x.left x.call x.ensures;
      ops = ops_by x.torn x.given x.lent x.refusal x.told x.after x.left x.call x.ensures;
      after = parts_in x.after;
      image = x.image;
    }

-- and as a step of the promise
abbrev pub promise_step : Exported → Step index
promise_step x = lent_step (exported_step x)

-- a call from the one image i, where H are the states at hand
pub record TakesExported (H : State → Type 0) (i : List ℕ) (x : Exported) : Type 0 where
  pub lends : Lends index i (promise_step x)
  pub handed : boots (act_of x.call x.torn) ≡ false → H (state_from (parts_in x.given))

-- each call gets the memory that the last one left, a mount or a format any memory, and nothing else writes memory or image in between
abbrev pub RunsExported : (State → Type 0) → List ℕ → List Exported → Type 0
RunsExported H i [] = Unit {0}
RunsExported H i (x ∷ xs) = TakesExported H i x × RunsExported (Hands index H (promise_step x)) x.image xs

-- a call tells this answer: the refusal; a look up also the value
pub record TellsAnswer (x : Exported) (a : P.Answer) : Type 0 where
  pub refusal : x.refusal ≡ refusal_in a
  pub value : (k : ℕ) → x.call ≡ LookUp k → get_or x.told 0 0 ≡ value_in a

-- compared at each place with the plain store: what the call tells; and, after the call, K and G with what the image means, read as
-- the part of the plain store
abbrev pub AgreesTold : Plain → List ℕ → List Exported → Type 0
AgreesTold p i [] = Unit {0}
AgreesTold p i (x ∷ xs) =
    TellsAnswer x (answer_to index p (promise_step x))
    × (image_meaning (geometry_of (next index p i (promise_step x)).nand) x.image ≡ means (next index p i (promise_step x)).kept (next index p i (promise_step x)).number)
    × AgreesTold (next index p i (promise_step x)) x.image xs

-- the sum of the three numbers told
abbrev pub sum_told : List ℕ → ℕ
sum_told told = get_or told 0 0 + get_or told 1 0 + get_or told 2 0

-- what the forecast x says of the commit y with an allowance of n: with the sum of its three numbers, or more, the commit tells the same refusal and the
-- same three; with less it is refused with 10, and its three numbers add up to the allowance
pub record ForetellsTold (n : ℕ) (x y : Exported) : Type 0 where
  pub enough : sum_told x.told ≤ n → (y.refusal ≡ x.refusal) × (y.told ≡ x.told)
  pub short : n < sum_told x.told → (y.refusal ≡ 10) × (sum_told y.told ≡ n)
