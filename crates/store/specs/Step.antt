-- One call of any kind, as the promise speaks of it.
use Rattle.std.specs.Prelude.{◌≡◌, List, ℕ, ◌<◌, Option, Some, None, Result, Ok, Err}
use Rattle.chip.specs.declared.progress.Counts.{Counts}
use Rattle.chip.specs.Counts.{nothing}
use Rattle.tree.specs.Step6.{top}
use Rattle.promise.specs.Steps as P
use Rattle.promise.specs.Steps.{Act}
use Rattle.store.specs.declared.answer.Look.{Look}
use Rattle.store.specs.declared.answer.Refusal.{Refusal}
use Rattle.store.specs.declared.answer.Refusal.TheVariants.{Absent}
use Rattle.store.specs.declared.state.State.{State}
use Rattle.store.specs.declared.state.Wrote.{Wrote}
use Rattle.store.specs.declared.state.Updated.{Updated}
use Rattle.store.specs.declared.step.Call.{Call}
use Rattle.store.specs.declared.step.Call.TheVariants.{Format, Insert, Delete, LookUp, Forecast, Commit, Mount}
use Rattle.store.specs.declared.step.Stepped.{Stepped}
use Rattle.store.specs.Answers.{Answer, Told, forecast_answer, ops_foretold}
use Rattle.store.specs.Ensured.{Formats, Mounts, Commits, Forecasts, Looks, Inserts, Deletes}

-- a call with its numbers and its torn slice
abbrev pub act_of : Call → List ℕ → Act
act_of (Format m n) torn = P.format m n torn
act_of (Insert k v) torn = P.insert k v
act_of (Delete k) torn = P.delete k
act_of (LookUp k) torn = P.look_up k
act_of Forecast torn = P.forecast
act_of (Commit n) torn = P.commit n torn
act_of (Mount m n) torn = P.mount m n torn

-- the key of a call has 32 bits, as the code takes it
abbrev pub KeyBits : Call → Type 0
KeyBits (Format m n) = Unit {0}
KeyBits (Insert k v) = k < top
KeyBits (Delete k) = k < top
KeyBits (LookUp k) = k < top
KeyBits Forecast = Unit {0}
KeyBits (Commit n) = Unit {0}
KeyBits (Mount m n) = Unit {0}

-- what the calls give back, in one form; insert, delete and look up do no operation, and look up and forecast give the state back
abbrev pub told : Answer → Told
told (Ok u) = Ok None
told (Err e) = Err e

abbrev pub of_wrote : Wrote → Stepped
of_wrote w = record { answer = told w.answer; ops = w.ops; state = w.state }

abbrev pub of_updated : Updated → Stepped
of_updated u = record { answer = told u.answer; ops = nothing; state = u.state }

abbrev pub value_found : Option ℕ → Told
value_found (Some v) = Ok (Some v)
value_found None = Err Absent

abbrev pub found : Result Look Refusal → Told
found (Ok l) = value_found l.value
found (Err e) = Err e

abbrev pub of_look : Result Look Refusal → State → Stepped
of_look r s = record { answer = found r; ops = nothing; state = s }

abbrev pub of_forecast : Result Counts Refusal → State → Stepped
of_forecast r s = record { answer = told (forecast_answer r); ops = ops_foretold r; state = s }

-- ---- what a call of each kind ensures: its whole contract
pub record WroteSteps (A : Wrote → Type 0) (r : Stepped) : Type 0 where
  pub wrote : Wrote
  pub says : A wrote
  pub is : r ≡ of_wrote wrote

-- an update does no operation and leaves the image
pub record UpdateSteps (A : Updated → Type 0) (i : List ℕ) (r : Stepped) (i' : List ℕ) : Type 0 where
  pub updated : Updated
  pub says : A updated
  pub is : r ≡ of_updated updated
  pub image : i' ≡ i

-- a look up gives the state and the image back
pub record LookSteps (k : ℕ) (s : State) (i : List ℕ) (r : Stepped) (i' : List ℕ) : Type 0 where
  pub look : Result Look Refusal
  pub says : Looks k s i look
  pub is : r ≡ of_look look s
  pub image : i' ≡ i

-- and so does a forecast
pub record ForecastSteps (s : State) (i : List ℕ) (r : Stepped) (i' : List ℕ) : Type 0 where
  pub foreseen : Result Counts Refusal
  pub says : Forecasts s i foreseen
  pub is : r ≡ of_forecast foreseen s
  pub image : i' ≡ i

abbrev pub StepsBy : Call → (torn : List ℕ) → State → (image : List ℕ) → Stepped → (left : List ℕ) → Type 0
StepsBy (Format m n) torn s i r i' = WroteSteps (λ (w : Wrote). Formats m n torn s i w i') r
StepsBy (Insert k v) torn s i r i' = UpdateSteps (Inserts k v s i) i r i'
StepsBy (Delete k) torn s i r i' = UpdateSteps (Deletes k s i) i r i'
StepsBy (LookUp k) torn s i r i' = LookSteps k s i r i'
StepsBy Forecast torn s i r i' = ForecastSteps s i r i'
StepsBy (Commit n) torn s i r i' = WroteSteps (λ (w : Wrote). Commits n torn s i w i') r
StepsBy (Mount m n) torn s i r i' = WroteSteps (λ (w : Wrote). Mounts m n torn s i w i') r
