-- One call of any kind: what each call gives back is a step, and a step is one that the promise allows. Assumes nothing.
use mathlib.Core.Path.{◌≡◌, refl, sym, subst}
use mathlib.Core.List.{List}
use Prim.Native.Nat.{ℕ}
use Rattle.std.specs.Prelude.{Option, Some, None, Result, Ok, Err}
use Rattle.chip.specs.declared.progress.Counts.{Counts}
use Rattle.chip.specs.Geometry.{Nand}
use Rattle.chip.specs.Counts.{total}
use Rattle.promise.specs.Plain as Plain
use Rattle.promise.specs.Steps.{Allowed}
use Rattle.store.specs.declared.answer.Look.{Look}
use Rattle.store.specs.declared.answer.Refusal.{Refusal}
use Rattle.store.specs.declared.state.State.{State}
use Rattle.store.specs.declared.state.Wrote.{Wrote}
use Rattle.store.specs.declared.state.Updated.{Updated}
use Rattle.store.specs.declared.step.Call.{Call}
use Rattle.store.specs.declared.step.Call.TheVariants.{Format, Insert, Delete, LookUp, Forecast, Commit, Mount}
use Rattle.store.specs.declared.step.Stepped.{Stepped}
use Rattle.store.specs.Answers.{Answer, answer_of, forecast_answer, look_of, ops_foretold, step_answer, value_of}
use Rattle.store.specs.Ensured.{index, Formats, Mounts, Commits, Forecasts, Looks, Inserts, Deletes}
use Rattle.store.specs.Step.{act_of, told, of_wrote, of_updated, value_found, found, of_look, of_forecast, StepsBy}

-- an answer without a value, and that of a look up, are the promise's
pub told_answer : (a : Answer) → step_answer (told a) ≡ answer_of a
told_answer (Ok u) = refl
told_answer (Err e) = refl

found_answer : (v : Option ℕ) → step_answer (value_found v) ≡ value_of v
found_answer (Some v) = refl
found_answer None = refl

pub look_answer : (l : Result Look Refusal) → step_answer (found l) ≡ look_of l
look_answer (Ok l) = found_answer l.value
look_answer (Err e) = refl

same_image_lem : (P : List ℕ → Type 0) (i i' : List ℕ) → i' ≡ i → P i → P i'
same_image_lem P i i' e h = subst P (sym e) h

abbrev AllowedBy : Call → List ℕ → State → List ℕ → Stepped → List ℕ → Type 0
AllowedBy call torn s i r i' = Allowed index (act_of call torn) s i (step_answer r.answer) (total r.ops) r.state i'

-- what is given back in the form of a step, with the promise's answer
module _ (call : Call) (torn : List ℕ) (s : State) (i : List ℕ) (r : Stepped) (i' : List ℕ) where
  same_step : (x : Stepped) → r ≡ x → AllowedBy call torn s i x i' → AllowedBy call torn s i r i'
  same_step x e h = subst (λ (y : Stepped). AllowedBy call torn s i y i') (sym e) h

  same_answer : (x : Stepped) (a : Plain.Answer) → step_answer x.answer ≡ a → Allowed index (act_of call torn) s i a (total x.ops) x.state i' → AllowedBy call torn s i x i'
  same_answer x a e h = subst (λ (b : Plain.Answer). Allowed index (act_of call torn) s i b (total x.ops) x.state i') (sym e) h

  wrote_allowed : (w : Wrote) → r ≡ of_wrote w → Allowed index (act_of call torn) s i (answer_of w.answer) (total w.ops) w.state i' → AllowedBy call torn s i r i'
  wrote_allowed w e h = same_step (of_wrote w) e (same_answer (of_wrote w) (answer_of w.answer) (told_answer w.answer) h)

  updated_allowed : (u : Updated) → r ≡ of_updated u → i' ≡ i → Allowed index (act_of call torn) s i (answer_of u.answer) 0 u.state i → AllowedBy call torn s i r i'
  updated_allowed u e q h =
      same_step (of_updated u) e
      (same_answer (of_updated u) (answer_of u.answer) (told_answer u.answer)
      (same_image_lem (λ (x : List ℕ). Allowed index (act_of call torn) s i (answer_of u.answer) 0 u.state x) i i' q h))

  looked_allowed : (l : Result Look Refusal) → r ≡ of_look l s → i' ≡ i → Allowed index (act_of call torn) s i (look_of l) 0 s i → AllowedBy call torn s i r i'
  looked_allowed l e q h =
      same_step (of_look l s) e
      (same_answer (of_look l s) (look_of l) (look_answer l) (same_image_lem (λ (x : List ℕ). Allowed index (act_of call torn) s i (look_of l) 0 s x) i i' q h))

  foreseen_allowed : (f : Result Counts Refusal) → r ≡ of_forecast f s → i' ≡ i
      → Allowed index (act_of call torn) s i (answer_of (forecast_answer f)) (total (ops_foretold f)) s i → AllowedBy call torn s i r i'
  foreseen_allowed f e q h =
      same_step (of_forecast f s) e
      (same_answer (of_forecast f s) (answer_of (forecast_answer f)) (told_answer (forecast_answer f))
      (same_image_lem (λ (x : List ℕ). Allowed index (act_of call torn) s i (answer_of (forecast_answer f)) (total (ops_foretold f)) s x) i i' q h))

pub step_allowed : (call : Call) (torn : List ℕ) (s : State) (i : List ℕ) (r : Stepped) (i' : List ℕ) → StepsBy call torn s i r i' → AllowedBy call torn s i r i'
step_allowed (Format m n) torn s i r i' h = wrote_allowed (Format m n) torn s i r i' h.wrote h.is h.says.says
step_allowed (Insert k v) torn s i r i' h = updated_allowed (Insert k v) torn s i r i' h.updated h.is h.image h.says.says
step_allowed (Delete k) torn s i r i' h = updated_allowed (Delete k) torn s i r i' h.updated h.is h.image h.says.says
step_allowed (LookUp k) torn s i r i' h = looked_allowed (LookUp k) torn s i r i' h.look h.is h.image h.says.says
step_allowed Forecast torn s i r i' h = foreseen_allowed Forecast torn s i r i' h.foreseen h.is h.image h.says.says
step_allowed (Commit n) torn s i r i' h = wrote_allowed (Commit n) torn s i r i' h.wrote h.is h.says.says
step_allowed (Mount m n) torn s i r i' h = wrote_allowed (Mount m n) torn s i r i' h.wrote h.is h.says.says

module _ (call : Call) (torn : List ℕ) (s : State) (i : List ℕ) (r : Stepped) where
  -- of a call that is this one, with what is given back in this form
  by : (k : Call) → call ≡ k → (x : Stepped) → r ≡ x → (i' : List ℕ) → StepsBy k torn s i x i' → StepsBy call torn s i r i'
  by k e x q i' h =
      subst (λ (c : Call). StepsBy c torn s i r i') (sym e) (subst (λ (y : Stepped). StepsBy k torn s i y i') (sym q) h)

  pub step_format : (m : Nand) (n : ℕ) → call ≡ Format m n → (w : Wrote) (i' : List ℕ) → r ≡ of_wrote w → Formats m n torn s i w i' → StepsBy call torn s i r i'
  step_format m n e w i' q h = by (Format m n) e (of_wrote w) q i' (record { wrote = w; says = h; is = refl })

  pub step_commit : (n : ℕ) → call ≡ Commit n → (w : Wrote) (i' : List ℕ) → r ≡ of_wrote w → Commits n torn s i w i' → StepsBy call torn s i r i'
  step_commit n e w i' q h = by (Commit n) e (of_wrote w) q i' (record { wrote = w; says = h; is = refl })

  pub step_mount : (m : Nand) (n : ℕ) → call ≡ Mount m n → (w : Wrote) (i' : List ℕ) → r ≡ of_wrote w → Mounts m n torn s i w i' → StepsBy call torn s i r i'
  step_mount m n e w i' q h = by (Mount m n) e (of_wrote w) q i' (record { wrote = w; says = h; is = refl })

  pub step_insert : (k v : ℕ) → call ≡ Insert k v → (u : Updated) → r ≡ of_updated u → Inserts k v s i u → StepsBy call torn s i r i
  step_insert k v e u q h = by (Insert k v) e (of_updated u) q i (record { updated = u; says = h; is = refl; image = refl })

  pub step_delete : (k : ℕ) → call ≡ Delete k → (u : Updated) → r ≡ of_updated u → Deletes k s i u → StepsBy call torn s i r i
  step_delete k e u q h = by (Delete k) e (of_updated u) q i (record { updated = u; says = h; is = refl; image = refl })

  pub step_look : (k : ℕ) → call ≡ LookUp k → (l : Result Look Refusal) → r ≡ of_look l s → Looks k s i l → StepsBy call torn s i r i
  step_look k e l q h = by (LookUp k) e (of_look l s) q i (record { look = l; says = h; is = refl; image = refl })

  pub step_forecast : call ≡ Forecast → (f : Result Counts Refusal) → r ≡ of_forecast f s → Forecasts s i f → StepsBy call torn s i r i
  step_forecast e f q h = by Forecast e (of_forecast f s) q i (record { foreseen = f; says = h; is = refl; image = refl })
