-- A list of calls on lent arrays is a list of the promise: what each call ensures is one step of it. Assumes nothing.
use mathlib.Core.Path.{◌≡◌, refl, sym, subst}
use mathlib.Core.Bool.{true}
use mathlib.Core.List.{List, [], ◌∷◌, map}
use Prim.Native.Nat.{ℕ}
use lib.ListN.{get_or}
use Rattle.std.specs.Prelude.{Result}
use Rattle.chip.specs.declared.progress.Counts.{Counts}
use Rattle.chip.specs.Geometry.{Nand}
use Rattle.chip.specs.Counts.{nothing}
use Rattle.tree.specs.Tree.{Table}
use Rattle.promise.specs.Steps.{Hands, Named, NoFormat, Only, Runs, Started, Uncut, last_hands, starts, Agrees}
use Rattle.promise.specs.Erases.{Unworn, since_start, whole_erases}
use Rattle.promise.specs.Wear.{NoneCut, Unbroken}
use Rattle.store.specs.declared.answer.Look.{Look}
use Rattle.store.specs.declared.state.State.{State}
use Rattle.store.specs.declared.state.UpdatedParts.{UpdatedParts}
use Rattle.store.specs.declared.state.WroteParts.{WroteParts}
use Rattle.store.specs.declared.answer.Refusal.{Refusal}
use Rattle.store.specs.declared.step.Call.{Call}
use Rattle.store.specs.declared.step.Call.TheVariants.{Format, Insert, Delete, LookUp, Forecast, Commit, Mount}
use Rattle.store.specs.State.{geometry_in, Good}
use Rattle.store.specs.Ensured.{index, Formats, Mounts, Looks, Inserts, Deletes, Forecasts}
use Rattle.store.specs.Parts.{joined, with_free, updated_with, wrote_with, wrote_free}
use Rattle.store.specs.Answers.{Told, forecast_answer, ops_foretold}
use Rattle.store.specs.Step.{told, found}
use Rattle.store.specs.Lent.{CommitsLent, Parts, state_from, LentStep, Meets, lent_step, RunsLent}
use Rattle.store.proofs.StepLaws.{step_allowed}
use Rattle.store.proofs.IndexPromise.{index_figures_any, index_promise}

-- ---- one call: what it ensures is a step, lent the one image whole
module _ (p : Parts) (torn i i' : List ℕ) where
  -- a step from these parts
  abbrev pub step_to : Call → Told → Counts → Parts → LentStep
  step_to c a ops p' = record { call = c; torn = torn; given = p; lent = i; left = i'; answer = a; ops = ops; after = p'; image = i' }

  -- a format or a mount leaves the buffer
  abbrev pub wrote_step : Call → WroteParts → (lens' slots' erases' : List ℕ) → LentStep
  wrote_step c r lens' slots' erases' = step_to c (told r.answer) r.ops (record { numbers = r.numbers; buffer = p.buffer; lens = lens'; slots = slots'; erases = erases' })

  pub format_step : (m : Nand) (n : ℕ) (r : WroteParts) (lens' slots' erases' : List ℕ)
      → ((buffer : List ℕ) → Formats m n torn (joined p.numbers buffer p.lens p.slots p.erases) i (wrote_with r buffer lens' slots' erases') i')
      → Meets (Format m n) (wrote_step (Format m n) r lens' slots' erases')
  format_step m n r lens' slots' erases' h = record { wrote = wrote_with r p.buffer lens' slots' erases'; says = h p.buffer; is = refl }

  pub mount_step : (m : Nand) (n : ℕ) (r : WroteParts) (lens' slots' erases' : List ℕ)
      → ((buffer : List ℕ) → Mounts m n torn (joined p.numbers buffer p.lens p.slots p.erases) i (wrote_with r buffer lens' slots' erases') i')
      → Meets (Mount m n) (wrote_step (Mount m n) r lens' slots' erases')
  mount_step m n r lens' slots' erases' h = record { wrote = wrote_with r p.buffer lens' slots' erases'; says = h p.buffer; is = refl }

  pub commit_step : (n : ℕ) (r : WroteParts) (lens' slots' erases' : List ℕ)
      → CommitsLent n torn p.numbers p.buffer p.lens p.slots p.erases i r lens' slots' erases' i'
      → Meets (Commit n) (wrote_step (Commit n) r lens' slots' erases')
  commit_step n r lens' slots' erases' h =
      subst (λ (free : List ℕ). Meets (Commit n) (wrote_step (Commit n) (wrote_free r free) lens' slots' erases')) (sym h.kept)
      (record { wrote = wrote_with (wrote_free r p.numbers.free) p.buffer lens' slots' erases'; says = h.says p.numbers.free; is = refl })

module _ (p : Parts) (torn i : List ℕ) where
  -- an update leaves the node table and the erases
  abbrev pub updated_step : Call → UpdatedParts → (buffer' : List ℕ) → LentStep
  updated_step c r buffer' = step_to p torn i i c (told r.answer) nothing (record { numbers = r.numbers; buffer = buffer'; lens = p.lens; slots = p.slots; erases = p.erases })

  pub insert_step : (k v : ℕ) (r : UpdatedParts) (buffer' : List ℕ)
      → ((erases : List ℕ) → Inserts k v (joined p.numbers p.buffer p.lens p.slots erases) i (updated_with r buffer' p.lens p.slots erases))
      → Meets (Insert k v) (updated_step (Insert k v) r buffer')
  insert_step k v r buffer' h = record { updated = updated_with r buffer' p.lens p.slots p.erases; says = h p.erases; is = refl; image = refl }

  pub delete_step : (k : ℕ) (r : UpdatedParts) (buffer' : List ℕ)
      → ((erases : List ℕ) → Deletes k (joined p.numbers p.buffer p.lens p.slots erases) i (updated_with r buffer' p.lens p.slots erases))
      → Meets (Delete k) (updated_step (Delete k) r buffer')
  delete_step k r buffer' h = record { updated = updated_with r buffer' p.lens p.slots p.erases; says = h p.erases; is = refl; image = refl }

  pub look_up_step : (k : ℕ) (r : Result Look Refusal) → ((free erases : List ℕ) → Looks k (joined (with_free p.numbers free) p.buffer p.lens p.slots erases) i r)
      → Meets (LookUp k) (step_to p torn i i (LookUp k) (found r) nothing p)
  look_up_step k r h = record { look = r; says = h p.numbers.free p.erases; is = refl; image = refl }

  pub forecast_step : (r : Result Counts Refusal) → ((free erases : List ℕ) → Forecasts (joined (with_free p.numbers free) p.buffer p.lens p.slots erases) i r)
      → Meets Forecast (step_to p torn i i Forecast (told (forecast_answer r)) (ops_foretold r) p)
  forecast_step r h = record { foreseen = r; says = h p.numbers.free p.erases; is = refl; image = refl }

-- ---- a list
pub lent_runs : (H : State → Type 0) (i : List ℕ) (xs : List LentStep) → RunsLent H i xs → Runs index H i (map lent_step xs)
lent_runs H i [] h = tt
lent_runs H i (x ∷ xs) h = (
  record { allowed = step_allowed x.call x.torn (state_from x.given) x.lent (record { answer = x.answer; ops = x.ops; state = state_from x.after }) x.left h.0.meets; lends = h.0.lends; handed = h.0.handed },
  lent_runs (Hands index H (lent_step x)) x.image xs h.1,
)

-- the promise: from a start, each mount naming the part of the last finished format, with no format cut, each answer is the plain store's, and after each call the image means
-- its K and G
pub lent_promise : (nand : Nand) (K : Table) (G : ℕ) (p : Parts) (i : List ℕ) (xs : List LentStep) → Started index nand K G (state_from p) i
    → RunsLent (Only index (state_from p)) i xs → Named index nand (map lent_step xs) → Uncut index (map lent_step xs)
    → Agrees index (starts index nand K G i) i (map lent_step xs)
lent_promise nand K G p i xs s r m u =
    index_promise nand K G (state_from p) i (map lent_step xs) (record { started = s; runs = lent_runs (Only index (state_from p)) i xs r; named = m; uncut = u })

-- erases on record: from a state that calls gave with figures of 0, where the list leaves the store on, each figure is the whole erases of its block since the last finished
-- mount or format
pub lent_figures : (p : Parts) (i : List ℕ) (xs : List LentStep) → Good (geometry_in (state_from p)) (state_from p) i → RunsLent (Only index (state_from p)) i xs → Unworn index (state_from p)
    → (t : State) → last_hands index (Only index (state_from p)) (map lent_step xs) t → t.on ≡ true
    → (b : ℕ) → get_or t.erases b 0 ≡ whole_erases index b (since_start index (map lent_step xs))
lent_figures p i xs ok r z =
    index_figures_any (state_from p) i (map lent_step xs) ok (lent_runs (Only index (state_from p)) i xs r) z

-- an erase pays: from a state that calls gave, mounts naming its part, with no call cut and no format finished, the list is one of which that is said
pub lent_unbroken : (p : Parts) (i : List ℕ) (xs : List LentStep) → Good (geometry_in (state_from p)) (state_from p) i → RunsLent (Only index (state_from p)) i xs
    → Named index p.numbers.nand (map lent_step xs) → NoneCut index (map lent_step xs) → NoFormat index (map lent_step xs) → Unbroken index (state_from p) i (map lent_step xs)
lent_unbroken p i xs ok r m c f = record { good = ok; runs = lent_runs (Only index (state_from p)) i xs r; named = m; uncut = c; unformatted = f }
