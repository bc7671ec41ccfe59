-- A list of exported calls is a list on lent arrays, and so one of the promise: what each call ensures is one step of it. What a forecast told is what
-- a commit then tells. Assumes nothing.
use mathlib.Core.Path.{◌≡◌, refl, sym, ap, subst, ◌∙◌}
use mathlib.Core.Bool.{true}
use mathlib.Core.List.{List, [], ◌∷◌, map}
use Prim.Native.Nat.{ℕ}
use native.Mathlib.Omega.{arith}
use lib.ListN.{length, get_or}
use Rattle.chip.specs.declared.progress.Counts.{Counts}
use Rattle.chip.specs.Counts.{nothing}
use Rattle.chip.specs.Geometry.{Nand, page_size}
use Rattle.tree.specs.Tree.{Table}
use Rattle.promise.specs.Plain.{Plain}
use Rattle.promise.specs.Steps.{Step, Hands, Named, NoFormat, Only, Started, Uncut, last_hands, starts, next, Agrees}
use Rattle.promise.specs.Erases.{Unworn, since_start, whole_erases}
use Rattle.promise.specs.Wear.{NoneCut, Unbroken}
use Rattle.store.specs.declared.state.Numbers.{Numbers}
use Rattle.store.specs.declared.state.State.{State}
use Rattle.store.specs.declared.step.Call.{Call}
use Rattle.store.specs.declared.step.Call.TheVariants.{Format, Insert, Delete, LookUp, Forecast, Commit, Mount}
use Rattle.store.specs.Answers.{Told, forecast_answer, refusal_in, step_answer}
use Rattle.store.specs.State.{geometry_in, Good}
use Rattle.store.specs.Ensured.{index}
use Rattle.store.specs.Parts.{joined, with_free, updated_with, wrote_with, wrote_free}
use Rattle.store.specs.Step.{told, of_look, of_forecast}
use Rattle.store.specs.declared.step.Stepped.{Stepped}
use Rattle.store.specs.Lent.{state_from, Meets, lent_step, RunsLent}
use Rattle.store.proofs.AnswerLaws.{number_in}
use Rattle.store.proofs.Foretold.{foretells}
use Rattle.store.proofs.StepLaws.{told_answer, look_answer}
use Rattle.store.proofs.LentLists.{lent_figures, lent_promise, lent_unbroken}
use Rattle.exports.specs.Told.{value_in}
use Rattle.exports.specs.Words.{numbers_in}
use Rattle.exports.specs.Exported.{Memory, parts_in, Ensures, Exported, answer_by, ops_by, exported_step, promise_step, RunsExported, TellsAnswer, AgreesTold, sum_told, ForetellsTold}

-- the state that memory holds is the one of these numbers, where its words read back as them
state_is : (m : Memory) (n : Numbers) (buffer lens slots erases : List ℕ) → numbers_in m.words m.free ≡ n → m.buffer ≡ buffer → m.lens ≡ lens → m.slots ≡ slots → m.erases ≡ erases
    → state_from (parts_in m) ≡ joined n buffer lens slots erases
state_is m n buffer lens slots erases e b l s f = cc

-- what a call gives back, as a step
abbrev stepped : Told → Counts → State → Stepped
stepped a c s = record { answer = a; ops = c; state = s }

-- ---- a list
module _ (x : Exported) where
  meets : (c : Call) (h : Ensures x.torn x.given x.lent x.refusal x.told x.after x.left c)
      → Meets c (record {
        call = x.call;
        torn = x.torn;
        given = parts_in x.given;
        lent = x.lent;
        left = x.left;
        answer = answer_by x.torn x.given x.lent x.refusal x.told x.after x.left c h;
        ops = ops_by x.torn x.given x.lent x.refusal x.told x.after x.left c h;
        after = parts_in x.after;
        image = x.image;
      })
  meets (Format p n) h =
      record {
        wrote = wrote_with h.0.result x.given.buffer x.after.lens x.after.slots x.after.erases;
        says = h.0.says x.given.buffer;
        is =
            ap (λ (s : State). stepped (told h.0.result.answer) h.0.result.ops s)
            (state_is x.after h.0.result.numbers x.given.buffer x.after.lens x.after.slots x.after.erases h.0.exact h.1 refl refl refl);
      }
  meets (Mount p n) h =
      record {
        wrote = wrote_with h.0.result x.given.buffer x.after.lens x.after.slots x.after.erases;
        says = h.0.says x.given.buffer;
        is =
            ap (λ (s : State). stepped (told h.0.result.answer) h.0.result.ops s)
            (state_is x.after h.0.result.numbers x.given.buffer x.after.lens x.after.slots x.after.erases h.0.exact h.1 refl refl refl);
      }
  meets (Commit n) h =
      record {
        wrote = wrote_with (wrote_free h.0.result x.given.free) x.given.buffer x.after.lens x.after.slots x.after.erases;
        says = h.0.says x.given.free;
        is =
            ap (λ (s : State). stepped (told h.0.result.answer) h.0.result.ops s)
            (state_is x.after (with_free h.0.result.numbers x.given.free) x.given.buffer x.after.lens x.after.slots x.after.erases (ap (numbers_in x.after.words) h.2 ∙ h.0.exact x.given.free) h.1 refl refl refl);
      }
  meets (Insert k v) h =
      record {
        updated = updated_with h.0.result x.after.buffer x.given.lens x.given.slots x.given.erases;
        says = h.0.says x.given.erases;
        is =
            ap (λ (s : State). stepped (told h.0.result.answer) nothing s)
            (state_is x.after h.0.result.numbers x.after.buffer x.given.lens x.given.slots x.given.erases h.0.exact refl h.1 h.2 h.3);
        image = h.4;
      }
  meets (Delete k) h =
      record {
        updated = updated_with h.0.result x.after.buffer x.given.lens x.given.slots x.given.erases;
        says = h.0.says x.given.erases;
        is =
            ap (λ (s : State). stepped (told h.0.result.answer) nothing s)
            (state_is x.after h.0.result.numbers x.after.buffer x.given.lens x.given.slots x.given.erases h.0.exact refl h.1 h.2 h.3);
        image = h.4;
      }
  meets (LookUp k) h = record { look = h.0.look; says = h.0.says x.given.free x.given.erases; is = ap (λ (m : Memory). of_look h.0.look (state_from (parts_in m))) h.1; image = h.2 }
  meets Forecast h =
      record { foreseen = h.0.result; says = h.0.says x.given.free x.given.erases; is = ap (λ (m : Memory). of_forecast h.0.result (state_from (parts_in m))) h.1; image = h.2 }

  -- what a call tells is its answer
  tells_by : (c : Call) (h : Ensures x.torn x.given x.lent x.refusal x.told x.after x.left c) → x.refusal ≡ refusal_in (step_answer (answer_by x.torn x.given x.lent x.refusal x.told x.after x.left c h))
  tells_by (Format p n) h = h.0.tells.refusal ∙ number_in h.0.result.answer ∙ ap refusal_in (sym (told_answer h.0.result.answer))
  tells_by (Mount p n) h = h.0.tells.refusal ∙ number_in h.0.result.answer ∙ ap refusal_in (sym (told_answer h.0.result.answer))
  tells_by (Commit n) h = h.0.tells.refusal ∙ number_in h.0.result.answer ∙ ap refusal_in (sym (told_answer h.0.result.answer))
  tells_by (Insert k v) h = h.0.refusal ∙ number_in h.0.result.answer ∙ ap refusal_in (sym (told_answer h.0.result.answer))
  tells_by (Delete k) h = h.0.refusal ∙ number_in h.0.result.answer ∙ ap refusal_in (sym (told_answer h.0.result.answer))
  tells_by (LookUp k) h = h.0.refusal ∙ ap refusal_in (sym (look_answer h.0.look))
  tells_by Forecast h = h.0.refusal ∙ number_in (forecast_answer h.0.result) ∙ ap refusal_in (sym (told_answer (forecast_answer h.0.result)))

  value_by : (c : Call) (h : Ensures x.torn x.given x.lent x.refusal x.told x.after x.left c) (k : ℕ) → c ≡ LookUp k
      → get_or x.told 0 0 ≡ value_in (step_answer (answer_by x.torn x.given x.lent x.refusal x.told x.after x.left c h))
  value_by (Format p n) h k e = let z : ◌≡◌ {A = ℕ} 0 1 = cc in absurd (omega arith)
  value_by (Mount p n) h k e = let z : ◌≡◌ {A = ℕ} 0 1 = cc in absurd (omega arith)
  value_by (Commit n) h k e = let z : ◌≡◌ {A = ℕ} 0 1 = cc in absurd (omega arith)
  value_by (Insert j v) h k e = let z : ◌≡◌ {A = ℕ} 0 1 = cc in absurd (omega arith)
  value_by (Delete j) h k e = let z : ◌≡◌ {A = ℕ} 0 1 = cc in absurd (omega arith)
  value_by (LookUp j) h k e = ap (λ (ns : List ℕ). get_or ns 0 0) h.0.tells ∙ ap value_in (sym (look_answer h.0.look))
  value_by Forecast h k e = let z : ◌≡◌ {A = ℕ} 0 1 = cc in absurd (omega arith)

  pub tells_own : TellsAnswer x (step_answer (answer_by x.torn x.given x.lent x.refusal x.told x.after x.left x.call x.ensures))
  tells_own = record { refusal = tells_by x.call x.ensures; value = value_by x.call x.ensures }

pub exported_runs : (H : State → Type 0) (i : List ℕ) (xs : List Exported) → RunsExported H i xs → RunsLent H i (map exported_step xs)
exported_runs H i [] h = tt
exported_runs H i (x ∷ xs) h = (
  record { meets = meets x x.call x.ensures; lends = h.0.lends; handed = h.0.handed },
  exported_runs (Hands index H (promise_step x)) x.image xs h.1,
)

-- what holds of a list's answers holds of what is told
agrees_told : (p : Plain) (i : List ℕ) (xs : List Exported) → Agrees index p i (map lent_step (map exported_step xs)) → AgreesTold p i xs
agrees_told p i [] h = tt
agrees_told p i (x ∷ xs) h = (subst (TellsAnswer x) h.0 (tells_own x), h.1, agrees_told (next index p i (promise_step x)) x.image xs h.2)

-- an exported call as a step, at once or by way of the lent arrays
steps_same : (xs : List Exported) → map promise_step xs ≡ map lent_step (map exported_step xs)
steps_same [] = refl
steps_same (x ∷ xs) = ap (λ (ys : List (Step index)). promise_step x ∷ ys) (steps_same xs)

-- the promise: from a start, each mount naming the part of the last finished format, with no format cut, the refusals and the values told are the plain store's, and after each
-- call the image means its K and G
pub exported_promise : (nand : Nand) (K : Table) (G : ℕ) (m : Memory) (i : List ℕ) (xs : List Exported) → Started index nand K G (state_from (parts_in m)) i
    → RunsExported (Only index (state_from (parts_in m))) i xs → Named index nand (map promise_step xs) → Uncut index (map promise_step xs)
    → AgreesTold (starts index nand K G i) i xs
exported_promise nand K G m i xs s r d u =
    agrees_told (starts index nand K G i) i xs
    (lent_promise nand K G (parts_in m) i (map exported_step xs) s (exported_runs (Only index (state_from (parts_in m))) i xs r) (subst (Named index nand) (steps_same xs) d) (subst (Uncut index) (steps_same xs) u))

-- erases on record: where a list from figures of 0 leaves the store on, the figures in memory are the whole erases since the last finished mount or format
pub exported_figures : (m : Memory) (i : List ℕ) (xs : List Exported) → Good (geometry_in (state_from (parts_in m))) (state_from (parts_in m)) i → RunsExported (Only index (state_from (parts_in m))) i xs
    → Unworn index (state_from (parts_in m))
    → (t : State) → last_hands index (Only index (state_from (parts_in m))) (map promise_step xs) t → t.on ≡ true
    → (b : ℕ) → get_or t.erases b 0 ≡ whole_erases index b (since_start index (map promise_step xs))
exported_figures m i xs g r z =
    subst
    (λ (ys : List (Step index)). (t : State) → last_hands index (Only index (state_from (parts_in m))) ys t → t.on ≡ true
    → (b : ℕ) → get_or t.erases b 0 ≡ whole_erases index b (since_start index ys))
    (sym (steps_same xs)) (lent_figures (parts_in m) i (map exported_step xs) g (exported_runs (Only index (state_from (parts_in m))) i xs r) z)

-- an erase pays: from a state that calls gave, mounts naming its part, with no call cut and no format finished, the list is one of which that is said
pub exported_unbroken : (m : Memory) (i : List ℕ) (xs : List Exported) → Good (geometry_in (state_from (parts_in m))) (state_from (parts_in m)) i → RunsExported (Only index (state_from (parts_in m))) i xs
    → Named index (numbers_in m.words m.free).nand (map promise_step xs) → NoneCut index (map promise_step xs) → NoFormat index (map promise_step xs) → Unbroken index (state_from (parts_in m)) i (map promise_step xs)
exported_unbroken m i xs g r d c f =
    let e = steps_same xs in
    subst (Unbroken index (state_from (parts_in m)) i) (sym e)
    (lent_unbroken (parts_in m) i (map exported_step xs) g (exported_runs (Only index (state_from (parts_in m))) i xs r) (subst (Named index (numbers_in m.words m.free).nand) e d) (subst (NoneCut index) e c) (subst (NoFormat index) e f))

-- ---- a forecast and a commit, on any memory and any image
module _ (x y : Exported) (n : ℕ) (size : length y.torn ≡ page_size (geometry_in (state_from (parts_in x.given)))) where
  -- what both ensure, from the memory and the image of the forecast
  foretells_by : Ensures x.torn x.given x.lent x.refusal x.told x.after x.left Forecast
      → Ensures y.torn x.given x.lent y.refusal y.told y.after y.left (Commit n) → ForetellsTold n x y
  foretells_by f c =
      let m = x.given in
      let w = wrote_with (wrote_free c.0.result m.free) m.buffer y.after.lens y.after.slots y.after.erases in
      let t = foretells (state_from (parts_in m)) x.lent f.0.result (f.0.says m.free m.erases) n y.torn size w y.left (c.0.says m.free) in
      let d = c.0.tells in
      let sum = ap sum_told f.0.done in
      record {
        enough =
            λ l. let e = t.enough (omega (arith, sum)) in
            (d.refusal ∙ number_in c.0.result.answer ∙ ap refusal_in e.0 ∙ sym (number_in (forecast_answer f.0.result)) ∙ sym f.0.refusal, d.done ∙ ap (λ (o : Counts). o.programs ∷ o.marks ∷ o.erases ∷ []) e.1 ∙ sym f.0.done);
        short = λ l. let e = t.short (omega (arith, sum)) in (d.refusal ∙ number_in c.0.result.answer ∙ ap refusal_in e.0, ap sum_told d.done ∙ e.1);
      }

  -- a forecast, and a commit from the same memory and image with a torn slice of a page of the state's part: what the forecast told is what the commit tells
  pub exported_foretells : x.call ≡ Forecast → y.call ≡ Commit n → y.given ≡ x.given → y.lent ≡ x.lent → ForetellsTold n x y
  exported_foretells e f g h =
      foretells_by
      (subst (Ensures x.torn x.given x.lent x.refusal x.told x.after x.left) e x.ensures)
      (subst (λ (m : Memory). Ensures y.torn m x.lent y.refusal y.told y.after y.left (Commit n)) g
      (subst (λ (i : List ℕ). Ensures y.torn y.given i y.refusal y.told y.after y.left (Commit n)) h
      (subst (Ensures y.torn y.given y.lent y.refusal y.told y.after y.left) f y.ensures)))
