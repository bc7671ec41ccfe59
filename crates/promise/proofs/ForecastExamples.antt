-- Forecasts of the plain store, and of the sample store with the commits after them, computed. Assumes nothing.
use mathlib.Core.Path.{◌≡◌, refl}
use mathlib.Core.Bool.{Bool, true}
use mathlib.Core.List.{List, [], ◌∷◌, ◌++◌, map}
use Prim.Native.Nat.{ℕ}
use native.Mathlib.Omega.{arith}
use Rattle.chip.specs.Geometry.{Nand}
use Rattle.chip.specs.declared.geometry.Nand.TheVariants.{Small}
use Rattle.tree.specs.Tree as T
use Rattle.tree.specs.Insert as Ins
use Rattle.tree.specs.Delete as Del
use Rattle.tree.specs.Thick.{thin}
use Rattle.promise.specs.Plain.{first_refusal, commits, forecasts, formats, inserts, mounts, looking_up, insertion, deletion, Answer, refuses, accepted, finds, is_chip_size, is_torn_size, has_blocks, last_number, verdict, leaf, resting, updated, finished, accepted_answer}
use Rattle.promise.specs.Calls.{state_of}
use Rattle.promise.specs.Steps.{insert, delete, look_up, forecast, commit, Step, Only}
use Rattle.promise.specs.Forecasts.{Foresees, AllStill}
use Rattle.promise.proofs.Promise.{accepted_not}
use Rattle.promise.proofs.Forecasts.{forecast_holds, read_still, refused_still}
use Rattle.promise.proofs.Proper.{look_up_proper, insert_proper, delete_proper}
use Rattle.promise.proofs.Sample.{allowed, sample, Order, next, step_of, steps_of, Fine, runs}
use Rattle.promise.proofs.Examples.{image, page, call, answers, late_answers, torn, s₀, i₀}
use Rattle.promise.proofs.FigureExamples.{leaves}
use Rattle.promise.proofs.WearExamples.{leaves_image}

-- the plain store: 2 before a format; 1 for an image of no block or of 4; nothing pending and one update pending; 6 only with updates pending
pub plain_examples :
    (answers []
    (call (forecasts 0) ∷ call (formats Small 2000 image page) ∷ call (forecasts 0) ∷ call (forecasts 67584) ∷ call (forecasts image) ∷ call (inserts 7 99 image) ∷ call (forecasts image) ∷ [])
    ≡ refuses 2 ∷ accepted ∷ refuses 1 ∷ refuses 1 ∷ accepted ∷ accepted ∷ accepted ∷ [])
    × (late_answers last_number (call (forecasts image) ∷ call (mounts Small 255 image page) ∷ call (forecasts image) ∷ []) ≡ refuses 6 ∷ accepted ∷ accepted ∷ [])
unfolding insertion is_chip_size is_torn_size has_blocks verdict leaf resting updated finished accepted_answer Ins.insert Ins.allowed Ins.inserted Ins.insert_at Ins.gain Ins.fit_or_split
plain_examples = (refl, refl)

-- ---- the sample store: answer and operations of a step
abbrev pub told : Step sample → Answer × ℕ
told x = (x.answer, x.ops)

-- two updates, a forecast, a look up and a refused delete, a commit with an allowance of n, and a forecast again
abbrev before : List Order
before = next (insert 3 30) ∷ next (insert 4 40) ∷ []

abbrev between : List Order
between = next (look_up 3) ∷ next (delete 9) ∷ []

abbrev pub foretold : ℕ → List Order
foretold n = before ++ (next forecast ∷ (between ++ (next (commit n (torn 90)) ∷ next forecast ∷ [])))

-- with the sum as allowance the commit finishes, with one less it is cut; with nothing pending a forecast is accepted and tells 0
pub forecast_examples :
    (map told (steps_of (foretold 3) s₀ i₀) ≡ (accepted, 0) ∷ (accepted, 0) ∷ (accepted, 3) ∷ (finds 30, 0) ∷ (refuses 4, 0) ∷ (accepted, 3) ∷ (accepted, 0) ∷ [])
    × (map told (steps_of (foretold 2) s₀ i₀) ≡ (accepted, 0) ∷ (accepted, 0) ∷ (accepted, 3) ∷ (finds 30, 0) ∷ (refuses 4, 0) ∷ (refuses 10, 2) ∷ (refuses 2, 0) ∷ [])
unfolding looking_up insertion deletion is_chip_size is_torn_size has_blocks state_of leaf thin Ins.insert Ins.allowed Ins.inserted Ins.insert_at Ins.gain Ins.fit_or_split Ins.halve Ins.raise T.find Del.delete Del.delete_at Del.settle Del.join Del.take_over
forecast_examples = (refl, refl)

-- and the law is about these lists, for any allowance
fine : (n : ℕ) → Fine (foretold n) s₀ i₀
unfolding insertion deletion is_chip_size is_torn_size has_blocks state_of leaf thin Ins.insert Ins.allowed Ins.inserted Ins.insert_at Ins.gain Ins.fit_or_split Ins.halve Ins.raise T.find Del.delete Del.delete_at Del.settle Del.join Del.take_over
fine n = ((insert_proper 3 30, refl), ((insert_proper 4 40, refl), (tt, (look_up_proper 3, ((delete_proper 9, refl), (tt, (tt, tt)))))))

abbrev forecast_step_lem : Step sample
forecast_step_lem = step_of (next forecast) (leaves before s₀ i₀) (leaves_image before s₀ i₀)

abbrev steps : List (Step sample)
steps = steps_of between forecast_step_lem.state forecast_step_lem.image

abbrev commit_step_lem : ℕ → Step sample
commit_step_lem n = step_of (next (commit n (torn 90))) (leaves between forecast_step_lem.state forecast_step_lem.image) (leaves_image between forecast_step_lem.state forecast_step_lem.image)

still : AllStill sample steps
unfolding looking_up insertion deletion is_chip_size is_torn_size has_blocks state_of leaf thin Ins.insert Ins.allowed Ins.inserted Ins.insert_at Ins.gain Ins.fit_or_split Ins.halve Ins.raise T.find Del.delete Del.delete_at Del.settle Del.join Del.take_over
still =
    let look = step_of (next (look_up 3)) forecast_step_lem.state forecast_step_lem.image in
    let remove = step_of (next (delete 9)) look.state look.image in (
      read_still sample look (allowed (look_up 3) look.given look.lent (look_up_proper 3)) refl,
      (refused_still sample remove 4 (allowed (delete 9) remove.given remove.lent (delete_proper 9, refl)) refl refl (λ e. omega arith), tt),
    )

-- the commit passes its first tests, whatever its allowance
ready : ((commit_step_lem 0).given.nand ≡ Small) × ((commit_step_lem 0).given.on ≡ true) × ((commit_step_lem 0).given.blocks ≡ 3) × ((commit_step_lem 0).lent.size ≡ image)
unfolding looking_up insertion deletion is_chip_size is_torn_size has_blocks state_of leaf thin Ins.insert Ins.allowed Ins.inserted Ins.insert_at Ins.gain Ins.fit_or_split Ins.halve Ins.raise T.find Del.delete Del.delete_at Del.settle Del.join Del.take_over
ready = (refl, refl, refl, refl)

passes_by : (m : Nand) (on : Bool) (B size n : ℕ) → m ≡ Small → on ≡ true → B ≡ 3 → size ≡ image → first_refusal m on B (commits n size page) ≡ 0
unfolding is_chip_size is_torn_size has_blocks
passes_by m on B size n a b c d = rw (a, b, c, d)

pub sample_foresees : (n : ℕ) → Foresees forecast_step_lem.answer forecast_step_lem.ops n (commit_step_lem n).answer (commit_step_lem n).ops
unfolding looking_up insertion deletion is_chip_size is_torn_size has_blocks state_of leaf thin Ins.insert Ins.allowed Ins.inserted Ins.insert_at Ins.gain Ins.fit_or_split Ins.halve Ins.raise T.find Del.delete Del.delete_at Del.settle Del.join Del.take_over
sample_foresees n =
    forecast_holds sample (Only sample s₀) i₀ (steps_of before s₀ i₀) steps (step_of (next forecast) (commit_step_lem n).state (commit_step_lem n).image ∷ []) forecast_step_lem (commit_step_lem n)
    (runs (foretold n) (Only sample s₀) s₀ i₀ refl (fine n)) refl still n (torn 90) refl refl (λ e. accepted_not 1 e)
    (λ e. (allowed (commit n (torn 90)) (commit_step_lem n).given (commit_step_lem n).lent tt).first.not1
    (passes_by (commit_step_lem n).given.nand (commit_step_lem n).given.on (commit_step_lem n).given.blocks (commit_step_lem n).lent.size n ready.0 ready.1 ready.2 ready.3) e)
