-- The erases of the sample store over a list of calls with none cut, and over one with a cut commit, computed. Assumes nothing.
use mathlib.Core.Path.{◌≡◌, refl}
use mathlib.Core.List.{List, [], ◌∷◌, ◌++◌, map}
use Prim.Native.Nat.{ℕ, suc, ◌+◌, ◌*◌, ◌≤◌}
use native.Mathlib.Omega.{arith}
use Rattle.chip.specs.declared.geometry.Nand.TheVariants.{Small}
use Rattle.chip.specs.Erases.{erases_in}
use Rattle.tree.specs.Tree as T
use Rattle.tree.specs.Insert as Ins
use Rattle.tree.specs.Delete as Del
use Rattle.tree.specs.Thick.{thin}
use Rattle.promise.specs.Plain.{cuts, insertion, deletion, refuses, accepted, is_chip_size, is_torn_size, has_blocks, leaf}
use Rattle.promise.specs.Calls.{state_of}
use Rattle.promise.specs.Steps.{insert, delete, commit, mount, Step, Only, feeds}
use Rattle.promise.specs.Erases.{done_by, whole_erases}
use Rattle.promise.specs.Wear.{finished_commits, Unbroken}
use Rattle.promise.proofs.Promise.{accepted_not}
use Rattle.promise.proofs.Wear.{erases_pay, erases_few}
use Rattle.promise.proofs.Proper.{insert_proper, delete_proper}
use Rattle.promise.proofs.Sample.{sample, SampleState, SampleImage, Order, next, reboot, step_of, steps_of, Fine, runs}
use Rattle.promise.proofs.Examples.{torn, junk, sample_answer, s₀, i₀}
use Rattle.promise.proofs.FigureExamples.{leaves}

-- the image that a list leaves
abbrev pub leaves_image : List Order → SampleState → SampleImage → SampleImage
leaves_image [] s i = i
leaves_image (x ∷ xs) s i = leaves_image xs (step_of x s i).state (step_of x s i).image

-- a commit with allowance enough
abbrev commits : Order
commits = next (commit 2000 (torn 90))

-- four commits with an update pending each, and one with none; between them a refused call, and a mount that is given a state that no call gave
abbrev before : List Order
before = next (insert 3 30) ∷ []

abbrev between : List Order
between =
    next (insert 4 40) ∷ commits ∷ next (delete 6) ∷ reboot junk (mount Small 255 (torn 90)) ∷ commits ∷ next (insert 5 50) ∷ commits ∷ next (insert 6 60) ∷ []

abbrev worn : List Order
worn = before ++ (commits ∷ (between ++ (commits ∷ [])))

-- the first and the last commit, which erase the same block
abbrev first_commit : Step sample
first_commit = step_of commits (leaves before s₀ i₀) (leaves_image before s₀ i₀)

abbrev steps : List (Step sample)
steps = steps_of between first_commit.state first_commit.image

abbrev last_commit : Step sample
last_commit = step_of commits (leaves between first_commit.state first_commit.image) (leaves_image between first_commit.state first_commit.image)

pub wear_examples :
    (map sample_answer (steps_of worn s₀ i₀) ≡ accepted ∷ accepted ∷ accepted ∷ accepted ∷ refuses 4 ∷ accepted ∷ accepted ∷ accepted ∷ accepted ∷ accepted ∷ accepted ∷ [])
    × (finished_commits sample (steps_of worn s₀ i₀) ≡ 4)
    × (map (λ b. whole_erases sample b (steps_of worn s₀ i₀)) (0 ∷ 1 ∷ 2 ∷ []) ≡ 1 ∷ 2 ∷ 1 ∷ [])
    × (sample.free Small (leaves_image worn s₀ i₀) ≡ 3)
    × (erases_in 1 (done_by sample first_commit) ≡ 1)
    × (erases_in 1 (done_by sample last_commit) ≡ 1)
    × (finished_commits sample (first_commit ∷ steps) ≡ 3)
unfolding insertion deletion is_chip_size is_torn_size has_blocks state_of leaf thin Ins.insert Ins.allowed Ins.inserted Ins.insert_at Ins.gain Ins.fit_or_split Ins.halve Ins.raise T.find Del.delete Del.delete_at Del.settle Del.join Del.take_over
wear_examples = (refl, refl, refl, refl, refl, refl, refl)

-- and the laws are about this list
worn_fine : Fine worn s₀ i₀
unfolding insertion deletion is_chip_size is_torn_size has_blocks state_of leaf thin Ins.insert Ins.allowed Ins.inserted Ins.insert_at Ins.gain Ins.fit_or_split Ins.halve Ins.raise T.find Del.delete Del.delete_at Del.settle Del.join Del.take_over
worn_fine =
    ((insert_proper 3 30, refl), (tt, ((insert_proper 4 40, refl), (tt, ((delete_proper 6, refl), ((tt, refl, accepted_not 1), (tt, ((insert_proper 5 50, refl), (tt, ((insert_proper 6 60, refl), (tt, tt)))))))))))

unbroken : Unbroken sample s₀ i₀ (steps_of worn s₀ i₀)
unfolding insertion deletion is_chip_size is_torn_size has_blocks state_of leaf thin Ins.insert Ins.allowed Ins.inserted Ins.insert_at Ins.gain Ins.fit_or_split Ins.halve Ins.raise T.find Del.delete Del.delete_at Del.settle Del.join Del.take_over
unbroken =
    record {
      good = (refl, refl, refl);
      runs = runs worn (Only sample s₀) s₀ i₀ refl worn_fine;
      named = (refl, (refl, (refl, (refl, (refl, (refl, (refl, (refl, (refl, (refl, (refl, tt)))))))))));
      uncut = (refl, (refl, (refl, (refl, (refl, (refl, (refl, (refl, (refl, (refl, (refl, tt)))))))))));
      unformatted = (refl, (refl, (refl, (refl, (refl, (refl, (refl, (refl, (refl, (refl, (refl, tt)))))))))));
    }

pub sample_pays : 2 ≤ finished_commits sample (first_commit ∷ steps)
sample_pays =
    let first = wear_examples.4 in
    let last = wear_examples.5 in
    erases_pay sample s₀ i₀ (steps_of before s₀ i₀) steps [] first_commit last_commit unbroken 1 (omega arith) (omega arith)

-- ---- a commit that is cut after its erase, a mount, and a commit that erases the same block again
abbrev cut_worn : List Order
cut_worn = next (insert 3 30) ∷ next (commit 1 (torn 90)) ∷ reboot junk (mount Small 255 (torn 90)) ∷ next (insert 3 30) ∷ commits ∷ []

pub cut_examples :
    (map sample_answer (steps_of cut_worn s₀ i₀) ≡ accepted ∷ refuses 10 ∷ accepted ∷ accepted ∷ accepted ∷ [])
    × (finished_commits sample (steps_of cut_worn s₀ i₀) ≡ 1)
    × (cuts (feeds sample (steps_of cut_worn s₀ i₀)) ≡ 1)
    × (map (λ b. whole_erases sample b (steps_of cut_worn s₀ i₀)) (0 ∷ 1 ∷ 2 ∷ []) ≡ 0 ∷ 2 ∷ 0 ∷ [])
unfolding insertion deletion is_chip_size is_torn_size has_blocks state_of leaf thin Ins.insert Ins.allowed Ins.inserted Ins.insert_at Ins.gain Ins.fit_or_split Ins.halve Ins.raise T.find Del.delete Del.delete_at Del.settle Del.join Del.take_over
cut_examples = (refl, refl, refl, refl)

-- the law is about this list, and says no more than it does: twice 2 is 1 and 1 and twice 1
cut_fine : Fine cut_worn s₀ i₀
unfolding insertion deletion is_chip_size is_torn_size has_blocks state_of leaf thin Ins.insert Ins.allowed Ins.inserted Ins.insert_at Ins.gain Ins.fit_or_split Ins.halve Ins.raise T.find Del.delete Del.delete_at Del.settle Del.join Del.take_over
cut_fine = ((insert_proper 3 30, refl), (tt, ((tt, refl, accepted_not 1), ((insert_proper 3 30, refl), (tt, tt)))))

pub sample_few : (b : ℕ) → 2 * whole_erases sample b (steps_of cut_worn s₀ i₀) ≤ suc (finished_commits sample (steps_of cut_worn s₀ i₀) + 2 * cuts (feeds sample (steps_of cut_worn s₀ i₀)))
unfolding insertion deletion is_chip_size is_torn_size has_blocks state_of leaf thin Ins.insert Ins.allowed Ins.inserted Ins.insert_at Ins.gain Ins.fit_or_split Ins.halve Ins.raise T.find Del.delete Del.delete_at Del.settle Del.join Del.take_over
sample_few =
    erases_few sample s₀ i₀ (steps_of cut_worn s₀ i₀) (refl, refl, refl) (runs cut_worn (Only sample s₀) s₀ i₀ refl cut_fine)
    (refl, (refl, (refl, (refl, (refl, tt))))) (refl, (refl, (refl, (refl, (refl, tt))))) (refl, (refl, (refl, (refl, (refl, tt)))))
