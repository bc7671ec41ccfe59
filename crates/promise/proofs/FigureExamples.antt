-- The figures of the sample store after short lists of calls, computed. Assumes nothing.
use mathlib.Core.Path.{◌≡◌, refl}
use mathlib.Core.Bool.{false}
use mathlib.Core.List.{List, [], ◌∷◌, ◌++◌, map}
use Prim.Native.Nat.{ℕ}
use Rattle.chip.specs.declared.geometry.Nand.TheVariants.{Small}
use Rattle.tree.specs.Tree as T
use Rattle.tree.specs.Insert as Ins
use Rattle.tree.specs.Delete as Del
use Rattle.tree.specs.Thick.{thin}
use Rattle.promise.specs.Plain.{insertion, deletion, refuses, accepted, is_chip_size, is_torn_size, has_blocks, leaf}
use Rattle.promise.specs.Calls.{state_of}
use Rattle.promise.specs.Steps.{insert, delete, commit, mount, Only}
use Rattle.promise.specs.Erases.{since_start, whole_erases}
use Rattle.promise.proofs.Promise.{accepted_not}
use Rattle.promise.proofs.Figures.{figures_any}
use Rattle.promise.proofs.Proper.{insert_proper, delete_proper}
use Rattle.promise.proofs.Sample.{sample, SampleState, SampleImage, Order, next, step_of, steps_of, Fine, runs}
use Rattle.promise.proofs.Examples.{torn, sample_answer, s₀, i₀}

-- the state that a list leaves; the figures of its three blocks, and their whole erases since the start
abbrev pub leaves : List Order → SampleState → SampleImage → SampleState
leaves [] s i = s
leaves (x ∷ xs) s i = leaves xs (step_of x s i).state (step_of x s i).image

abbrev pub figures_of : List Order → List ℕ
figures_of xs = map (leaves xs s₀ i₀).erases (0 ∷ 1 ∷ 2 ∷ [])

abbrev pub whole_of : List Order → List ℕ
whole_of xs = map (λ b. whole_erases sample b (since_start sample (steps_of xs s₀ i₀))) (0 ∷ 1 ∷ 2 ∷ [])

-- two commits and a refused call; then a mount and a commit again
abbrev pub twice : List Order
twice = next (insert 7 99) ∷ next (commit 2000 (torn 90)) ∷ next (insert 8 1) ∷ next (commit 2000 (torn 90)) ∷ next (delete 9) ∷ []

abbrev pub again : List Order
again = twice ++ (next (mount Small 255 (torn 90)) ∷ next (insert 9 2) ∷ next (commit 2000 (torn 90)) ∷ [])

-- a commit that is cut after its erase
abbrev pub short : List Order
short = next (insert 7 99) ∷ next (commit 1 (torn 90)) ∷ []

-- the cut commit leaves the store off: its erase was done, and no figure tells it
pub figure_examples :
    (map sample_answer (steps_of again s₀ i₀) ≡ accepted ∷ accepted ∷ accepted ∷ accepted ∷ refuses 4 ∷ accepted ∷ accepted ∷ accepted ∷ [])
    × (figures_of twice ≡ 0 ∷ 1 ∷ 1 ∷ [])
    × (whole_of twice ≡ 0 ∷ 1 ∷ 1 ∷ [])
    × (figures_of again ≡ 1 ∷ 0 ∷ 0 ∷ [])
    × (whole_of again ≡ 1 ∷ 0 ∷ 0 ∷ [])
    × (map sample_answer (steps_of short s₀ i₀) ≡ accepted ∷ refuses 10 ∷ [])
    × ((leaves short s₀ i₀).on ≡ false)
    × (figures_of short ≡ 0 ∷ 0 ∷ 0 ∷ [])
    × (whole_of short ≡ 0 ∷ 1 ∷ 0 ∷ [])
unfolding insertion deletion is_chip_size is_torn_size has_blocks state_of leaf thin Ins.insert Ins.allowed Ins.inserted Ins.insert_at Ins.gain Ins.fit_or_split Ins.halve Ins.raise T.find Del.delete Del.delete_at Del.settle Del.join Del.take_over
figure_examples = (refl, refl, refl, refl, refl, refl, refl, refl, refl)

-- and the law is about this list
again_fine : Fine again s₀ i₀
unfolding insertion deletion is_chip_size is_torn_size has_blocks state_of leaf thin Ins.insert Ins.allowed Ins.inserted Ins.insert_at Ins.gain Ins.fit_or_split Ins.halve Ins.raise T.find Del.delete Del.delete_at Del.settle Del.join Del.take_over
again_fine = ((insert_proper 7 99, refl), (tt, ((insert_proper 8 1, refl), (tt, ((delete_proper 9, refl), (tt, ((insert_proper 9 2, refl), (tt, tt))))))))

pub sample_figures : (b : ℕ) → (leaves again s₀ i₀).erases b ≡ whole_erases sample b (since_start sample (steps_of again s₀ i₀))
unfolding insertion deletion is_chip_size is_torn_size has_blocks state_of leaf thin Ins.insert Ins.allowed Ins.inserted Ins.insert_at Ins.gain Ins.fit_or_split Ins.halve Ins.raise T.find Del.delete Del.delete_at Del.settle Del.join Del.take_over
sample_figures =
    figures_any sample s₀ i₀ (steps_of again s₀ i₀) (refl, refl, refl) (runs again (Only sample s₀) s₀ i₀ refl again_fine) (λ b. refl) (leaves again s₀ i₀)
    (record { returned = refl; known = λ e. absurd (accepted_not 1 e) }) refl
