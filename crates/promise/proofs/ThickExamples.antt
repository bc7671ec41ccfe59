-- The entries of the nodes computed on short lists, with a split, a join and a cut; and the laws of thick trees and of their height about a list of the sample store. Assumes nothing.
use mathlib.Core.Path.{◌≡◌, refl}
use mathlib.Core.Bool.{Bool, true, false}
use mathlib.Core.List.{List, [], ◌∷◌, map}
use Prim.Native.Nat.{ℕ, zero, suc}
use native.Mathlib.Omega.{arith}
use lib.ListN.{length, replicate, take}
use Rattle.chip.specs.declared.geometry.Nand.TheVariants.{Small}
use Rattle.views.specs.Nodes.{View, entry, untouched, view}
use Rattle.tree.specs.Tree as T
use Rattle.tree.specs.Insert as Ins
use Rattle.tree.specs.Delete as Del
use Rattle.tree.specs.Thick.{thin}
use Rattle.promise.specs.Plain.{deletes, commits, mounts, insertion, deletion, UpdateCall, refuses, accepted, Fed, Compared, plain_run, is_chip_size, is_torn_size, has_blocks, verdict, leaf, resting, updated, committed, finished, off, cut_off, accepted_answer}
use Rattle.promise.specs.Calls.{state_of}
use Rattle.promise.specs.Steps.{insert, delete, commit, mount, Only, last_image}
use Rattle.promise.specs.Promise.{plain_at}
use Rattle.promise.specs.Height.{LowPlain}
use Rattle.promise.specs.Thickness.{ThickAt}
use Rattle.promise.proofs.Trees.{insert_keeps_thick, delete_keeps_thick}
use Rattle.promise.proofs.Height.{formatted_low}
use Rattle.promise.proofs.Thickness.{formatted_thick}
use Rattle.promise.proofs.Proper.{insert_proper, delete_proper}
use Rattle.promise.proofs.Sample.{sample, grown, Order, next, steps_of, Fine, runs}
use Rattle.promise.proofs.Examples.{image, page, call, ten, entries, torn, sample_answer, s₀, i₀, formatted}

-- the entries of nodes 0, 1 and 2
abbrev pub sizes : T.Table → List ℕ
sizes t = map (λ (w : View). length (T.entries_of w)) (take 3 t)

-- n inserts of rising keys, the newest first
abbrev pub rising : ℕ → List UpdateCall
rising zero = []
rising (suc n) = insertion n n ∷ rising n

-- the tree after 17 of them
abbrev pub split : T.Table
split = view 1 (entry 0 1 ∷ entry 9 2 ∷ []) ∷ view 0 (entries 0 9) ∷ view 0 (entries 9 8) ∷ replicate 21 untouched

-- two deletes in its first leaf, the second one's commit cut, and a mount
abbrev pub joined : List Fed
joined = call (deletes 0 image) ∷ call (commits 2000 image page) ∷ call (deletes 1 image) ∷ ten (commits 0 image page) ∷ call (mounts Small 255 image page) ∷ []

abbrev pub kept_sizes : List Bool → List (List ℕ)
kept_sizes cs = map (λ (r : Compared). sizes r.kept) (plain_run (resting Small split 2 3) cs joined)

-- a leaf of 8 stays; one of 7 joins its neighbour, and node 0 takes over the leaf that is left. K keeps the one or the other, by the choice
pub thick_examples :
    (grown 3 (rising 17) (leaf 3) ≡ split)
    × (kept_sizes (false ∷ []) ≡ (2 ∷ 9 ∷ 8 ∷ []) ∷ (2 ∷ 8 ∷ 8 ∷ []) ∷ (2 ∷ 8 ∷ 8 ∷ []) ∷ (2 ∷ 8 ∷ 8 ∷ []) ∷ (2 ∷ 8 ∷ 8 ∷ []) ∷ [])
    × (kept_sizes (true ∷ []) ≡ (2 ∷ 9 ∷ 8 ∷ []) ∷ (2 ∷ 8 ∷ 8 ∷ []) ∷ (2 ∷ 8 ∷ 8 ∷ []) ∷ (15 ∷ 0 ∷ 0 ∷ []) ∷ (15 ∷ 0 ∷ 0 ∷ []) ∷ [])
unfolding insertion deletion is_chip_size is_torn_size has_blocks verdict leaf resting updated committed finished off cut_off accepted_answer Ins.insert Ins.allowed Ins.inserted Ins.insert_at Ins.gain Ins.fit_or_split Ins.halve Ins.raise T.find Del.delete Del.delete_at Del.settle Del.join Del.take_over
thick_examples = (refl, refl, refl)

-- ---- the law about a list of the sample store: a cut commit that counts, a mount, a delete
abbrev pub kept : List Order
kept = next (insert 7 99) ∷ next (commit 2 (torn 0)) ∷ next (mount Small 255 (torn 90)) ∷ next (delete 7) ∷ []

kept_fine : Fine kept s₀ i₀
unfolding insertion deletion is_chip_size is_torn_size has_blocks state_of leaf thin Ins.insert Ins.allowed Ins.inserted Ins.insert_at Ins.gain Ins.fit_or_split Ins.halve Ins.raise T.find Del.delete Del.delete_at Del.settle Del.join Del.take_over
kept_fine = ((insert_proper 7 99, refl), (tt, (tt, ((delete_proper 7, refl), tt))))

pub sample_thick :
    (map sample_answer (steps_of kept s₀ i₀) ≡ accepted ∷ refuses 10 ∷ accepted ∷ accepted ∷ [])
    × ThickAt sample 8 (plain_at sample Small (leaf 3) 1 i₀ (steps_of kept s₀ i₀)) (last_image sample i₀ (steps_of kept s₀ i₀))
unfolding insertion deletion is_chip_size is_torn_size has_blocks state_of leaf thin Ins.insert Ins.allowed Ins.inserted Ins.insert_at Ins.gain Ins.fit_or_split T.find Del.delete Del.delete_at Del.settle Del.join Del.take_over
sample_thick = (
  refl,
  formatted_thick sample Small s₀ i₀ (steps_of kept s₀ i₀) [] formatted (runs kept (Only sample s₀) s₀ i₀ refl kept_fine) (refl, (refl, (refl, (refl, tt)))) (refl, (refl, (refl, (refl, tt))))
      (insert_keeps_thick 8 7 99 (omega arith) (omega arith), (tt, (tt, (delete_keeps_thick 8 7 (omega arith) (omega arith), tt)))),
)

-- and of the height, at the same place
pub sample_low : LowPlain (plain_at sample Small (leaf 3) 1 i₀ (steps_of kept s₀ i₀))
unfolding insertion deletion is_chip_size is_torn_size has_blocks state_of leaf thin Ins.insert Ins.allowed Ins.inserted Ins.insert_at Ins.gain Ins.fit_or_split T.find Del.delete Del.delete_at Del.settle Del.join Del.take_over
sample_low =
    formatted_low sample Small s₀ i₀ (steps_of kept s₀ i₀) [] formatted (runs kept (Only sample s₀) s₀ i₀ refl kept_fine) (refl, (refl, (refl, (refl, tt)))) (refl, (refl, (refl, (refl, tt))))
    (insert_keeps_thick 0 7 99 (omega arith) (omega arith), (tt, (tt, (delete_keeps_thick 0 7 (omega arith) (omega arith), tt))))
