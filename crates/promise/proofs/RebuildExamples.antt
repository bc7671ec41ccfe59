-- Thin trees and rebuilds of the sample store, computed; and the promise about a list from a finished rebuild. Assumes nothing.
use mathlib.Core.Path.{◌≡◌, refl}
use mathlib.Core.Bool.{true, false}
use mathlib.Core.List.{List, [], ◌∷◌, map}
use Prim.Native.Nat.{ℕ}
use lib.ListN.{replicate}
use Rattle.chip.specs.declared.geometry.Nand.TheVariants.{Small}
use Rattle.views.specs.Nodes.{entry, untouched, freed, view}
use Rattle.tree.specs.Tree as T
use Rattle.tree.specs.Insert as Ins
use Rattle.tree.specs.Thick.{thin}
use Rattle.tree.specs.Rebuild.{layers, vacated, rebuild}
use Rattle.promise.specs.Plain.{looking_up, insertion, refuses, accepted, finds, is_chip_size, is_torn_size, has_blocks}
use Rattle.promise.specs.Calls.{means, state_of}
use Rattle.promise.specs.Steps.{insert, look_up, commit, mount, Only, Rebuilt, starts, Agrees}
use Rattle.promise.proofs.Promise.{accepted_not, rebuild_starts}
use Rattle.promise.proofs.Claims.{promise}
use Rattle.promise.proofs.Proper.{look_up_proper, insert_proper}
use Rattle.promise.proofs.Sample.{sample, SampleState, SampleImage, meaning_of, act, Outcome, Order, next, reboot, steps_of, Fine, runs}
use Rattle.promise.proofs.RebuildSample.{rebuilding, rebuild_ok}
use Rattle.promise.proofs.Examples.{image, entries, torn, start, junk, sample_answer}

-- a root of one entry above a leaf of three records, and a freed number
abbrev pub lean : T.Table
lean = view 1 (entry 0 2 ∷ []) ∷ freed ∷ view 0 (entries 5 3) ∷ replicate 21 untouched

-- an image that holds it, with a void page; with room for no commit
abbrev pub lean_image : SampleImage
lean_image = record { tree = lean; number = 9; whole = true; void = true; roomy = false; spare = true; size = image }

-- the same without the blocks that a rebuild needs, and with the last number
abbrev pub tight : SampleImage
tight = record { tree = lean; number = 9; whole = true; void = true; roomy = false; spare = false; size = image }

abbrev pub oldest : SampleImage
oldest = record { tree = lean; number = 4294967295; whole = true; void = true; roomy = false; spare = false; size = image }

-- the same records in one leaf, and the numbers without a node freed
abbrev pub laid : T.Table
laid = view 0 (entries 5 3) ∷ freed ∷ freed ∷ replicate 21 untouched

abbrev pub after : ℕ → Outcome
after n = rebuilding Small n (torn 0) start lean_image

abbrev pub r₀ : SampleState
r₀ = (after 2000).state

abbrev pub k₀ : SampleImage
k₀ = (after 2000).image

-- mount refuses the thin tree with 12; a rebuild finishes with 3 operations, and with 2 it is cut and takes effect, as the last mark is torn to 0; with 1 it does not;
-- 6 before 5; then a mount accepts the new tree
pub rebuild_examples :
    ((act (mount Small 255 (torn 90)) start lean_image).answer ≡ refuses 12)
    × ((act (mount Small 255 (torn 90)) start lean_image).ops ≡ 0)
    × (rebuild lean ≡ laid)
    × ((after 2000).answer ≡ accepted)
    × ((after 2000).ops ≡ 3)
    × (meaning_of k₀ ≡ means laid 10)
    × ((after 2).answer ≡ refuses 10)
    × (meaning_of (after 2).image ≡ means laid 10)
    × (meaning_of (after 1).image ≡ means lean 9)
    × ((rebuilding Small 2000 (torn 90) start tight).answer ≡ refuses 5)
    × ((rebuilding Small 2000 (torn 90) start oldest).answer ≡ refuses 6)
    × ((act (mount Small 255 (torn 90)) start k₀).answer ≡ accepted)
unfolding is_chip_size is_torn_size thin T.records rebuild layers vacated
rebuild_examples = (refl, refl, refl, refl, refl, refl, refl, refl, refl, refl, refl, refl)

-- ---- a list from a finished rebuild
pub rebuilt : Rebuilt sample Small lean 9 r₀ k₀
unfolding is_chip_size is_torn_size thin T.records rebuild layers vacated
rebuilt = record { allowance = 2000; torn = torn 0; before = start; was = lean_image; ops = 3; image = refl; says = rebuild_ok Small 2000 (torn 0) start lean_image }

-- a record of the old tree, an update, a commit, and a mount that is given a state that no call gave
abbrev pub onward : List Order
onward = next (look_up 6) ∷ next (insert 7 99) ∷ next (commit 2000 (torn 90)) ∷ reboot junk (mount Small 255 (torn 90)) ∷ next (look_up 7) ∷ []

pub onward_examples : map sample_answer (steps_of onward r₀ k₀) ≡ finds 6 ∷ accepted ∷ accepted ∷ accepted ∷ finds 99 ∷ []
unfolding looking_up insertion is_chip_size is_torn_size has_blocks state_of thin T.records T.find rebuild layers vacated Ins.insert Ins.allowed Ins.inserted Ins.insert_at Ins.gain Ins.fit_or_split
onward_examples = refl

onward_fine : Fine onward r₀ k₀
unfolding looking_up insertion is_chip_size is_torn_size has_blocks state_of thin T.records T.find rebuild layers vacated Ins.insert Ins.allowed Ins.inserted Ins.insert_at Ins.gain Ins.fit_or_split
onward_fine = (look_up_proper 6, ((insert_proper 7 99, refl), (tt, ((tt, refl, accepted_not 1), (look_up_proper 7, tt)))))

pub onward_agrees : Agrees sample (starts sample Small (rebuild lean) 10 k₀) k₀ (steps_of onward r₀ k₀)
unfolding looking_up insertion is_chip_size is_torn_size has_blocks state_of thin T.records T.find rebuild layers vacated Ins.insert Ins.allowed Ins.inserted Ins.insert_at Ins.gain Ins.fit_or_split
onward_agrees =
    promise sample Small (rebuild lean) 10 r₀ k₀ (steps_of onward r₀ k₀)
    (record {
      started = rebuild_starts sample Small lean 9 r₀ k₀ rebuilt;
      runs = runs onward (Only sample r₀) r₀ k₀ refl onward_fine;
      named = (refl, (refl, (refl, (refl, (refl, tt)))));
      uncut = (refl, (refl, (refl, (refl, (refl, tt)))));
    })
