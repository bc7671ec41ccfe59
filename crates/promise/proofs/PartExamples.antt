-- The plain store and the sample store on the large part, and lists in which the part changes, computed. Assumes nothing.
use mathlib.Core.Path.{◌≡◌, refl}
use mathlib.Core.Bool.{true, false}
use mathlib.Core.List.{List, [], ◌∷◌, map}
use Prim.Native.Nat.{ℕ}
use lib.ListN.{replicate}
use Rattle.chip.specs.declared.geometry.Nand.TheVariants.{Small, Large}
use Rattle.tree.specs.Tree as T
use Rattle.tree.specs.Insert as Ins
use Rattle.tree.specs.Thick.{thin}
use Rattle.promise.specs.Plain.{formats, inserts, looks_up, commits, mounts, looking_up, insertion, refuses, accepted, finds, is_chip_size, is_torn_size, has_blocks, verdict, leaf, resting, updated, committed, finished, off, cut_off, accepted_answer}
use Rattle.promise.specs.Calls.{state_of}
use Rattle.promise.specs.Steps.{format, insert, look_up, commit, mount, Only, strays, promised, unpromised, mode_for, starts, Formatted, Agrees, AgreesAny}
use Rattle.promise.proofs.Promise.{accepted_not, format_starts}
use Rattle.promise.proofs.Claims.{promise, promise_any}
use Rattle.promise.proofs.Proper.{look_up_proper, insert_proper}
use Rattle.promise.proofs.Sample.{sample, SampleState, SampleImage, act, Order, next, reboot, step_of, steps_of, Fine, runs, allowed}
use Rattle.promise.proofs.Examples.{image, page, call, ten, answers, torn, start, junk, sample_answer, s₀, i₀}

-- the length of an image of 3 blocks of the large part, which is 24 blocks of the small part too; and of a torn slice of the large part
abbrev pub wide : ℕ
wide = 405504

abbrev pub wide_page : ℕ
wide_page = 2112

-- 10 is no answer of the large part to an allowance of 4,000, and is one to 3,999; on the small part it is none to 2,000. A format that names the large
-- part after one that names the small part: what was kept is gone, and torn slices have the size of the new part. 1 for an image of the small part
pub part_examples :
    (answers [] (call (formats Large 4000 wide wide_page) ∷ call (inserts 7 99 wide) ∷ ten (commits 4000 wide wide_page) ∷ call (looks_up 7 wide) ∷ [])
    ≡ accepted ∷ accepted ∷ accepted ∷ finds 99 ∷ [])
    × (answers (false ∷ []) (call (formats Large 4000 wide wide_page) ∷ call (inserts 7 99 wide) ∷ ten (commits 3999 wide wide_page) ∷ call (looks_up 7 wide) ∷ [])
    ≡ accepted ∷ accepted ∷ refuses 10 ∷ refuses 2 ∷ [])
    × (answers [] (ten (formats Large 3999 wide wide_page) ∷ ten (formats Large 4000 wide wide_page) ∷ ten (formats Small 2000 wide page) ∷ []) ≡ refuses 10 ∷ accepted ∷ accepted ∷ [])
    × (answers []
    (call (formats Small 2000 wide page) ∷ call (inserts 7 99 wide) ∷ call (commits 2000 wide page) ∷ call (formats Large 4000 wide wide_page) ∷ call (looks_up 7 wide)
    ∷ call (inserts 8 1 wide) ∷ call (commits 4000 wide page) ∷ call (commits 4000 wide wide_page) ∷ call (mounts Large 255 wide wide_page) ∷ call (looks_up 8 wide) ∷ [])
    ≡ accepted ∷ accepted ∷ accepted ∷ accepted ∷ refuses 4 ∷ accepted ∷ refuses 1 ∷ accepted ∷ accepted ∷ finds 1 ∷ [])
    × (answers [] (call (formats Large 4000 image wide_page) ∷ call (formats Large 4000 wide page) ∷ []) ≡ refuses 1 ∷ refuses 1 ∷ [])
unfolding looking_up insertion is_chip_size is_torn_size has_blocks verdict leaf resting updated committed finished off cut_off accepted_answer Ins.insert Ins.allowed Ins.inserted Ins.insert_at Ins.gain Ins.fit_or_split Ins.halve Ins.raise T.find
part_examples = (refl, refl, refl, refl, refl)

-- ---- the sample store on an image of that length, formatted as the small part
abbrev pub wide_torn : ℕ → List ℕ
wide_torn b = replicate wide_page b

abbrev pub wide_chip : SampleImage
wide_chip = record { tree = []; number = 0; whole = false; void = false; roomy = false; spare = false; size = wide }

abbrev pub w₀ : SampleState
w₀ = (act (format Small 2000 (torn 90)) start wide_chip).state

abbrev pub j₀ : SampleImage
j₀ = (act (format Small 2000 (torn 90)) start wide_chip).image

-- a mount that names the large part strays; one that names the small part doesn't, nor does one that is refused with 1
pub stray_examples :
    (strays sample Small (step_of (next (mount Large 255 (wide_torn 90))) w₀ j₀) ≡ true)
    × (mode_for sample (promised (starts sample Small (leaf 24) 1 j₀)) (step_of (next (mount Large 255 (wide_torn 90))) w₀ j₀) ≡ unpromised)
    × (strays sample Small (step_of (next (mount Small 255 (torn 90))) w₀ j₀) ≡ false)
    × ((step_of (next (mount Large 255 (wide_torn 90))) s₀ i₀).answer ≡ refuses 1)
    × (strays sample Small (step_of (next (mount Large 255 (wide_torn 90))) s₀ i₀) ≡ false)
unfolding is_chip_size is_torn_size resting leaf thin
stray_examples = (refl, refl, refl, refl, refl)

-- a format as the large part, after which a mount that is given a state that no call gave names it
abbrev pub changed : List Order
changed = next (format Large 4000 (wide_torn 90)) ∷ next (insert 7 99) ∷ next (commit 4000 (wide_torn 90)) ∷ reboot junk (mount Large 255 (wide_torn 90)) ∷ next (look_up 7) ∷ []

-- the same after a mount that strays
abbrev pub strayed : List Order
strayed = next (mount Large 255 (wide_torn 90)) ∷ changed

pub changed_examples : map sample_answer (steps_of changed w₀ j₀) ≡ accepted ∷ accepted ∷ accepted ∷ accepted ∷ finds 99 ∷ []
unfolding looking_up insertion is_chip_size is_torn_size has_blocks state_of leaf thin Ins.insert Ins.allowed Ins.inserted Ins.insert_at Ins.gain Ins.fit_or_split Ins.halve Ins.raise T.find
changed_examples = refl

-- and the promise is about these lists
wide_formatted : Formatted sample Small w₀ j₀
unfolding is_chip_size is_torn_size
wide_formatted = record { allowance = 2000; torn = torn 90; before = start; was = wide_chip; ops = 4; says = allowed (format Small 2000 (torn 90)) start wide_chip tt }

changed_fine : Fine changed w₀ j₀
unfolding insertion is_chip_size is_torn_size has_blocks state_of leaf thin Ins.insert Ins.allowed Ins.inserted Ins.insert_at Ins.gain Ins.fit_or_split Ins.halve Ins.raise T.find
changed_fine = (tt, ((insert_proper 7 99, refl), (tt, ((tt, refl, accepted_not 1), (look_up_proper 7, tt)))))

pub changed_agrees : Agrees sample (starts sample Small (leaf 24) 1 j₀) j₀ (steps_of changed w₀ j₀)
unfolding is_chip_size is_torn_size has_blocks state_of insertion Ins.insert Ins.allowed Ins.inserted Ins.insert_at leaf thin Ins.gain Ins.fit_or_split
changed_agrees =
    promise sample Small (leaf 24) 1 w₀ j₀ (steps_of changed w₀ j₀)
    (record {
      started = format_starts sample Small w₀ j₀ wide_formatted;
      runs = runs changed (Only sample w₀) w₀ j₀ refl changed_fine;
      named = (refl, (refl, (refl, (refl, (refl, tt)))));
      uncut = (refl, (refl, (refl, (refl, (refl, tt)))));
    })

strayed_fine : Fine strayed w₀ j₀
unfolding insertion is_chip_size is_torn_size has_blocks state_of leaf thin Ins.insert Ins.allowed Ins.inserted Ins.insert_at Ins.gain Ins.fit_or_split Ins.halve Ins.raise T.find
strayed_fine = (tt, (tt, ((insert_proper 7 99, refl), (tt, ((tt, refl, accepted_not 1), (look_up_proper 7, tt))))))

pub strayed_agrees : AgreesAny sample (promised (starts sample Small (leaf 24) 1 j₀)) j₀ (steps_of strayed w₀ j₀)
unfolding is_chip_size is_torn_size
strayed_agrees =
    promise_any sample Small (leaf 24) 1 w₀ j₀ (steps_of strayed w₀ j₀) (format_starts sample Small w₀ j₀ wide_formatted) (runs strayed (Only sample w₀) w₀ j₀ refl strayed_fine)
