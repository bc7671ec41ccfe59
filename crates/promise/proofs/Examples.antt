-- The plain store computed on short lists, that of the bench program first; and the same list on the sample store. Assumes nothing.
use mathlib.Core.Path.{◌≡◌, refl}
use mathlib.Core.Bool.{Bool, true, false}
use mathlib.Core.List.{List, [], ◌∷◌, ◌++◌, map}
use Prim.Native.Nat.{ℕ, zero, suc}
use native.Mathlib.Omega.{arith}
use lib.ListN.{replicate}
use Rattle.chip.specs.declared.geometry.Nand.TheVariants.{Small}
use Rattle.views.specs.Nodes.{Entry, entry, untouched, view}
use Rattle.tree.specs.Tree as T
use Rattle.tree.specs.Insert as Ins
use Rattle.tree.specs.Delete as Del
use Rattle.tree.specs.Thick.{thin}
use Rattle.promise.specs.Plain.{Call, formats, inserts, deletes, looks_up, commits, mounts, looking_up, insertion, deletion, Answer, refuses, accepted, finds, looked_up, Plain, Fed, Compared, plain_run, is_chip_size, is_torn_size, has_blocks, verdict, leaf, resting, updated, committed, finished, off, cut_off, accepted_answer}
use Rattle.promise.specs.Calls.{state_of}
use Rattle.promise.specs.Steps.{format, insert, delete, look_up, commit, mount, Step, Only, starts, Formatted, Agrees}
use Rattle.promise.specs.Promise.{plain_at, Later}
use Rattle.promise.proofs.Promise.{accepted_not, tells_not, format_starts}
use Rattle.promise.proofs.Claims.{promise}
use Rattle.promise.proofs.Trees.{leaf_tree, insert_lawful, delete_lawful}
use Rattle.promise.proofs.Durable.{durable}
use Rattle.promise.proofs.Proper.{look_up_proper, insert_proper, delete_proper}
use Rattle.promise.proofs.Sample.{sample, SampleState, SampleImage, act, Order, next, reboot, step_of, steps_of, Fine, runs, allowed}

-- the length of an image of 3 blocks, and of a torn slice
abbrev pub image : ℕ
image = 50688

abbrev pub page : ℕ
page = 528

-- a call whose answer was not 10, and one whose answer was
abbrev pub call : Call → Fed
call c = record { call = c; ten = false }

abbrev pub ten : Call → Fed
ten c = record { call = c; ten = true }

-- off, before any format
abbrev pub before : Plain
before = record { kept = []; present = []; pending = 0; number = 0; on = false; nand = Small; blocks = 0 }

abbrev pub answer_of : Compared → Answer
answer_of r = r.answer

abbrev pub number_of : Compared → ℕ
number_of r = r.number

abbrev pub answers : List Bool → List Fed → List Answer
answers cs fs = map answer_of (plain_run before cs fs)

-- format; insert (7, 99); look up; a commit that is cut at once; look up; mount; look up
abbrev pub bench : List Fed
bench =
    call (formats Small 2000 image page) ∷ call (inserts 7 99 image) ∷ call (looks_up 7 image) ∷ ten (commits 0 image page) ∷ call (looks_up 7 image)
    ∷ call (mounts Small 255 image page) ∷ call (looks_up 7 image) ∷ []

-- the same with a commit that has power enough
abbrev pub whole : List Fed
whole =
    call (formats Small 2000 image page) ∷ call (inserts 7 99 image) ∷ call (commits 2000 image page) ∷ call (mounts Small 255 image page) ∷ call (looks_up 7 image) ∷ []

-- n inserts, of keys n - 1 down to 0
abbrev pub insertions : ℕ → List Fed
insertions zero = []
insertions (suc n) = call (inserts n n image) ∷ insertions n

-- entries of keys n to n + c - 1
abbrev pub entries : ℕ → ℕ → List Entry
entries n zero = []
entries n (suc c) = entry n n ∷ entries (suc n) c

-- a state on a chip of 3 blocks with one update pending: commit number G, and a full leaf where one of the 24 numbers is left
abbrev pub late : ℕ → Plain
late G =
    let t = view 0 (entries 0 16) ∷ replicate 22 (view 0 []) ++ (untouched ∷ []) in
    record { kept = t; present = t; pending = 1; number = G; on = true; nand = Small; blocks = 3 }

abbrev pub late_answers : ℕ → List Fed → List Answer
late_answers G fs = map answer_of (plain_run (late G) [] fs)

-- the bench program's list, with either choice for its cut commit; the numbers kept; 3 at the 17th update; a mount drops what is pending; 4; 2 before 1;
-- 1 for 2 blocks, for 33 and for a torn slice of 527 bytes; a commit with nothing pending isn't cut; 6 only with updates pending; 5
pub examples :
    (answers (false ∷ []) bench ≡ accepted ∷ accepted ∷ finds 99 ∷ refuses 10 ∷ refuses 2 ∷ accepted ∷ refuses 4 ∷ [])
    × (answers (true ∷ []) bench ≡ accepted ∷ accepted ∷ finds 99 ∷ refuses 10 ∷ refuses 2 ∷ accepted ∷ finds 99 ∷ [])
    × (map number_of (plain_run before (false ∷ []) bench) ≡ 1 ∷ 1 ∷ 1 ∷ 1 ∷ 1 ∷ 1 ∷ 1 ∷ [])
    × (map number_of (plain_run before (true ∷ []) bench) ≡ 1 ∷ 1 ∷ 1 ∷ 2 ∷ 2 ∷ 2 ∷ 2 ∷ [])
    × (answers [] whole ≡ accepted ∷ accepted ∷ accepted ∷ accepted ∷ finds 99 ∷ [])
    × (answers [] (call (formats Small 2000 image page) ∷ insertions 17) ≡ accepted ∷ replicate 16 accepted ++ (refuses 3 ∷ []))
    × (answers [] (call (formats Small 2000 image page) ∷ call (inserts 7 99 image) ∷ call (mounts Small 255 image page) ∷ call (looks_up 7 image) ∷ [])
    ≡ accepted ∷ accepted ∷ accepted ∷ refuses 4 ∷ [])
    × (answers [] (call (formats Small 2000 image page) ∷ call (deletes 7 image) ∷ call (inserts 7 99 image) ∷ call (deletes 7 image) ∷ call (looks_up 7 image) ∷ [])
    ≡ accepted ∷ refuses 4 ∷ accepted ∷ accepted ∷ refuses 4 ∷ [])
    × (answers [] (call (looks_up 7 0) ∷ call (formats Small 2000 image page) ∷ call (looks_up 7 0) ∷ call (looks_up 7 67584) ∷ []) ≡ refuses 2 ∷ accepted ∷ refuses 1 ∷ refuses 1 ∷ [])
    × (answers [] (call (formats Small 2000 33792 page) ∷ call (formats Small 2000 557568 page) ∷ call (mounts Small 255 image 527) ∷ []) ≡ refuses 1 ∷ refuses 1 ∷ refuses 1 ∷ [])
    × (answers [] (call (formats Small 2000 image page) ∷ call (commits 0 image page) ∷ []) ≡ accepted ∷ accepted ∷ [])
    × (late_answers 4294967295 (call (commits 2000 image page) ∷ call (mounts Small 255 image page) ∷ call (commits 2000 image page) ∷ []) ≡ refuses 6 ∷ accepted ∷ accepted ∷ [])
    × (late_answers 9 (call (inserts 16 0 image) ∷ call (inserts 15 0 image) ∷ call (looks_up 15 image) ∷ []) ≡ refuses 5 ∷ accepted ∷ finds 0 ∷ [])
unfolding looking_up insertion deletion is_chip_size is_torn_size has_blocks verdict leaf resting updated committed finished off cut_off accepted_answer Ins.insert Ins.allowed Ins.inserted Ins.insert_at Ins.gain Ins.fit_or_split Ins.halve Ins.raise T.find Del.delete Del.delete_at
examples = (refl, refl, refl, refl, refl, refl, refl, refl, refl, refl, refl, refl, refl)

-- ---- the sample store
abbrev pub torn : ℕ → List ℕ
torn b = replicate page b

abbrev pub chip : SampleImage
chip = record { tree = []; number = 0; whole = false; void = false; roomy = false; spare = false; size = image }

abbrev pub start : SampleState
start = record { on = false; nand = Small; blocks = 0; number = 0; pending = 0; buffer = []; erases = λ b. 0 }

-- a state that no call gave
abbrev pub junk : SampleState
junk = record { on = true; nand = Small; blocks = 3; number = 77; pending = 5; buffer = []; erases = λ b. 9 }

abbrev pub sample_answer : Step sample → Answer
sample_answer x = x.answer

-- a commit that is cut at once
abbrev pub lost : List Order
lost = next (insert 7 99) ∷ next (look_up 7) ∷ next (commit 0 (torn 90)) ∷ next (look_up 7) ∷ next (mount Small 255 (torn 90)) ∷ next (look_up 7) ∷ []

-- a cut commit that counts: its last operation is torn to 0
abbrev pub found : List Order
found = next (insert 7 99) ∷ next (commit 2 (torn 0)) ∷ next (mount Small 255 (torn 90)) ∷ next (look_up 7) ∷ []

-- the battery is pulled with an update pending, and the mount is given a state that no call gave
abbrev pub pulled : List Order
pulled = next (insert 7 99) ∷ next (commit 2000 (torn 90)) ∷ next (insert 8 1) ∷ reboot junk (mount Small 255 (torn 90)) ∷ next (look_up 7) ∷ next (look_up 8) ∷ []

abbrev pub s₀ : SampleState
s₀ = (act (format Small 2000 (torn 90)) start chip).state

abbrev pub i₀ : SampleImage
i₀ = (act (format Small 2000 (torn 90)) start chip).image

pub sample_examples :
    ((act (format Small 2000 (torn 90)) start chip).answer ≡ accepted)
    × (map sample_answer (steps_of lost s₀ i₀) ≡ accepted ∷ finds 99 ∷ refuses 10 ∷ refuses 2 ∷ accepted ∷ refuses 4 ∷ [])
    × (map sample_answer (steps_of found s₀ i₀) ≡ accepted ∷ refuses 10 ∷ accepted ∷ finds 99 ∷ [])
    × (map sample_answer (steps_of pulled s₀ i₀) ≡ accepted ∷ accepted ∷ accepted ∷ accepted ∷ finds 99 ∷ refuses 4 ∷ [])
unfolding looking_up insertion is_chip_size is_torn_size has_blocks state_of leaf thin Ins.insert Ins.allowed Ins.inserted Ins.insert_at Ins.gain Ins.fit_or_split Ins.halve Ins.raise T.find
sample_examples = (refl, refl, refl, refl)

-- and the promise is about these lists
pub formatted : Formatted sample Small s₀ i₀
unfolding is_chip_size is_torn_size
formatted = record { allowance = 2000; torn = torn 90; before = start; was = chip; ops = 4; says = allowed (format Small 2000 (torn 90)) start chip tt }

fine : Fine pulled s₀ i₀
unfolding insertion deletion is_chip_size is_torn_size has_blocks state_of leaf thin Ins.insert Ins.allowed Ins.inserted Ins.insert_at Ins.gain Ins.fit_or_split Ins.halve Ins.raise T.find Del.delete Del.delete_at Del.settle Del.join Del.take_over
fine = ((insert_proper 7 99, refl), (tt, ((insert_proper 8 1, refl), ((tt, refl, accepted_not 1), (look_up_proper 7, (look_up_proper 8, tt))))))

pub sample_agrees : Agrees sample (starts sample Small (leaf 3) 1 i₀) i₀ (steps_of pulled s₀ i₀)
unfolding is_chip_size is_torn_size has_blocks state_of insertion Ins.insert Ins.allowed Ins.inserted Ins.insert_at leaf thin Ins.gain Ins.fit_or_split
sample_agrees =
    promise sample Small (leaf 3) 1 s₀ i₀ (steps_of pulled s₀ i₀)
    (record { started = format_starts sample Small s₀ i₀ formatted; runs = runs pulled (Only sample s₀) s₀ i₀ refl fine; named = (refl, (refl, (refl, (refl, (refl, (refl, tt)))))); uncut = (refl, (refl, (refl, (refl, (refl, (refl, tt)))))) })

-- ---- what a finished commit kept is found after the battery was pulled, whatever was done to the key without a commit
abbrev pub kept : List Order
kept = next (insert 7 99) ∷ next (commit 2000 (torn 90)) ∷ next (insert 7 1) ∷ next (delete 9) ∷ reboot junk (mount Small 255 (torn 90)) ∷ next (look_up 7) ∷ []

kept_fine : Fine kept s₀ i₀
unfolding insertion deletion is_chip_size is_torn_size has_blocks state_of leaf thin Ins.insert Ins.allowed Ins.inserted Ins.insert_at Ins.gain Ins.fit_or_split Ins.halve Ins.raise T.find Del.delete Del.delete_at Del.settle Del.join Del.take_over
kept_fine = ((insert_proper 7 99, refl), (tt, ((insert_proper 7 1, refl), ((delete_proper 9, refl), ((tt, refl, accepted_not 1), (look_up_proper 7, tt))))))

-- the steps
abbrev first : Step sample
first = step_of (next (insert 7 99)) s₀ i₀

abbrev second : Step sample
second = step_of (next (commit 2000 (torn 90))) first.state first.image

abbrev third : Step sample
third = step_of (next (insert 7 1)) second.state second.image

abbrev fourth : Step sample
fourth = step_of (next (delete 9)) third.state third.image

abbrev fifth : Step sample
fifth = step_of (reboot junk (mount Small 255 (torn 90))) fourth.state fourth.image

abbrev sixth : Step sample
sixth = step_of (next (look_up 7)) fifth.state fifth.image

later : Later sample Small (leaf 3) 1 s₀ i₀ (first ∷ []) (third ∷ fourth ∷ fifth ∷ []) [] second sixth 7
unfolding looking_up insertion deletion is_chip_size is_torn_size has_blocks verdict resting updated committed finished accepted_answer state_of leaf thin Ins.insert Ins.allowed Ins.inserted Ins.insert_at Ins.gain Ins.fit_or_split Ins.halve Ins.raise T.find Del.delete Del.delete_at Del.settle Del.join Del.take_over
later =
    record {
      course = record { started = format_starts sample Small s₀ i₀ formatted; runs = runs kept (Only sample s₀) s₀ i₀ refl kept_fine; named = (refl, (refl, (refl, (refl, (refl, (refl, tt)))))); uncut = (refl, (refl, (refl, (refl, (refl, (refl, tt)))))) };
      tree = leaf_tree 0 3 (omega arith) (omega arith);
      lawful = (insert_lawful 7 99 (omega arith), (tt, (insert_lawful 7 1 (omega arith), (delete_lawful 9 (omega arith), (tt, (tt, tt))))));
      unformatted = (refl, (refl, (refl, tt)));
      key = omega arith;
      looks = record { act = refl; lent = λ e. tells_not (99 ∷ []) 1 e };
      on = λ e. tells_not (99 ∷ []) 2 e;
      kept_since = tt;
      pending_since = tt;
    }

finished_answer : second.answer ≡ accepted
unfolding is_chip_size is_torn_size has_blocks state_of insertion Ins.insert Ins.allowed Ins.inserted Ins.insert_at leaf thin Ins.gain Ins.fit_or_split
finished_answer = refl

pub sample_durable : sixth.answer ≡ looked_up (T.find 7 (plain_at sample Small (leaf 3) 1 i₀ (first ∷ [])).present)
sample_durable =
    durable sample Small (leaf 3) 1 s₀ i₀ (first ∷ []) (third ∷ fourth ∷ fifth ∷ []) [] second sixth 7 later
    (record { allowance = 2000; torn = torn 90; act = refl; answer = finished_answer })
