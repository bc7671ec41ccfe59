-- What insert and delete ensure past the refusals 2, 1 and 3.
use Rattle.std.specs.Prelude.{◌≡◌, true, List, ℕ, suc, ◌+◌}
use Rattle.promise.specs.Plain.{UpdateCall, insertion, deletion, refuses, accepted, Plain, updated}
use Rattle.promise.specs.Calls.{accepts_or, state_of}
use Rattle.store.specs.declared.state.State.{State}
use Rattle.store.specs.declared.state.Updated.{Updated}
use Rattle.store.specs.Answers.{answer_of}
use Rattle.store.specs.State.{geometry_in, present_of, Good}
use Rattle.store.specs.Ensured.{index, KeepsBounds}

-- the state after an update: the buffer, its count and the free numbers
abbrev pub with_units : State → List ℕ → ℕ → List ℕ → State
with_units s buffer used free =
    record {
      on = s.on;
      nand = s.nand;
      blocks = s.blocks;
      commit = s.commit;
      pending = s.pending + 1;
      free = free;
      count = used;
      buffer = buffer;
      lens = s.lens;
      slots = s.slots;
      erases = s.erases;
    }

-- the state means p, and is good
pub record Stays (s' : State) (i : List ℕ) (p : Plain) : Type 0 where
  pub is : state_of index s' i ≡ p
  pub good : Good (geometry_in s') s' i

-- refused with a number of its own, and else P by the step of the update; a refusal changes nothing, and no figure is changed
pub record UpdatesIn (u : UpdateCall) (s : State) (i : List ℕ) (r : Updated) : Type 0 where
  pub range : accepts_or u.numbers (answer_of r.answer) ≡ true
  pub still : (n : ℕ) → answer_of r.answer ≡ refuses n → r.state ≡ s
  pub bounds : KeepsBounds s r.state
  pub figures : r.state.erases ≡ s.erases
  pub refused : Good (geometry_in s) s i → (n : ℕ) → u.refusal s.blocks (present_of (geometry_in s) s i) ≡ suc n → answer_of r.answer ≡ refuses (suc n)
  pub done : Good (geometry_in s) s i → u.refusal s.blocks (present_of (geometry_in s) s i) ≡ 0
      → (answer_of r.answer ≡ accepted) × Stays r.state i (updated (u.step s.blocks (present_of (geometry_in s) s i)) (state_of index s i))

abbrev pub InsertsIn : (k v : ℕ) → State → List ℕ → Updated → Type 0
InsertsIn k v = UpdatesIn (insertion k v)

abbrev pub DeletesIn : (k : ℕ) → State → List ℕ → Updated → Type 0
DeletesIn k = UpdatesIn (deletion k)
