-- A list of calls on lent arrays, as firmware makes it: the caller keeps a state in parts and lends them to each call.
use Rattle.std.specs.Prelude.{◌≡◌, false, List, [], ◌∷◌, ℕ}
use Rattle.chip.specs.declared.progress.Counts.{Counts}
use Rattle.chip.specs.Counts.{total}
use Rattle.promise.specs.Steps.{Step, Lends, Hands, boots}
use Rattle.store.specs.declared.state.Numbers.{Numbers}
use Rattle.store.specs.declared.state.State.{State}
use Rattle.store.specs.declared.state.WroteParts.{WroteParts}
use Rattle.store.specs.declared.step.Call.{Call}
use Rattle.store.specs.Answers.{Told, step_answer}
use Rattle.store.specs.Ensured.{index, Commits}
use Rattle.store.specs.Parts.{joined, with_free, wrote_with, wrote_free}
use Rattle.store.specs.Step.{act_of, StepsBy}

-- a commit on lent parts: it leaves the free numbers, and is the same call whatever they are
pub record CommitsLent (allowance : ℕ) (torn : List ℕ) (n : Numbers) (buffer lens slots erases i : List ℕ) (r : WroteParts) (lens' slots' erases' i' : List ℕ) : Type 0 where
  pub kept : r.numbers.free ≡ n.free
  pub says : (free : List ℕ) → Commits allowance torn (joined (with_free n free) buffer lens slots erases) i (wrote_with (wrote_free r free) buffer lens' slots' erases') i'

-- the parts of a state: its numbers, and the arrays lent
pub record Parts : Type 0 where
  pub numbers : Numbers
  pub buffer : List ℕ
  pub lens : List ℕ
  pub slots : List ℕ
  pub erases : List ℕ

-- the state that they make
abbrev pub state_from : Parts → State
state_from p = joined p.numbers p.buffer p.lens p.slots p.erases

-- one call: the parts given and the image lent to it, what it left of that, the answer, the operations told, the parts then; and the one image after the call
pub record LentStep : Type 0 where
  pub call : Call
  pub torn : List ℕ
  pub given : Parts
  pub lent : List ℕ
  pub left : List ℕ
  pub answer : Told
  pub ops : Counts
  pub after : Parts
  pub image : List ℕ

-- what happened meets the contract of the call
abbrev pub Meets : Call → LentStep → Type 0
Meets c x = StepsBy c x.torn (state_from x.given) x.lent (record { answer = x.answer; ops = x.ops; state = state_from x.after }) x.left

-- the same as a step of the promise
abbrev pub lent_step : LentStep → Step index
lent_step x =
    record {
      act = act_of x.call x.torn;
      given = state_from x.given;
      lent = x.lent;
      left = x.left;
      answer = step_answer x.answer;
      ops = total x.ops;
      state = state_from x.after;
      image = x.image;
    }

-- a call from the one image i, where H are the states at hand
pub record TakesLent (H : State → Type 0) (i : List ℕ) (x : LentStep) : Type 0 where
  pub meets : Meets x.call x
  pub lends : Lends index i (lent_step x)
  pub handed : boots (act_of x.call x.torn) ≡ false → H (state_from x.given)

-- each call gets the parts that the last one left, a mount or a format any parts, and nothing else writes parts or image in between
abbrev pub RunsLent : (State → Type 0) → List ℕ → List LentStep → Type 0
RunsLent H i [] = Unit {0}
RunsLent H i (x ∷ xs) = TakesLent H i x × RunsLent (Hands index H (lent_step x)) x.image xs
