-- Calls made one after the other, on a state by value and the one image, with one torn slice.
use Rattle.std.specs.Prelude.{◌≡◌, List, map, ℕ}
use Rattle.promise.specs.Steps.{Step, Only, Runs, last_hands, last_image}
use Rattle.store.specs.declared.state.State.{State}
use Rattle.store.specs.declared.step.Call.{Call}
use Rattle.store.specs.Ensured.{index}
use Rattle.store.specs.Step.{act_of}

-- these calls, in order, are a list of the promise from the state s and the image i, which ends with the state s' and the image i'
pub record RunsTo (torn : List ℕ) (calls : List Call) (s : State) (i : List ℕ) (s' : State) (i' : List ℕ) : Type 0 where
  pub steps : List (Step index)
  pub acts : map (λ (x : Step index). x.act) steps ≡ map (λ (c : Call). act_of c torn) calls
  pub runs : Runs index (Only index s) i steps
  pub state : last_hands index (Only index s) steps s'
  pub image : last_image index i steps ≡ i'
