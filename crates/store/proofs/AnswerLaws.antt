-- The refusal that a `?` passes up, and the number of an answer. Assumes nothing.
use mathlib.Core.Path.{◌≡◌, refl, ap}
use Rattle.std.specs.Prelude.{Result, Ok, Err}
use Rattle.std.specs.Result.{IsErrAnd}
use Rattle.store.specs.declared.answer.Refusal.{Refusal}
use Rattle.store.specs.Answers.{Answer, answer_of, refusal_in, refusal_number}

pub passed_up : {T : Type 0} (r : Result T Refusal) (e : Refusal) → IsErrAnd r (λ (y : Refusal). y ≡ e) → r ≡ Err e
passed_up (Ok x) e h = absurd h
passed_up (Err y) e h = ap Err h

-- the number of an answer is that of what it is in the requirement's numbers
pub number_in : (a : Answer) → refusal_number a ≡ refusal_in (answer_of a)
number_in (Ok u) = refl
number_in (Err e) = refl
