-- A state by value as the state that its parts make. Assumes nothing.
use mathlib.Core.Path.{◌≡◌, sym, ap, subst}
use Rattle.store.specs.declared.state.Numbers.{Numbers}
use Rattle.store.specs.declared.state.State.{State}
use Rattle.store.specs.Parts.{joined, numbers_of}

-- what holds of the state that a state's numbers and arrays make, and of what a call gives back, holds of the state
module _ (s : State) (n : Numbers) (e : n ≡ numbers_of s) where
  pub joined_same : joined n s.buffer s.lens s.slots s.erases ≡ s
  joined_same = ap (λ (m : Numbers). joined m s.buffer s.lens s.slots s.erases) e

  pub of_parts : {R : Type 0} (P : State → R → Type 0) (q r : R) → r ≡ q → P (joined n s.buffer s.lens s.slots s.erases) q → P s r
  of_parts {R} P q r w h = subst (P s) (sym w) (subst (λ (t : State). P t q) joined_same h)
