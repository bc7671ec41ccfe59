-- How a call that writes ends, by whether power is gone. Assumes nothing.
use mathlib.Core.Path.{◌≡◌, sym, ap, ◌∙◌}
use mathlib.Core.Bool.{Bool, true, false, cond}
use mathlib.Core.List.{List}
use Prim.Native.Nat.{ℕ}
use Rattle.lists.proofs.Tests.{cases}
use Rattle.chip.specs.declared.progress.Progress.{Progress}
use Rattle.chip.specs.Power.{is_gone}
use Rattle.store.specs.declared.answer.Refusal.TheVariants.{Cut}
use Rattle.store.specs.declared.state.State.{State}
use Rattle.store.specs.declared.state.Wrote.{Wrote}
use Rattle.store.specs.EndingCode.{refused_with, accepted_with, ended_with}

-- a state, and what a call gives back, with these free numbers
abbrev freed : State → List ℕ → State
freed s free = record { on = s.on; nand = s.nand; blocks = s.blocks; commit = s.commit; pending = s.pending; free = free; count = s.count; buffer = s.buffer; lens = s.lens; slots = s.slots; erases = s.erases }

abbrev wrote_freed : Wrote → List ℕ → Wrote
wrote_freed w free = record { answer = w.answer; ops = w.ops; state = freed w.state free }

module _ (reached : Progress) (s m : State) where
  abbrev by : Bool → Wrote
  by c = cond c (refused_with Cut reached.done s) (accepted_with reached.done m)

  -- what the code tells
  module _ (gone : Bool) (is : gone ≡ is_gone reached.left) where
    pub ended_cut : gone ≡ true → refused_with Cut reached.done s ≡ ended_with reached s m
    ended_cut t = ap by (sym t ∙ is)

    pub ended_done : gone ≡ false → accepted_with reached.done m ≡ ended_with reached s m
    ended_done t = ap by (sym t ∙ is)

  -- what holds of both ends holds of the end
  pub either_end : (P : Wrote → Type 0) → (is_gone reached.left ≡ true → P (refused_with Cut reached.done s))
      → (is_gone reached.left ≡ false → P (accepted_with reached.done m)) → (r : Wrote) → r ≡ ended_with reached s m → P r
  either_end P cut all r e =
      cases (is_gone reached.left)
      (λ t. let q : r ≡ refused_with Cut reached.done s = e ∙ ap by t in rw q (cut t))
      (λ t. let q : r ≡ accepted_with reached.done m = e ∙ ap by t in rw q (all t))

  -- ---- the free numbers of a state that both ends have
  pub ended_kept : (r : Wrote) → r ≡ ended_with reached s m → (free : List ℕ) → s.free ≡ free → m.free ≡ free → r.state.free ≡ free
  ended_kept r e free a b = either_end (λ (w : Wrote). w.state.free ≡ free) (λ t. a) (λ t. b) r e

  -- with other free numbers in all three
  pub ended_free : (r : Wrote) → r ≡ ended_with reached s m → (free : List ℕ) → wrote_freed r free ≡ ended_with reached (freed s free) (freed m free)
  ended_free r e free =
      either_end (λ (w : Wrote). wrote_freed w free ≡ ended_with reached (freed s free) (freed m free)) (λ t. sym (ap by_freed t)) (λ t. sym (ap by_freed t)) r e
    where
      by_freed : Bool → Wrote
      by_freed c = cond c (refused_with Cut reached.done (freed s free)) (accepted_with reached.done (freed m free))
