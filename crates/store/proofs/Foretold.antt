-- What a forecast tells is what a commit then does, on any state and any image: answer, counts, and 10 with less. Assumes nothing.
use mathlib.Core.Path.{◌≡◌, refl, sym, ap, ◌∙◌}
use mathlib.Core.List.{List, [], ◌∷◌}
use Prim.Native.Nat.{ℕ, zero, suc, ◌≤◌}
use native.Mathlib.Omega.{arith}
use lib.Dec.{ltb}
use lib.ListN.{length, length-map}
use borrow.Author.Tests.{ltb-true, ltb-false}
use Rattle.lists.proofs.Tests.{cases, clash}
use Rattle.std.specs.Prelude.{Result}
use Rattle.chip.specs.declared.progress.Counts.{Counts}
use Rattle.chip.specs.Geometry.{page_size}
use Rattle.chip.specs.Counts.{total}
use Rattle.chip.specs.Chip.{kind_of, kinds_of}
use Rattle.chip.proofs.CountLaws.{total_counts, total_nothing}
use Rattle.promise.specs.Plain.{Answer, refuses, accepted, tells, forecasts, first_refusal, numbers_refusal}
use Rattle.promise.specs.Calls as P
use Rattle.promise.specs.Calls.{Proceeding}
use Rattle.promise.specs.Forecasts.{Foresees}
use Rattle.promise.proofs.Forecasts.{commit_proceeds, forecast_now}
use Rattle.store.specs.declared.answer.Refusal.{Refusal}
use Rattle.store.specs.declared.state.State.{State}
use Rattle.store.specs.declared.state.Wrote.{Wrote}
use Rattle.store.specs.Answers.{answer_of, forecast_answer, ops_foretold}
use Rattle.store.specs.State.{geometry_in}
use Rattle.store.specs.Ensured.{index, the_ops, Commits, Forecasts, Foretells}
use Rattle.store.proofs.EndedTests.{not_refused}
use Rattle.store.proofs.KindsTold.{all_told}

module _ (s : State) (i : List ℕ) (r : Result Counts Refusal) (f : Forecasts s i r) (n : ℕ) (torn : List ℕ) (size : length torn ≡ page_size (geometry_in s)) (w : Wrote) (i' : List ℕ) (c : Commits n torn s i w i') where
  seen : Foresees (answer_of (forecast_answer r)) (total (ops_foretold r)) n (answer_of w.answer) (total w.ops)
  seen = forecast_now index s i (answer_of (forecast_answer r)) (total (ops_foretold r)) s i f.says n torn size (answer_of w.answer) (total w.ops) w.state i' c.says

  -- an accepted forecast passed its tests
  passes : answer_of (forecast_answer r) ≡ accepted → (x : ℕ) → first_refusal s.nand s.on s.blocks (forecasts (length i)) ≡ x → first_refusal s.nand s.on s.blocks (forecasts (length i)) ≡ 0
  passes a zero e = e
  passes a (suc x) e = not_refused (suc x) (sym a ∙ (f.says.first.refused x e).0)

  numbers : answer_of (forecast_answer r) ≡ accepted → first_refusal s.nand s.on s.blocks (forecasts (length i)) ≡ 0 → (x : ℕ) → numbers_refusal s.pending s.commit (forecasts (length i)) ≡ x
      → numbers_refusal s.pending s.commit (forecasts (length i)) ≡ 0
  numbers a p zero e = e
  numbers a p (suc x) e = not_refused (suc x) (sym a ∙ f.says.last p x e)

  -- the same counts
  same_counts : answer_of (forecast_answer r) ≡ accepted → total (ops_foretold r) ≤ n → w.ops ≡ ops_foretold r
  same_counts a l =
      let p = passes a _ refl in
      cases (ltb 0 s.pending)
      (λ t. let k : Proceeding index (forecasts (length i)) s = record { passes = p; numbers = numbers a p _ refl; pending = ltb-true 0 s.pending t } in
      let many : total (ops_foretold r) ≡ length (the_ops (geometry_in s) s i) = ap total (f.kinds k) ∙ total_counts (kinds_of (the_ops (geometry_in s) s i)) ∙ length-map (the_ops (geometry_in s) s i) kind_of in
      c.kinds (commit_proceeds index n (length i) (length torn) s size k) ∙ all_told n (the_ops (geometry_in s) s i) (omega (arith, many)) ∙ sym (f.kinds k))
      (λ t. let z = (f.says.idle p (let h = ltb-false 0 s.pending t in omega arith)).1 in
      let y = (seen.enough a l).1 in
      total_nothing w.ops (omega arith) ∙ sym (total_nothing (ops_foretold r) z))

  by_answer : (a : Answer) → answer_of (forecast_answer r) ≡ a → Foretells n r w
  by_answer (refuses k) e =
      let q = f.says.quiet k e in
      let d = seen.refused k e in
      record { enough = λ l. (d.0 ∙ sym e, total_nothing w.ops d.1 ∙ sym (total_nothing (ops_foretold r) q)); short = λ l. absurd (omega arith) }
  by_answer accepted e = record { enough = λ l. ((seen.enough e l).0 ∙ sym e, same_counts e l); short = λ l. seen.short e l }
  by_answer (tells vs) e = clash f.says.range (ap (P.accepts_or (2 ∷ 1 ∷ 6 ∷ [])) e)

  pub foretells : Foretells n r w
  foretells = by_answer (answer_of (forecast_answer r)) refl
