-- The bytes of the input one by one, and their calls. Assumes nothing.
use mathlib.Core.Path.{◌≡◌, sym, ap, subst, ◌∙◌}
use mathlib.Core.List.{List, [], ◌∷◌, ◌++◌}
use Prim.Native.Nat.{ℕ, ◌+◌, ◌<◌}
use native.Mathlib.Numerals.{add-one}
use Rattle.std.specs.Prelude.{Result, Ok, Err, OnErr, Option, Some, None}
use lib.ListN.{length, get_or, take}
use lib.Seq.{take-suc}
use borrow.Author.Tests.{ne_eqb}
use Rattle.lists.proofs.Flats.{flat_append}
use Rattle.chip.specs.Counts.{total}
use Rattle.store.specs.declared.state.State.{State}
use Rattle.store.specs.declared.step.Call.{Call}
use Rattle.store.specs.declared.step.Stepped.{Stepped}
use Rattle.store.specs.Answers.{step_answer}
use Rattle.store.specs.Step.{StepsBy}
use Rattle.store.specs.RunsTo.{RunsTo}
use Rattle.store.proofs.StepLaws.{step_allowed}
use Rattle.store.proofs.RunsToLaws.{runs_none, runs_one, runs_then}
use Rattle.frames.specs.declared.line.Line.{Line}
use Rattle.frames.specs.LineCode.{LineHolds, Longer, Frames}
use Rattle.frames.specs.Lines.{lines_in, line_after}
use Rattle.frames.proofs.LinesLaws.{after_append, lines_append}
use Rattle.bench.specs.Input.{framed_calls, call_in, calls_in, CallsIn, EndsLine, EndsUntold, TakesIn, TakesFirst, TakesSome, TakesPart}

module _ (torn : List ℕ) where
  -- ---- a line that ends
  calls_are : (l : Line) (f : Option Call) (bs : List ℕ) → Frames l f → LineHolds l bs → call_in bs ≡ framed_calls f
  unfolding call_in Frames
  calls_are l f bs h k = ap framed_calls (sym (h bs k))

  pub ends_none : (l : Line) (s : State) (i : List ℕ) → Frames l None → EndsLine torn l s i s i
  unfolding EndsLine
  ends_none l s i h bs k = subst (λ (cs : List Call). RunsTo torn cs s i s i) (sym (calls_are l None bs h k)) (runs_none torn s i)

  pub ends_one : (l : Line) (c : Call) (s : State) (i : List ℕ) (r : Stepped) (i' : List ℕ) → Frames l (Some c) → StepsBy c torn s i r i'
      → EndsLine torn l s i r.state i'
  unfolding EndsLine
  ends_one l c s i r i' h d bs k =
      subst (λ (cs : List Call). RunsTo torn cs s i r.state i') (sym (calls_are l (Some c) bs h k))
      (runs_one torn c s i (step_answer r.answer) (total r.ops) r.state i' (step_allowed c torn s i r i' d))

  -- ---- bytes behind bytes
  pub takes_none : (l : Line) (s : State) (i : List ℕ) → TakesIn torn [] l s i l s i
  unfolding TakesIn
  takes_none l s i begun h = record { line = h; calls = runs_none torn s i }

  calls_of : (bs : List ℕ) (l : Line) (s : State) (i : List ℕ) (l' : Line) (s' : State) (i' : List ℕ) → TakesIn torn bs l s i l' s' i' → CallsIn torn bs l s i s' i'
  unfolding TakesIn CallsIn
  calls_of bs l s i l' s' i' a begun h = (a begun h).calls

  calls_then : (bs cs : List ℕ) (l : Line) (s : State) (i : List ℕ) (k : Line) (t : State) (j : List ℕ) (s' : State) (i' : List ℕ)
      → TakesIn torn bs l s i k t j → CallsIn torn cs k t j s' i' → CallsIn torn (bs ++ cs) l s i s' i'
  unfolding TakesIn CallsIn
  calls_then bs cs l s i k t j s' i' a b begun h =
      let v = a begun h in
      subst (λ (ds : List Call). RunsTo torn ds s i s' i')
      (sym (ap calls_in (lines_append bs cs begun) ∙ flat_append call_in (lines_in begun bs) (lines_in (line_after begun bs) cs)))
      (runs_then torn (calls_in (lines_in begun bs)) (calls_in (lines_in (line_after begun bs) cs)) s i t j s' i' v.calls (b (line_after begun bs) v.line))

  takes_then : (bs cs : List ℕ) (l : Line) (s : State) (i : List ℕ) (k : Line) (t : State) (j : List ℕ) (l' : Line) (s' : State) (i' : List ℕ)
      → TakesIn torn bs l s i k t j → TakesIn torn cs k t j l' s' i' → TakesIn torn (bs ++ cs) l s i l' s' i'
  unfolding TakesIn CallsIn
  takes_then bs cs l s i k t j l' s' i' a b begun h =
      let v = a begun h in
      record {
        line = subst (LineHolds l') (sym (after_append bs cs begun)) (b (line_after begun bs) v.line).line;
        calls = calls_then bs cs l s i k t j s' i' a (calls_of cs k t j l' s' i' b) begun h;
      }

  pub some_none : (l : Line) (s : State) (i : List ℕ) → TakesSome torn l s i l s i
  some_none l s i = record { bytes = []; takes = takes_none l s i }

  pub some_then : (l : Line) (s : State) (i : List ℕ) (k : Line) (t : State) (j : List ℕ) (l' : Line) (s' : State) (i' : List ℕ)
      → TakesSome torn l s i k t j → TakesSome torn k t j l' s' i' → TakesSome torn l s i l' s' i'
  some_then l s i k t j l' s' i' a b =
      record { bytes = a.bytes ++ b.bytes; takes = takes_then a.bytes b.bytes l s i k t j l' s' i' a.takes b.takes }

  -- ---- one byte: a line feed, and another byte
  calls_feed : (l : Line) (s : State) (i : List ℕ) (t : State) (j : List ℕ) (b : ℕ) → b ≡ 10 → EndsLine torn l s i t j → CallsIn torn (b ∷ []) l s i t j
  unfolding CallsIn EndsLine
  calls_feed l s i t j b q a begun h =
      rw q (runs_then torn (call_in begun) [] s i t j t j (a begun h) (runs_none torn t j))

  pub takes_feed : (l : Line) (s : State) (i : List ℕ) (l' : Line) (t : State) (j : List ℕ) (b : ℕ) → b ≡ 10 → LineHolds l' [] → EndsLine torn l s i t j
      → TakesIn torn (b ∷ []) l s i l' t j
  unfolding TakesIn CallsIn
  takes_feed l s i l' t j b q y a begun h = record { line = rw q y; calls = calls_feed l s i t j b q a begun h }

  pub takes_byte : (l : Line) (s : State) (i : List ℕ) (l' : Line) (b : ℕ) → (b ≡ 10 → ⊥) → Longer l b l' → TakesIn torn (b ∷ []) l s i l' s i
  unfolding TakesIn Longer
  takes_byte l s i l' b q y begun h =
      let e = ne_eqb b 10 q in
      record {
        line = rw e (y begun h);
        calls = rw e (runs_none torn s i);
      }

  -- the bytes before index k, and the byte at k
  pub takes_next : (bytes : List ℕ) (l₀ : Line) (s₀ : State) (i₀ : List ℕ) (k : ℕ) (l : Line) (s : State) (i : List ℕ) (l' : Line) (t : State) (j : List ℕ)
      → k < length bytes → TakesIn torn (take k bytes) l₀ s₀ i₀ l s i → TakesIn torn (get_or bytes k 0 ∷ []) l s i l' t j
      → TakesIn torn (take (k + 1) bytes) l₀ s₀ i₀ l' t j
  takes_next bytes l₀ s₀ i₀ k l s i l' t j m a b =
      subst (λ (cs : List ℕ). TakesIn torn cs l₀ s₀ i₀ l' t j) (sym (ap (λ (n : ℕ). take n bytes) (add-one k) ∙ take-suc bytes k 0 m))
      (takes_then (take k bytes) (get_or bytes k 0 ∷ []) l₀ s₀ i₀ l s i l' t j a b)

  -- ---- where a read or a write fails
  -- a line that ended behind the bytes before index k, and was not answered
  pub first_feed : (bytes : List ℕ) (l₀ : Line) (s₀ : State) (i₀ : List ℕ) (k : ℕ) (l : Line) (s : State) (i j : List ℕ)
      → k < length bytes → get_or bytes k 0 ≡ 10 → TakesIn torn (take k bytes) l₀ s₀ i₀ l s i → EndsUntold torn l s i j → TakesFirst torn bytes l₀ s₀ i₀ j
  first_feed bytes l₀ s₀ i₀ k l s i j m q a u =
      record {
        feed = k;
        within = m;
        is = q;
        state = u.state;
        calls =
            subst (λ (cs : List ℕ). CallsIn torn cs l₀ s₀ i₀ u.state j) (sym (ap (λ (n : ℕ). take n bytes) (add-one k) ∙ take-suc bytes k 0 m))
            (calls_then (take k bytes) (get_or bytes k 0 ∷ []) l₀ s₀ i₀ l s i u.state j a (calls_feed l s i u.state j (get_or bytes k 0) q u.ends));
      }

  pub part_none : (l : Line) (s : State) (i : List ℕ) → TakesPart torn l s i i
  part_none l s i = record { bytes = []; state = s; calls = calls_of [] l s i l s i (takes_none l s i) }

  pub part_then : (l : Line) (s : State) (i : List ℕ) (k : Line) (t : State) (j j' : List ℕ) → TakesSome torn l s i k t j → TakesPart torn k t j j' → TakesPart torn l s i j'
  part_then l s i k t j j' a b =
      record { bytes = a.bytes ++ b.bytes; state = b.state; calls = calls_then a.bytes b.bytes l s i k t j b.state j' a.takes b.calls }

-- what holds, holds where there is an error
pub on_err : {T E P : Type 0} (r : Result T E) → P → OnErr r P
on_err (Ok x) p = tt
on_err (Err e) p = p
