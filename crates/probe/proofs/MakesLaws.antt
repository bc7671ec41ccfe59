-- A call that the probe makes, by the contract of the store's call. Assumes nothing.
use mathlib.Core.Path.{◌≡◌, refl, sym, subst}
use mathlib.Core.List.{List, ◌++◌}
use Prim.Native.Nat.{ℕ, min}
use lib.ListN.{length, take, drop}
use lib.Seq.{take_at, drop_at}
use Rattle.std.specs.Prelude.{Option, Some, None}
use Rattle.chip.specs.Geometry.{Nand}
use Rattle.chip.specs.Counts.{total}
use Rattle.std.specs.Prelude.{Result}
use Rattle.chip.specs.declared.progress.Counts.{Counts}
use Rattle.store.specs.declared.answer.Look.{Look}
use Rattle.store.specs.declared.answer.Refusal.{Refusal}
use Rattle.store.specs.declared.state.State.{State}
use Rattle.store.specs.declared.state.Wrote.{Wrote}
use Rattle.store.specs.declared.state.Updated.{Updated}
use Rattle.store.specs.declared.step.Call.TheVariants as S
use Rattle.store.specs.Answers.{answer_of, forecast_answer, look_of, ops_foretold}
use Rattle.store.specs.Ensured.{Formats, Mounts, Rebuilds, Looks, Inserts, Deletes, Commits, Forecasts}
use Rattle.store.proofs.RunsToLaws.{runs_none, runs_one}
use Rattle.frames.specs.declared.line.Line.{Line}
use Rattle.orders.specs.OrderCode.{Orders}
use Rattle.orders.specs.declared.order.Call.{Call}
use Rattle.orders.specs.declared.order.Call.TheVariants.{Format, Insert, Delete, LookUp, Commit, Mount, Rebuild, Report, Show, Forecast}
use Rattle.orders.specs.declared.order.Setting.{Setting}
use Rattle.orders.specs.declared.order.Order.{Order}
use Rattle.orders.specs.declared.order.Order.TheVariants.{Calls, Sets}
use Rattle.probe.specs.declared.bed.Bed.{Bed}
use Rattle.probe.specs.Makes.{Makes, Rig, rig, CarriesCall, CarriesOut, CarriesLine}

module _ (nand : Nand) (call : Call) (torn : List ℕ) (s : State) (i : List ℕ) (s' : State) where
  -- of a call that is this one, with the state that it gives back
  by : (k : Call) → call ≡ k → (t : State) → s' ≡ t → (i' : List ℕ) → Makes nand k torn s i t i' → Makes nand call torn s i s' i'
  by k e t q i' h = subst (λ (c : Call). Makes nand c torn s i s' i') (sym e) (subst (λ (u : State). Makes nand k torn s i u i') (sym q) h)

  pub makes_format : (n : ℕ) → call ≡ Format n → (w : Wrote) (i' : List ℕ) → s' ≡ w.state → Formats nand n torn s i w i' → Makes nand call torn s i s' i'
  makes_format n e w i' q h = by (Format n) e w.state q i' (runs_one torn (S.Format nand n) s i (answer_of w.answer) (total w.ops) w.state i' h.says)

  pub makes_mount : (n : ℕ) → call ≡ Mount n → (w : Wrote) (i' : List ℕ) → s' ≡ w.state → Mounts nand n torn s i w i' → Makes nand call torn s i s' i'
  makes_mount n e w i' q h = by (Mount n) e w.state q i' (runs_one torn (S.Mount nand n) s i (answer_of w.answer) (total w.ops) w.state i' h.says)

  pub makes_rebuild : (n : ℕ) → call ≡ Rebuild n → (w : Wrote) (i' : List ℕ) → s' ≡ w.state → Rebuilds nand n torn s i w i' → Makes nand call torn s i s' i'
  makes_rebuild n e w i' q h = by (Rebuild n) e w.state q i' (record { wrote = w; says = h; state = refl })

  pub makes_commit : (n : ℕ) → call ≡ Commit n → (w : Wrote) (i' : List ℕ) → s' ≡ w.state → Commits n torn s i w i' → Makes nand call torn s i s' i'
  makes_commit n e w i' q h = by (Commit n) e w.state q i' (runs_one torn (S.Commit n) s i (answer_of w.answer) (total w.ops) w.state i' h.says)

  pub makes_insert : (k v : ℕ) → call ≡ Insert k v → (u : Updated) → s' ≡ u.state → Inserts k v s i u → Makes nand call torn s i s' i
  makes_insert k v e u q h = by (Insert k v) e u.state q i (runs_one torn (S.Insert k v) s i (answer_of u.answer) 0 u.state i h.says)

  pub makes_delete : (k : ℕ) → call ≡ Delete k → (u : Updated) → s' ≡ u.state → Deletes k s i u → Makes nand call torn s i s' i
  makes_delete k e u q h = by (Delete k) e u.state q i (runs_one torn (S.Delete k) s i (answer_of u.answer) 0 u.state i h.says)

  pub makes_look : (k : ℕ) → call ≡ LookUp k → (l : Result Look Refusal) → s' ≡ s → Looks k s i l → Makes nand call torn s i s' i
  makes_look k e l q h = by (LookUp k) e s q i (runs_one torn (S.LookUp k) s i (look_of l) 0 s i h.says)

  pub makes_forecast : call ≡ Forecast → (f : Result Counts Refusal) → s' ≡ s → Forecasts s i f → Makes nand call torn s i s' i
  makes_forecast e f q h = by Forecast e s q i (runs_one torn S.Forecast s i (answer_of (forecast_answer f)) (total (ops_foretold f)) s i h.says)

  -- a block report and show leave state and image
  pub makes_report : (b : ℕ) → call ≡ Report b → s' ≡ s → Makes nand call torn s i s' i
  makes_report b e q = by (Report b) e s q i (runs_none torn s i)

  pub makes_show : (p : ℕ) → call ≡ Show p → s' ≡ s → Makes nand call torn s i s' i
  makes_show p e q = by (Show p) e s q i (runs_none torn s i)

-- ---- an order carried out
module _ (o : Option Order) (b : Bed) (torn : List ℕ) (s : State) (i : List ℕ) where
  pub carries_none : o ≡ None → CarriesOut o (rig b torn s i) (rig b torn s i)
  carries_none e = subst (λ (p : Option Order). CarriesOut p (rig b torn s i) (rig b torn s i)) (sym e) refl

  pub carries_set : (x : Setting) → o ≡ Some (Sets x) → (b' : Bed) (torn' : List ℕ) (i' : List ℕ) → CarriesOut o (rig b torn s i) (rig b' torn' s i')
  carries_set x e b' torn' i' = subst (λ (p : Option Order). CarriesOut p (rig b torn s i) (rig b' torn' s i')) (sym e) refl

  -- a call on the first m bytes of the image and the first k torn bytes leaves ys of the image lent
  call_carried : (c : Call) (m k : ℕ) → m ≡ min b.image (length i) → k ≡ min b.torn (length torn) → (s' : State) (ys : List ℕ)
      → Makes b.nand c (take k torn) s (take m i) s' ys → length ys ≡ m → CarriesCall c (rig b torn s i) (rig b torn s' (ys ++ drop m i))
  call_carried c m k f g s' ys h l =
      record {
        makes =
            subst (λ (a : ℕ). Makes b.nand c (take (min b.torn (length torn)) torn) s (take a i) s' (take a (ys ++ drop m i))) f
            (subst (λ (a : ℕ). Makes b.nand c (take a torn) s (take m i) s' (take m (ys ++ drop m i))) g
            (subst (λ (zs : List ℕ). Makes b.nand c (take k torn) s (take m i) s' zs) (sym (take_at ys (drop m i) m l)) h));
        behind = subst (λ (a : ℕ). drop a (ys ++ drop m i) ≡ drop a i) f (drop_at ys (drop m i) m l);
        torn = refl;
        bed = refl;
      }

  pub carries_call : (c : Call) → o ≡ Some (Calls c) → (m k : ℕ) → m ≡ min b.image (length i) → k ≡ min b.torn (length torn) → (s' : State) (ys : List ℕ)
      → Makes b.nand c (take k torn) s (take m i) s' ys → length ys ≡ m → CarriesOut o (rig b torn s i) (rig b torn s' (ys ++ drop m i))
  carries_call c e m k f g s' ys h l =
      subst (λ (p : Option Order). CarriesOut p (rig b torn s i) (rig b torn s' (ys ++ drop m i))) (sym e) (call_carried c m k f g s' ys h l)

-- the order of a line
pub carries_line : (l : Line) (o : Option Order) (h k : Rig) → Orders l o → CarriesOut o h k → CarriesLine l h k
unfolding CarriesLine Orders
carries_line l o h k r d bs y = subst (λ (p : Option Order). CarriesOut p h k) (r bs y) d
