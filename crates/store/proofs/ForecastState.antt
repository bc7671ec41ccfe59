-- What a forecast says, by each of the ways out of the call. Assumes nothing.
use mathlib.Core.Path.{◌≡◌, refl, sym, ap, subst, ◌∙◌}
use mathlib.Core.Bool.{true, not}
use mathlib.Core.List.{List, []}
use Prim.Native.Nat.{ℕ, ◌*◌, ◌≤◌, ◌<◌}
use native.Mathlib.Omega.{arith}
use lib.ListN.{length, get_or, length-map, replicate, length-replicate}
use Rattle.lists.proofs.Tests.{clash}
use Rattle.chip.specs.declared.progress.Counts.{Counts}
use Rattle.chip.specs.Geometry.{Geometry, page_size, geometry_of}
use Rattle.chip.specs.Counts.{counts_of, nothing, total}
use Rattle.chip.specs.Chip.{kind_of, kinds_of, pages_of}
use Rattle.chip.proofs.CountLaws.{total_counts}
use Rattle.journal.specs.Plan.{Plan, is_empty, ops_of, stuck}
use Rattle.chip.proofs.Sizes.{nand_fits}
use Rattle.std.specs.Prelude.{Result, Ok, Err}
use Rattle.promise.specs.Plain.{Answer, refuses, accepted, Call, forecasts, numbers_refusal, or_else, admission, commit_refusal}
use Rattle.promise.specs.Calls as P
use Rattle.promise.specs.Calls.{FirstTests}
use Rattle.promise.specs.Steps.{forecast}
use Rattle.promise.proofs.Promise.{first_most}
use Rattle.promise.proofs.Forecasts.{first_torn}
use Rattle.std.proofs.Common.{Option, None, Some, is_none, false}
use Rattle.commits.specs.ExecuteCode as E
use Rattle.store.specs.declared.answer.Refusal.{Refusal}
use Rattle.store.specs.declared.answer.Refusal.TheVariants.{Last}
use Rattle.store.specs.declared.state.State.{State}
use Rattle.store.specs.declared.state.Numbers.{Numbers}
use Rattle.store.specs.AdmitCode.{CommitBegins, denied, idle, full, commit_tests, answer_for}
use Rattle.store.specs.Parts.{joined}
use Rattle.store.specs.Answers.{answer_of, forecast_answer, ops_foretold}
use Rattle.store.specs.State.{Good, Room, geometry_in, plan_at}
use Rattle.store.specs.Ensured.{index, the_ops, Forecasts}
use Rattle.store.proofs.CommitTests.{Past, commits_past}
use Rattle.store.proofs.EndedTests.{EndedBy, ended_idle, ended_refused, later_low, not_refused, other}
use Rattle.store.proofs.PlanRead.{paged_none, paged_some, plan_is, plan_none, read}
use Rattle.store.proofs.CommitGood.{good_few, ops_some}
use Rattle.store.proofs.GoodPlan.{roomy_page}

module _ (s : State) (i : List ℕ) where
  abbrev g : Geometry
  g = geometry_in s

  abbrev call : Call
  call = forecasts (length i)

  still : P.Same index s i s i
  still = record { state = refl; image = refl }

  -- ---- the tests end it
  not_begun : (r : Result Counts Refusal) → ops_foretold r ≡ nothing → EndedBy call s i (forecast_answer r) → Forecasts s i r
  not_begun r q d =
      record {
        says = record {
          first = d.tests;
          range = d.range [];
          same = still;
          quiet = λ m e. ap total q;
          last = d.last;
          idle = λ p h. (d.idle p h, ap total q);
          stuck = λ c. absurd (d.never c);
          able = λ ok c. absurd (d.never c);
          done = λ c. absurd (d.never c);
        };
        kinds = λ c. absurd (d.never c);
      }

  -- they are those of a commit with a torn slice of the right length
  tests_are : commit_tests g s.on s.blocks s.pending s.commit (length i) (page_size g) ≡ or_else (admission g s.on s.blocks (length i)) (numbers_refusal s.pending s.commit call)
  tests_are = ap (λ (k : ℕ). or_else k (numbers_refusal s.pending s.commit call)) (first_torn s.nand s.on s.blocks 0 (length i) (page_size g) refl)

  forecast_refused : (b : Refusal) → answer_of (Err b) ≡ answer_for (commit_tests g s.on s.blocks s.pending s.commit (length i) (page_size g))
      → 0 < commit_tests g s.on s.blocks s.pending s.commit (length i) (page_size g) → Forecasts s i (Err b)
  forecast_refused b e h =
      not_begun (Err b) refl (ended_refused call s i (first_most s.nand forecast (length i) s.on s.blocks) refl (Err b) (e ∙ ap answer_for tests_are) (subst (λ (k : ℕ). 0 < k) tests_are h)).0

  -- ---- they pass
  module _ (passes : commit_refusal g s.on s.blocks (length i) (page_size g) ≡ 0) where
    first_none : admission g s.on s.blocks (length i) ≡ 0
    first_none = sym (first_torn s.nand s.on s.blocks 0 (length i) (page_size g) refl) ∙ passes

    tests : (a : Answer) → (a ≡ refuses 1 → ⊥) → (a ≡ refuses 2 → ⊥) → FirstTests index call s i a s i
    tests a h k = record { refused = λ m e. absurd (omega (arith, first_none)); not1 = λ p. h; not2 = λ p. k; same_size = refl }

    forecast_idle : s.pending ≡ 0 → Forecasts s i (Ok nothing)
    forecast_idle h = not_begun (Ok nothing) refl (ended_idle call s i refl first_none h)

    module _ (pending : 0 < s.pending) (number : s.commit < 4294967295) where
      later_none : numbers_refusal s.pending s.commit call ≡ 0
      later_none = later_low s.pending s.commit pending number

      -- the plan is to do nothing
      nothing_told : plan_at g s i ≡ stuck → (Good g s i → Room g i → ⊥) → Forecasts s i (Err Last)
      nothing_told q no_room =
          record {
            says = record {
              first = tests (refuses 6) (λ e. other 6 1 (λ u. omega arith) e) (λ e. other 6 2 (λ u. omega arith) e);
              range = refl;
              same = still;
              quiet = λ m e. refl;
              last = λ p m e. absurd (omega (arith, later_none));
              idle = λ p h. absurd (omega arith);
              stuck = λ c b. refl;
              able = λ ok c r. absurd (no_room ok r);
              done = λ c b. clash b (ap (λ (p : Plan). not (is_empty p.written)) q);
            };
            kinds = λ c. sym (ap (λ (p : Plan). counts_of (kinds_of (ops_of g s.commit p))) q);
          }

      forecast_full : 960 < s.count → Forecasts s i (Err Last)
      forecast_full many = nothing_told (plan_none g s i many) (λ ok r. omega (arith, good_few g s i ok))

      -- the plan is read
      module _ (fits : s.count ≤ 960) (bytes : (j : ℕ) → get_or i j 0 < 256) (r : Option Counts)
          (x : E.Costs g (8 * s.blocks) s.blocks s.lens s.slots s.count s.buffer s.commit (pages_of g i) r) where
        pub forecast_stuck : r ≡ None → Forecasts s i (Err Last)
        forecast_stuck st =
            let q = plan_is g s i fits ∙ paged_none (read g s i) (sym x.stuck ∙ ap is_none st) in
            nothing_told q (λ ok w. clash (ap (λ (p : Plan). is_empty p.written) q) (roomy_page g (nand_fits s.nand) (replicate (page_size g) 0) (length-replicate (page_size g) 0) s i ok bytes pending number w))

        pub forecast_done : (ops : Counts) → r ≡ Some ops → Forecasts s i (Ok ops)
        forecast_done ops st =
            let q = plan_is g s i fits ∙ paged_some (read g s i) (sym x.stuck ∙ ap is_none st) in
            let k : ops ≡ counts_of (kinds_of (the_ops g s i)) = x.all ops st ∙ ap (λ (p : Plan). counts_of (kinds_of (ops_of g s.commit p))) (sym q) in
            let able : not (is_empty (plan_at g s i).written) ≡ true = ap not (ap (λ (p : Plan). is_empty p.written) q ∙ sym x.stuck ∙ ap is_none st) in
            let many : total ops ≡ length (index.commit_ops s i) =
            ap total k ∙ total_counts (kinds_of (the_ops g s i)) ∙ length-map (the_ops g s i) kind_of ∙ sym (ap length (ops_some g s i pending)) in
            record {
              says = record {
                first = tests accepted (λ e. not_refused 1 e) (λ e. not_refused 2 e);
                range = refl;
                same = still;
                quiet = λ m e. not_refused m e;
                last = λ p m e. absurd (omega (arith, later_none));
                idle = λ p h. absurd (omega arith);
                stuck = λ c b. clash able b;
                able = λ ok c r. able;
                done = λ c b. (refl, many);
              };
              kinds = λ c. k;
            }

-- ---- a forecast that ends before the plan: refused, or with nothing pending
module _ (m : Numbers) (buffer lens slots erases i : List ℕ) (low : m.commit < 4294967296) where
  abbrev j : State
  j = joined m buffer lens slots erases

  abbrev slice : ℕ
  slice = page_size (geometry_of m.nand)

  past : commit_tests (geometry_of m.nand) m.on m.blocks m.pending m.commit (length i) slice ≡ 0 → Past (geometry_of m.nand) m.on m.blocks m.pending m.commit (length i) slice
  past e = commits_past (geometry_of m.nand) m.on m.blocks m.pending m.commit (length i) slice low e

  pub forecast_denied : (e : Refusal) → CommitBegins m (length i) slice (Err e) → Forecasts j i (Err e)
  forecast_denied e (denied b h q) = forecast_refused j i b q h
  forecast_denied e (full q p k) = let w = past q in forecast_full j i w.first p (w.number p) k

  pub forecast_rests : CommitBegins m (length i) slice (Ok false) → Forecasts j i (Ok nothing)
  forecast_rests (idle q p) = forecast_idle j i (past q).first p
