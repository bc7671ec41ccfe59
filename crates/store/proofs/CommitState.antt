-- The state and the image after a commit, by each of the ways out of the call. Assumes nothing.
use mathlib.Core.Path.{◌≡◌, refl, sym, ap, subst, ◌∙◌}
use mathlib.Core.Logic.{◌⊎◌, inl, inr, ⊎_elim}
use mathlib.Core.Bool.{Bool, true, false, cond, not}
use mathlib.Core.List.{List, [], ◌∷◌, foldl}
use Prim.Native.Nat.{ℕ, suc, ◌+◌, ◌*◌, ◌^◌, ◌≤◌, ◌<◌, min}
use native.Mathlib.Omega.{arith}
use lib.Dec.{ltb, eqb}
use lib.ListN.{length, get_or, length-map}
use borrow.Author.Tests.{le-leb, ltb-true, ltb-false}
use Rattle.lists.specs.Lists.{count}
use Rattle.lists.proofs.Tests.{clash}
use Rattle.chip.specs.declared.power.Power.TheVariants.{Left}
use Rattle.chip.specs.declared.progress.Progress.{Progress}
use Rattle.chip.specs.Geometry.{Geometry, Nand, Fits, geometry_of, page_size}
use Rattle.chip.proofs.Sizes.{nand_fits}
use Rattle.chip.specs.Power.{is_gone, takes_effect}
use Rattle.chip.specs.Counts.{counts_of, nothing, total}
use Rattle.chip.specs.Chip.{Legal, Machine, kind_of, kinds_of, pages_of, run}
use Rattle.chip.specs.Erases.{erases_in, figures_after}
use Rattle.chip.specs.RunCode.{at_start, Ran}
use Rattle.chip.proofs.EraseLaws.{figure_grows}
use Rattle.chip.proofs.CountLaws.{told_sum, wholes_none}
use Rattle.chip.proofs.Runs.{ran_told, run_gone, run_parts}
use Rattle.views.specs.Table.{Node, events, turn}
use Rattle.views.specs.Stored.{Stores}
use Rattle.views.specs.Groups.{Distinct}
use Rattle.journal.specs.Commit.{groups_of}
use Rattle.journal.specs.Plan.{Plan, most_ops, news_of, node_at, ops_of, stuck, is_empty}
use Rattle.journal.proofs.PlanKept.{few_ops}
use Rattle.journal.proofs.EraseLaws.{commit_erases, erased_most}
use Rattle.std.specs.Prelude.{Ok, Err}
use Rattle.promise.specs.Plain.{Answer, refuses, accepted, Call, commits, first_refusal, numbers_refusal}
use Rattle.promise.specs.Plain as Plain
use Rattle.promise.specs.Calls as P
use Rattle.promise.specs.Calls.{FirstTests}
use Rattle.promise.specs.Image.{image_meaning}
use Rattle.promise.specs.Steps.{commit}
use Rattle.promise.proofs.Promise.{first_most}
use Rattle.std.proofs.Common.{Option, None, Some, is_none, is_some}
use Rattle.commits.specs.ExecuteCode.{Executes}
use Rattle.store.specs.Answers as A
use Rattle.store.specs.declared.answer.Refusal.{Refusal}
use Rattle.store.specs.declared.answer.Refusal.TheVariants.{Last, Cut}
use Rattle.store.specs.declared.state.State.{State}
use Rattle.store.specs.declared.state.Wrote.{Wrote}
use Rattle.store.specs.declared.state.Numbers.{Numbers}
use Rattle.store.specs.AdmitCode.{CommitBegins, denied, idle, full, commit_tests, answer_for}
use Rattle.store.specs.Parts.{joined}
use Rattle.store.specs.Answers.{answer_of}
use Rattle.store.specs.EndingCode.{ended_with}
use Rattle.store.specs.FreshCode.{committed_state}
use Rattle.store.specs.State.{turned_off, geometry_in, limit_of, nodes_of, units_of, present_of, Good, Room, plan_at}
use Rattle.store.specs.State as State
use Rattle.store.specs.Ensured.{index, the_ops, told_of, Commits}
use Rattle.store.proofs.EndingLaws.{either_end}
use Rattle.store.proofs.CommitTests.{Past, commits_past}
use Rattle.store.proofs.SizeLaws.{enough_most}
use Rattle.store.proofs.EndedTests.{EndedBy, ended_idle, ended_refused, later_low, not_refused, other}
use Rattle.store.proofs.Settled.{Settled, settled_good, settled_state}
use Rattle.store.proofs.PlanRead.{paged_empty, paged_none, paged_some, plan_is, plan_none, read}
use Rattle.store.proofs.CommitGood.{good_chip, good_few, good_plannable, ops_none, ops_some}
use Rattle.store.proofs.GoodPlan.{Secure, roomy_page, stuck_or_safe}
use Rattle.store.proofs.CommitDone.{Executed, after_meaning, after_room, after_past, after_free, after_rests, after_settled, next_nodes, next_views}

-- of no operations none is told
none_told : (n : ℕ) → nothing ≡ told_of n []
none_told n = ap counts_of (sym (wholes_none (Left n)))

-- a commit whose operations are all done counts
all_done : (t n m : ℕ) → m ≤ n → takes_effect t n m ≡ true
all_done t n m h = rw (le-leb m n h)

module _ (n : ℕ) (torn : List ℕ) (s : State) (i : List ℕ) where
  abbrev g : Geometry
  g = geometry_in s

  fit : Fits g
  fit = nand_fits s.nand

  abbrev call : Call
  call = commits n (length i) (length torn)

  still : P.Same index s i s i
  still = record { state = refl; image = refl }

  -- ---- nothing is begun: what a commit says that its tests end
  not_begun : (a : A.Answer) → EndedBy call s i a → (answer_of a ≡ refuses 10 → ⊥) → Commits n torn s i (record { answer = a; ops = nothing; state = s }) i
  not_begun a d t =
      record {
        says = record {
          first = d.tests;
          range = d.range (10 ∷ []);
          quiet = λ m e t. (refl, still);
          last = d.last;
          idle = λ p q. (d.idle p q, refl, still);
          none = λ h. ap length (ops_none g s i h);
          bound = enough_most s.nand;
          stuck = λ c. absurd (d.never c);
          able = λ c. absurd (d.never c.proceeds);
          few = λ c. absurd (d.never c.proceeds);
          power = λ c. absurd (d.never c);
          choice = λ c. absurd (d.never c.proceeds);
          thick = λ c. c.good.thick;
          room = λ c. absurd (d.never c.proceeds);
          done = λ c. absurd (d.never c.proceeds);
          once = λ c. absurd (d.never c.proceeds);
          adds = λ c. absurd (d.never c.proceeds);
          leaves_free = λ c. absurd (d.never c.proceeds);
          rests = λ c. absurd (d.never c.proceeds);
          cut = λ c. absurd (d.never c.proceeds);
        };
        kinds = λ c. absurd (d.never c);
        bytes = λ c. absurd (d.never c);
        figures = λ c. absurd (d.never c);
        legal = λ c. absurd (d.never c.proceeds);
        once = λ c. absurd (d.never c.proceeds);
        off = λ e. absurd (t e);
        bounds = record { nand = refl; blocks = refl; units = omega arith };
      }

  -- refused by 2, 1 or 6
  commit_refused : (a : A.Answer) → answer_of a ≡ answer_for (commit_tests g s.on s.blocks s.pending s.commit (length i) (length torn))
      → 0 < commit_tests g s.on s.blocks s.pending s.commit (length i) (length torn) → Commits n torn s i (record { answer = a; ops = nothing; state = s }) i
  commit_refused a e h =
      let d = ended_refused call s i (first_most s.nand (commit n torn) (length i) s.on s.blocks) refl a e h in
      not_begun a d.0 d.1

  -- ---- they pass
  module _ (passes : first_refusal s.nand s.on s.blocks call ≡ 0) where
    tests : (a : Answer) (s' : State) (i' : List ℕ) → (a ≡ refuses 1 → ⊥) → (a ≡ refuses 2 → ⊥) → length i' ≡ length i
        → FirstTests index call s i a s' i'
    tests a s' i' h k z = record { refused = λ m e. absurd (omega arith); not1 = λ p. h; not2 = λ p. k; same_size = z }

    -- nothing is pending
    commit_idle : s.pending ≡ 0 → Commits n torn s i (record { answer = Ok tt; ops = nothing; state = s }) i
    commit_idle h = not_begun (Ok tt) (ended_idle call s i refl passes h) (λ e. not_refused 10 e)

    -- ---- with updates pending and a number left, the plan is to do nothing: refused with 6
    module _ (pending : 0 < s.pending) (number : s.commit < 4294967295) (is_stuck : plan_at g s i ≡ stuck) (no_room : Good g s i → Room g i → ⊥) where
      no_plan : {Q : Type 0} → not (is_empty (plan_at g s i).written) ≡ true → Q
      no_plan b = clash b (ap (λ (q : Plan). not (is_empty q.written)) is_stuck)

      no_ops : the_ops g s i ≡ []
      no_ops = ap (ops_of g s.commit) is_stuck

      nothing_done : Commits n torn s i (record { answer = Err Last; ops = nothing; state = s }) i
      nothing_done =
          record {
            says = record {
              first = tests (refuses 6) s i (λ e. other 6 1 (λ u. omega arith) e) (λ e. other 6 2 (λ u. omega arith) e) refl;
              range = refl;
              quiet = λ m e t. (refl, still);
              last = λ p m e. absurd (omega (arith, later_low s.pending s.commit pending number));
              idle = λ p q. absurd (omega arith);
              none = λ q. ap length (ops_none g s i q);
              bound = enough_most s.nand;
              stuck = λ c b. refl;
              able = λ c r. absurd (no_room c.good r);
              few = λ c b. no_plan b;
              power = λ c b. no_plan b;
              choice = λ c b. no_plan b;
              thick = λ c. c.good.thick;
              room = λ c b. no_plan b;
              done = λ c b. no_plan b;
              once = λ c b. no_plan b;
              adds = λ c b. no_plan b;
              leaves_free = λ c b. no_plan b;
              rests = λ c b. no_plan b;
              cut = λ c b. no_plan b;
            };
            kinds = λ c. none_told n ∙ ap (told_of n) (sym no_ops);
            bytes = λ c.
                sym (ap (λ os. (run g torn (record { power = Left n; pages = pages_of g i }) os).pages) no_ops
                ∙ ap (λ (m : Machine). m.pages) (run_parts g torn n (pages_of g i) []));
            figures = λ c a. not_refused 6 (sym a);
            legal = λ c. subst (λ (q : Plan). Legal g (pages_of g i) (ops_of g s.commit q)) (sym is_stuck) tt;
            once = λ c. subst (λ (q : Plan). Distinct (groups_of q.written)) (sym is_stuck) tt;
            off = λ e. other 6 10 (λ u. omega arith) e;
            bounds = record { nand = refl; blocks = refl; units = omega arith };
          }

    -- more units than the buffer holds
    commit_full : 0 < s.pending → s.commit < 4294967295 → 960 < s.count → Commits n torn s i (record { answer = Err Last; ops = nothing; state = s }) i
    commit_full h low many = nothing_done h low (plan_none g s i many) (λ ok r. omega (arith, good_few g s i ok))

    -- ---- the plan is executed
    module _ (pending : 0 < s.pending) (number : s.commit < 4294967295) (size : length torn ≡ page_size g) (fits : s.count ≤ 960) (slots : length s.slots ≡ 1024)
        (figured : length s.erases ≡ 32) (bytes : (j : ℕ) → get_or i j 0 < 256) (i' lens' slots' erases' : List ℕ) (e : Option Progress)
        (low : n < 2 ^ 32) (p : Progress) (from : p ≡ at_start n)
        (begins : Executes g (8 * s.blocks) s.blocks s.lens s.slots s.count s.buffer s.commit torn p i i' s.lens s.slots lens' slots' s.erases erases' e) where
      x : Executes g (8 * s.blocks) s.blocks s.lens s.slots s.count s.buffer s.commit torn (at_start n) i i' s.lens s.slots lens' slots' s.erases erases' e
      x =
          subst (λ (q : Progress). Executes g (8 * s.blocks) s.blocks s.lens s.slots s.count s.buffer s.commit torn q i i' s.lens s.slots lens' slots' s.erases erases' e) from begins

      later_none : numbers_refusal s.pending s.commit call ≡ 0
      later_none = later_low s.pending s.commit pending number

      -- the commit is stuck exactly where its plan has no page
      by_pages : is_none e ≡ is_empty (plan_at g s i).written
      by_pages = x.stuck ∙ sym (ap (λ (q : Plan). is_empty q.written) (plan_is g s i fits) ∙ paged_empty (read g s i))

      -- ---- no room: nothing was done
      pub commit_stuck : e ≡ None → Commits n torn s i (record { answer = Err Last; ops = nothing; state = s }) i'
      commit_stuck st =
          subst (λ (j : List ℕ). Commits n torn s i (record { answer = Err Last; ops = nothing; state = s }) j) (sym (x.still st))
          (nothing_done pending number (plan_is g s i fits ∙ paged_none (read g s i) (sym x.stuck ∙ ap is_none st))
          (λ ok r. clash (sym by_pages ∙ ap is_none st) (roomy_page g fit torn size s i ok bytes pending number r)))

      -- ---- the plan has pages
      module _ (reached : Progress) (st : e ≡ Some reached) where
        read_is : read g s i ≡ plan_at g s i
        read_is = sym (plan_is g s i fits ∙ paged_some (read g s i) (sym x.stuck ∙ ap is_none st))

        -- on any state: the operations of the plan, as far as the power goes
        ran : Ran g torn (the_ops g s i) (at_start n) reached i i'
        ran = subst (λ (q : Plan). Ran g torn (ops_of g s.commit q) (at_start n) reached i i') read_is (x.ran reached st)

        grown : erases' ≡ figures_after (the_ops g s i) s.erases
        grown = x.figures (ap is_some st) ∙ ap (λ (q : Plan). figures_after (ops_of g s.commit q) s.erases) read_is

        by_plan : Good g s i → Executed g (limit_of s) s.commit (nodes_of g s i) (plan_at g s i) torn (at_start n) i i' lens' slots' s.erases erases' reached
        by_plan ok =
            record {
              ran = ran;
              lists = λ k l.
                  subst (λ (q : Plan). Stores lens' slots' k (foldl (turn k) (node_at (nodes_of g s i) k) (events (limit_of s) (news_of g s.commit q))).pages) read_is
                  (x.lists (nodes_of g s i) (units_of s) (good_plannable g s i ok fit bytes slots pending number) refl refl (ap is_some st) k l);
              figures = grown;
            }

        run_is : pages_of g i' ≡ (run g torn (record { power = Left n; pages = pages_of g i }) (the_ops g s i)).pages
        run_is = ap (λ (m : Machine). m.pages) ran.is

        has_plan : not (is_empty (plan_at g s i).written) ≡ true
        has_plan = ap not (sym by_pages ∙ ap is_none st)

        not_stuck : {Q : Type 0} → plan_at g s i ≡ stuck → Q
        not_stuck q = clash has_plan (ap (λ (p : Plan). not (is_empty p.written)) q)

        secure : (ok : Good g s i) → Secure g torn s i
        secure ok = ⊎_elim (λ q. not_stuck q) (λ sf. sf) (stuck_or_safe g fit torn size s i ok bytes pending number)

        need : length (State.commit_ops g s i) ≡ length (the_ops g s i)
        need = ap length (ops_some g s i pending)

        most : Good g s i → length (State.commit_ops g s i) ≤ most_ops g
        most ok = rw need (few_ops g fit s.blocks (length (the_ops g s i)) (good_chip g s i ok).most (secure ok).few)

        gone : is_gone reached.left ≡ ltb n (length (the_ops g s i))
        gone = ap (λ (m : Machine). is_gone m.power) ran.is ∙ run_gone g torn n (pages_of g i) (the_ops g s i)

        kinds_are : reached.done ≡ told_of n (the_ops g s i)
        kinds_are = ran_told g torn n (the_ops g s i) reached i i' low ran

        told : total reached.done ≡ min n (length (the_ops g s i))
        told = ap total kinds_are ∙ told_sum n (kinds_of (the_ops g s i)) ∙ ap (min n) (length-map (the_ops g s i) kind_of)

        chosen : (ok : Good g s i)
            → image_meaning g i' ≡ cond (takes_effect (get_or torn 0 0) n (length (the_ops g s i))) (P.means (present_of g s i) (suc s.commit)) (image_meaning g i)
        chosen ok = after_meaning g n torn s i i' lens' slots' erases' reached ok (by_plan ok) (secure ok)

        chosen_count : (ok : Good g s i)
            → image_meaning g i' ≡ cond (takes_effect (get_or torn 0 0) n (length (State.commit_ops g s i))) (P.means (present_of g s i) (suc s.commit)) (image_meaning g i)
        chosen_count ok = rw need (chosen ok)

        room_after : (ok : Good g s i) → Room g i → Room g i'
        room_after ok r = after_room g n torn s i i' lens' slots' erases' reached ok (by_plan ok) (secure ok) r

        -- ---- the erases: of each block at most one
        erases_are : (b : ℕ) → erases_in b (State.commit_ops g s i) ≡ count (eqb b) (plan_at g s i).erased
        erases_are b = ap (erases_in b) (ops_some g s i pending) ∙ commit_erases b (plan_at g s i).erased (news_of g s.commit (plan_at g s i))

        once_each : Good g s i → (b : ℕ) → erases_in b (State.commit_ops g s i) ≤ 1
        once_each ok b = omega (arith, erases_are b, erased_most b (plan_at g s i).erased (secure ok).erased_once)

        adds : (ok : Good g s i) (b : ℕ) → get_or s.erases b 0 ≤ s.commit → get_or erases' b 0 ≡ get_or s.erases b 0 + erases_in b (State.commit_ops g s i)
        adds ok b h =
            let o = ap (erases_in b) (ops_some g s i pending) in
            ap (λ (fs : List ℕ). get_or fs b 0) grown
            ∙ figure_grows (the_ops g s i) s.erases b (λ l. after_past g n torn s i i' lens' slots' erases' reached ok (by_plan ok) (secure ok) fit b (omega (arith, (good_chip g s i ok).most, figured))) (omega (arith, o, once_each ok b)) ∙ omega (arith, o)

        -- one of two, by a test
        either : {M : Type 0} (b : Bool) (m u v : M) → m ≡ cond b u v → (m ≡ v) ⊎ (m ≡ u)
        either true m u v q = inr q
        either false m u v q = inl q

        -- cut
        commit_cut : is_gone reached.left ≡ true → (off : State) → off ≡ turned_off s
            → Commits n torn s i (record { answer = Err Cut; ops = reached.done; state = off }) i'
        commit_cut out off f =
            subst (λ (y : State). Commits n torn s i (record { answer = Err Cut; ops = reached.done; state = y }) i') (sym f)
            (record {
              says = record {
                first = tests (refuses 10) (turned_off s) i' (λ e. other 10 1 (λ u. omega arith) e) (λ e. other 10 2 (λ u. omega arith) e) x.size;
                range = refl;
                quiet = λ m e t. other 10 m (λ u. t (sym u)) e;
                last = λ p m q. absurd (omega (arith, later_none));
                idle = λ p q. absurd (omega arith);
                none = λ q. ap length (ops_none g s i q);
                bound = enough_most s.nand;
                stuck = λ c b. clash has_plan b;
                able = λ c r. has_plan;
                few = λ c b. most c.good;
                power = λ c b.
                    record { enough = λ m. absurd (omega (arith, short, need)); short = λ m. (refl, omega (arith, told, short)) };
                choice = λ c b. chosen_count c.good;
                thick = λ c. c.good.thick;
                room = λ c b r. room_after c.good r;
                done = λ c b k. absurd (omega (arith, short, need));
                once = λ c b. once_each c.good;
                adds = λ c b k. absurd (omega (arith, short, need));
                leaves_free = λ c b k. absurd (omega (arith, short, need));
                rests = λ c b k. absurd (omega (arith, short, need));
                cut = λ c b m. refl;
              };
              kinds = λ c. kinds_are;
              bytes = λ c. run_is;
              figures = λ c a. not_refused 10 (sym a);
              legal = λ c. (secure c.good).legal;
              once = λ c. (secure c.good).once;
              off = λ e. refl;
              bounds = record { nand = refl; blocks = refl; units = omega arith };
            })
          where
            short : n < length (the_ops g s i)
            short = ltb-true n (length (the_ops g s i)) (sym gone ∙ out)

        -- finished
        module _ (left : is_gone reached.left ≡ false) (bytes' : (j : ℕ) → get_or i' j 0 < 256) where
          abbrev after : State
          after = committed_state s lens' slots' erases'

          enough : length (the_ops g s i) ≤ n
          enough = ltb-false n (length (the_ops g s i)) (sym gone ∙ left)

          abbrev nodes : Good g s i → List Node
          nodes ok = next_nodes g n torn s i i' lens' slots' erases' reached ok (by_plan ok)

          settled : (ok : Good g s i) → Settled g after i' (nodes ok)
          settled ok = after_settled g n torn s i i' lens' slots' erases' reached ok (by_plan ok) (secure ok) enough fit bytes'

          means_new : (ok : Good g s i) → image_meaning g i' ≡ P.means (present_of g s i) (suc s.commit)
          means_new ok =
              chosen ok
              ∙ ap (λ (b : Bool). cond b (P.means (present_of g s i) (suc s.commit)) (image_meaning g i))
              (all_done (get_or torn 0 0) n (length (the_ops g s i)) enough)

          state_new : (ok : Good g s i) → P.state_of index after i' ≡ Plain.committed (P.state_of index s i)
          unfolding P.state_of Plain.committed
          state_new ok =
              settled_state after i' (nodes ok) (settled ok)
              ∙ rw (next_views g n torn s i i' lens' slots' erases' reached ok (by_plan ok) (secure ok), let z : s.commit + 1 ≡ suc s.commit = omega arith in z)

          rests_after : Good g s i → (b : ℕ) → 0 < erases_in b (State.commit_ops g s i) → (t : State) → Good (geometry_in t) t i' → t.nand ≡ s.nand
              → erases_in b (State.commit_ops (geometry_in t) t i') ≡ 0
          rests_after ok b h t w q =
              subst (λ (m : Nand). Good (geometry_of m) t i' → erases_in b (State.commit_ops (geometry_of m) t i') ≡ 0) (sym q)
              (after_rests g n torn s i i' lens' slots' erases' reached ok (by_plan ok) (secure ok) enough b (omega (arith, ap (erases_in b) (ops_some g s i pending))) t) w

          commit_done : (new : State) → new ≡ committed_state s lens' slots' erases'
              → Commits n torn s i (record { answer = Ok tt; ops = reached.done; state = new }) i'
          commit_done new f =
              subst (λ (y : State). Commits n torn s i (record { answer = Ok tt; ops = reached.done; state = y }) i') (sym f)
              (record {
                says = record {
                  first = tests accepted after i' (λ e. not_refused 1 e) (λ e. not_refused 2 e) x.size;
                  range = refl;
                  quiet = λ m e t. not_refused m e;
                  last = λ p m q. absurd (omega (arith, later_none));
                  idle = λ p q. absurd (omega arith);
                  none = λ q. ap length (ops_none g s i q);
                  bound = enough_most s.nand;
                  stuck = λ c b. clash has_plan b;
                  able = λ c r. has_plan;
                  few = λ c b. most c.good;
                  power = λ c b.
                      record { enough = λ m. (refl, omega (arith, told, enough, need)); short = λ m. absurd (omega (arith, enough, need)) };
                  choice = λ c b. chosen_count c.good;
                  thick = λ c. c.good.thick;
                  room = λ c b r. room_after c.good r;
                  done = λ c b k. (state_new c.good, settled_good g after i' (nodes c.good) (settled c.good));
                  once = λ c b. once_each c.good;
                  adds = λ c b k. adds c.good;
                  leaves_free = λ c b k. after_free g n torn s i i' lens' slots' erases' reached c.good (by_plan c.good) (secure c.good) enough;
                  rests = λ c b k. rests_after c.good;
                  cut = λ c b m. absurd (omega (arith, enough, need));
                };
                kinds = λ c. kinds_are;
                bytes = λ c. run_is;
                figures = λ c a. grown;
                legal = λ c. (secure c.good).legal;
                once = λ c. (secure c.good).once;
                off = λ e. not_refused 10 e;
                bounds = record { nand = refl; blocks = refl; units = omega arith };
              })

        -- either
        pub commit_ended : ((j : ℕ) → get_or i' j 0 < 256) → (r : Wrote) → r ≡ ended_with reached s (committed_state s lens' slots' erases') → Commits n torn s i r i'
        commit_ended bytes' =
            either_end reached s (committed_state s lens' slots' erases') (λ (r : Wrote). Commits n torn s i r i')
            (λ t. commit_cut t (turned_off s) refl)
            (λ t. commit_done t bytes' (committed_state s lens' slots' erases') refl)

-- ---- a commit that ends before its plan: refused, or with nothing pending
module _ (m : Numbers) (buffer lens slots erases : List ℕ) (n : ℕ) (torn i : List ℕ) (low : m.commit < 4294967296) where
  abbrev s : State
  s = joined m buffer lens slots erases

  past : commit_tests (geometry_of m.nand) m.on m.blocks m.pending m.commit (length i) (length torn) ≡ 0
      → Past (geometry_of m.nand) m.on m.blocks m.pending m.commit (length i) (length torn)
  past e = commits_past (geometry_of m.nand) m.on m.blocks m.pending m.commit (length i) (length torn) low e

  pub commit_denied : (e : Refusal) → CommitBegins m (length i) (length torn) (Err e) → Commits n torn s i (record { answer = Err e; ops = nothing; state = s }) i
  commit_denied e (denied b h q) = commit_refused n torn s i (Err b) q h
  commit_denied e (full q p k) = let w = past q in commit_full n torn s i w.first p (w.number p) k

  pub commit_rests : CommitBegins m (length i) (length torn) (Ok false) → Commits n torn s i (record { answer = Ok tt; ops = nothing; state = s }) i
  commit_rests (idle q p) = commit_idle n torn s i (past q).first p
