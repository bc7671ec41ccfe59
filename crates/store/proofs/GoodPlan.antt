-- The plan of a commit on a good state, with updates pending and a number left: nothing, or safe; and it has a page where there is room. Assumes nothing.
use mathlib.Core.Path.{◌≡◌, sym, ap, subst, ◌∙◌}
use mathlib.Core.Logic.{◌⊎◌}
use mathlib.Core.Bool.{false}
use mathlib.Core.List.{List}
use Prim.Native.Nat.{ℕ, ◌<◌}
use lib.ListN.{length, get_or}
use Rattle.chip.specs.Geometry.{Geometry, Fits, page_size}
use Rattle.chip.specs.Chip.{pages_of}
use Rattle.journal.specs.Plan.{Plan, is_empty, spare_blocks, stuck}
use Rattle.journal.proofs.PlanKept.{chip_of, wide}
use Rattle.journal.proofs.AdmissibleLaws.{Safe}
use Rattle.journal.proofs.PolicyCommits.{committed, foreign}
use Rattle.store.specs.declared.state.State.{State}
use Rattle.store.specs.State.{limit_of, nodes_of, units_of, Good, Room, plan_at}
use Rattle.store.proofs.CommitPlan.{safe_some}
use Rattle.store.proofs.CommitGood.{good_buffer, good_chip, good_ready, good_room, plan_good}

abbrev SafePlan : Geometry → List ℕ → State → List ℕ → Plan → Type 0
SafePlan g torn s i q =
    Safe g (limit_of s) s.blocks (spare_blocks g s.blocks) torn (pages_of g i) (nodes_of g s i) s.commit (units_of s) q

-- all that holds of a commit that carries its plan out
abbrev pub Secure : Geometry → List ℕ → State → List ℕ → Type 0
Secure g torn s i = SafePlan g torn s i (plan_at g s i)

module _ (g : Geometry) (fit : Fits g) (torn : List ℕ) (size : length torn ≡ page_size g) (s : State) (i : List ℕ) (ok : Good g s i) (bytes : (j : ℕ) → get_or i j 0 < 256) (pending : 0 < s.pending)
    (number : s.commit < 4294967295) where
  pub stuck_or_safe : (plan_at g s i ≡ stuck) ⊎ Secure g torn s i
  stuck_or_safe =
      subst (λ (q : Plan). (q ≡ stuck) ⊎ SafePlan g torn s i q) (sym (plan_good g s i ok fit bytes pending number))
      (foreign g (limit_of s) s.blocks torn (chip_of g fit s.blocks torn size) (pages_of g i) (nodes_of g s i) s.commit (units_of s)
      (good_ready g s i ok fit bytes pending number) (good_buffer g s i ok pending).pending (wide g fit s.blocks (good_chip g s i ok).least))

  pub roomy_page : Room g i → is_empty (plan_at g s i).written ≡ false
  roomy_page r =
      let ch = chip_of g fit s.blocks torn size in
      let rd = good_ready g s i ok fit bytes pending number in
      let some = (good_buffer g s i ok pending).pending in
      let w = wide g fit s.blocks (good_chip g s i ok).least in
      ap (λ (q : Plan). is_empty q.written) (plan_good g s i ok fit bytes pending number)
      ∙ safe_some g (limit_of s) s.blocks torn ch (pages_of g i) (nodes_of g s i) s.commit (units_of s) rd some w (spare_blocks g s.blocks)
      (committed g (limit_of s) s.blocks torn ch (pages_of g i) (nodes_of g s i) s.commit (units_of s) rd some w (good_room g s i ok r))
