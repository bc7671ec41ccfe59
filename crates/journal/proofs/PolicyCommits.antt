-- All laws of a commit hold of the policy, and its next plan erases no block that a commit erased. Assumes nothing.
use mathlib.Core.Path.{◌≡◌, refl, sym, ap, ◌∙◌, subst}
use mathlib.Core.Logic.{◌⊎◌, inl, inr}
use mathlib.Core.List.{List, []}
use Prim.Native.Nat.{ℕ, suc, ◌+◌, ◌*◌, ◌≤◌, ◌<◌}
use native.Mathlib.Omega.{arith}
use lib.ListN.{length}
use Rattle.lists.specs.Lists.{All, none, tab}
use Rattle.lists.proofs.Sets.{Mem, mem_all, mem_at}
use Rattle.chip.specs.Geometry.{Geometry}
use Rattle.chip.specs.Page.{Page}
use Rattle.chip.specs.Erases.{erases_in}
use Rattle.pages.specs.declared.unit.Unit as U
use Rattle.pages.specs.Steps.{live_from}
use Rattle.views.specs.Table.{Node}
use Rattle.journal.specs.Plan.{Plan, news_of, node_at, ops_of, spare_blocks, stuck}
use Rattle.journal.specs.Admissible.{Assignment, contents_of}
use Rattle.journal.specs.Policy.{Decision, decide, plan_of, follow, nothing, plan_by}
use Rattle.journal.proofs.PlanBlocks.{Room}
use Rattle.journal.proofs.AdmissibleLaws.{Safe, image_after, node_after, safe}
use Rattle.journal.proofs.AssignedChoice.{Chip, Committable}
use Rattle.journal.proofs.EraseLaws.{commit_erases, erased_others}
use Rattle.journal.proofs.PolicyLaws.{Decided, by_plan, decided, no_plan, room_plan}

-- ---- the plan that the policy decides on, if it does
module _ {g : Geometry} {limit B : ℕ} {torn : List ℕ} (ch : Chip g limit B torn) {ps : List Page} {tb : List Node} {G : ℕ} {us : List U.Unit}
    (rd : Committable g limit B ps tb G us) where
  abbrev T : ℕ → Node
  T = node_at tb

  abbrev h : ℕ
  h = spare_blocks g B

  decided_by : (d : Decision) → Decided ch rd d → (q : Plan) → q ≡ plan_by g limit B ps tb G (contents_of T us) d → 0 < length us → (q ≡ stuck) ⊎ Safe g limit B h torn ps tb G us q
  decided_by d (no_plan e) q i pending = inl (i ∙ ap (plan_by g limit B ps tb G (contents_of T us)) e)
  decided_by d (by_plan A e a) q i pending =
      inr (subst (Safe g limit B h torn ps tb G us) (sym (i ∙ ap (plan_by g limit B ps tb G (contents_of T us)) e)) (safe g limit B torn ch ps tb G us rd pending A a))

  not_both : (A : Assignment) (d : Decision) → d ≡ follow A → d ≡ nothing → ⊥
  not_both A d e f = let y : ◌≡◌ {A = ℕ} 0 1 = cc in omega arith

  room_by : (d : Decision) → Decided ch rd d → (A : Assignment) → d ≡ follow A → 0 < length us → Safe g limit B h torn ps tb G us (plan_by g limit B ps tb G (contents_of T us) d)
  room_by d (no_plan f) A e pending = absurd (not_both A d e f)
  room_by d (by_plan C e a) A f pending =
      subst (Safe g limit B h torn ps tb G us) (sym (ap (plan_by g limit B ps tb G (contents_of T us)) e)) (safe g limit B torn ch ps tb G us rd pending C a)

-- ---- the laws of a commit, of the plan that the policy decides on
module _ (g : Geometry) (limit B : ℕ) (torn : List ℕ) (ch : Chip g limit B torn)
    (ps : List Page) (tb : List Node) (G : ℕ) (us : List U.Unit) (rd : Committable g limit B ps tb G us)
    (pending : 0 < length us) (wide : 2 * spare_blocks g B + 1 ≤ B) where
  -- any chip: nothing is done, or all is well
  pub foreign : (plan_of g limit B ps tb G us ≡ stuck) ⊎ Safe g limit B (spare_blocks g B) torn ps tb G us (plan_of g limit B ps tb G us)
  foreign = decided_by ch rd (decide g limit B ps tb G (contents_of (node_at tb) us)) (decided ch rd wide) (plan_of g limit B ps tb G us) refl pending

  -- with room: all is well
  pub committed : Room g B (spare_blocks g B) tb G (live_from g 0 ps) → Safe g limit B (spare_blocks g B) torn ps tb G us (plan_of g limit B ps tb G us)
  committed room =
      let p = room_plan ch rd room in
      room_by ch rd (decide g limit B ps tb G (contents_of (node_at tb) us)) (decided ch rd wide) p.0 p.1 pending

-- after a finished commit of any safe plan, the policy's next plan erases no block that it erased
pub rests_next : (g : Geometry) (limit B h : ℕ) (torn : List ℕ) (ps : List Page) (tb : List Node) (G : ℕ) (us : List U.Unit) (q : Plan)
    → Safe g limit B h torn ps tb G us q → (n : ℕ) → length (ops_of g G q) ≤ n → (vs : List U.Unit)
    → (b : ℕ) → 0 < erases_in b (ops_of g G q)
    → erases_in b (ops_of g (suc G) (plan_of g limit B (image_after g torn ps G q n) (tab 0 limit (node_after g limit ps G q)) (suc G) vs)) ≡ 0
rests_next g limit B h torn ps tb G us q s n l vs b e =
    commit_erases b next.erased (news_of g (suc G) next)
    ∙ erased_others b q.erased next.erased (go (decide g limit B qs qt (suc G) (contents_of (node_at qt) vs))) (omega (arith, commit_erases b q.erased (news_of g G q)))
  where
    qs : List Page
    qs = image_after g torn ps G q n

    qt : List Node
    qt = tab 0 limit (node_after g limit ps G q)

    next : Plan
    next = plan_of g limit B qs qt (suc G) vs

    go : (d : Decision) → All (λ b. Mem b (plan_by g limit B qs qt (suc G) (contents_of (node_at qt) vs) d).erased → ⊥) q.erased
    go nothing = mem_all q.erased (λ b m k. let z : Mem b [] = k in mem_at {P = λ x. ⊥} z none)
    go (follow A) = s.rests n l (contents_of (node_at qt) vs) A
