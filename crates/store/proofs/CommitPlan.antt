-- The plan of a commit is stuck or has a page. Assumes nothing.
use mathlib.Core.Path.{◌≡◌, refl, sym, ap, subst, ◌∙◌}
use mathlib.Core.Logic.{◌⊎◌, inl, inr, ⊎_elim}
use mathlib.Core.Bool.{Bool, false}
use mathlib.Core.List.{List, [], ◌∷◌}
use Prim.Native.Nat.{ℕ, suc, ◌+◌, ◌*◌, ◌≤◌, ◌<◌}
use native.Mathlib.Omega.{arith}
use lib.ListN.{length}
use Rattle.lists.specs.Lists.{All, tab}
use Rattle.lists.proofs.Alls.{All-head}
use Rattle.lists.proofs.Tests.{cases}
use Rattle.chip.specs.Geometry.{Geometry}
use Rattle.chip.specs.Page.{Page}
use Rattle.chip.specs.Chip.{Machine}
use Rattle.chip.proofs.Runs.{run_parts}
use Rattle.pages.specs.declared.unit.Unit as U
use Rattle.pages.specs.Units.{Valid}
use Rattle.views.specs.Groups.{own}
use Rattle.views.specs.Table.{Node, fresh, meaning, means}
use Rattle.views.proofs.Meanings.{kept_node, node_in}
use Rattle.journal.specs.Commit.{Sheet}
use Rattle.journal.specs.Plan.{Plan, node_at, spare_blocks, stuck, is_empty}
use Rattle.journal.specs.Admissible.{Admissible, Assigned, Assignment, Target, contents_of, in_page, plan_from, unwritten, written_of}
use Rattle.journal.specs.Policy.{Decision, decide, plan_of, plan_by}
use Rattle.journal.proofs.AssignedChoice.{Chip, Committable}
use Rattle.journal.proofs.PlanNodes.{nil_short, some_own}
use Rattle.journal.proofs.AdmissibleLaws.{Safe, image_after, node_after, admissible_same, plan_same, written_count}
use Rattle.journal.proofs.PolicyLaws.{Decided, by_plan, decided, fits, no_plan}

-- ---- with a unit there is something to write, so a plan that is not stuck has a page
page_some : (ts : List Sheet) → 0 < length ts → is_empty ts ≡ false
page_some [] h = absurd (omega arith)
page_some (t ∷ ts) h = refl

assigned_some : (c : ℕ) (t : Target) → Assigned c t → 0 < c
assigned_some c unwritten x = absurd x
assigned_some c (in_page q) x = omega arith

module _ (g : Geometry) (limit B : ℕ) (torn : List ℕ) (ch : Chip g limit B torn) (ps : List Page) (tb : List Node) (G : ℕ) (us : List U.Unit)
    (rd : Committable g limit B ps tb G us) (pending : 0 < length us) (wide : 2 * spare_blocks g B + 1 ≤ B) where
  -- something is written of a node with buffered units
  written_some : (a : ℕ → Bool) (n : ℕ) → n < limit → (own n us ≡ [] → ⊥) → 0 < length (written_of (contents_of (node_at tb) us) a n)
  written_some a n l h =
      nil_short (written_of (contents_of (node_at tb) us) a n)
      (λ z. cases (a n) (λ t. h ((fits ch rd n l).covers (rw t at z))) (λ t. h (rw t at z)))

  count_some : (A : Assignment) → Admissible g limit B ps tb G (contents_of (node_at tb) us) A → 0 < A.count
  count_some A ad = go us refl
    where
      go : (vs : List U.Unit) → us ≡ vs → 0 < A.count
      go [] e = absurd (omega (arith, ap length e))
      go (v ∷ vs) e =
          let b : v.node < limit = (All-head (subst (All (Valid limit)) e rd.valid)).node in
          let o : own v.node us ≡ [] → ⊥ = λ z. some_own vs v (ap (own v.node) (sym e) ∙ z) in
          assigned_some A.count (A.target v.node) (ad.assigned v.node b (written_some A.is_anew v.node b o))

  from_some : (A : Assignment) → Admissible g limit B ps tb G (contents_of (node_at tb) us) A
      → is_empty (plan_from g limit B ps tb G (contents_of (node_at tb) us) A).written ≡ false
  from_some A ad =
      let e : (n : ℕ) → n < limit → node_at tb n ≡ node_in g limit ps n = λ n l. kept_node g limit ps tb G rd.kept n fresh l in
      let q = plan_from g limit B ps tb G (contents_of (node_at tb) us) A in
      let w = written_count ch rd pending A (admissible_same g limit B ps tb G (node_at tb) (node_in g limit ps) us A e ad) in
      let p : length q.written ≡ length (plan_from g limit B ps tb G (contents_of (node_in g limit ps) us) A).written =
      ap (λ (x : Plan). length x.written) (plan_same g limit B ps tb G (node_at tb) (node_in g limit ps) us A e) in
      page_some q.written (omega (arith, p, w, count_some A ad))

  some_by : (d : Decision) → Decided ch rd d → (q : Plan) → q ≡ plan_by g limit B ps tb G (contents_of (node_at tb) us) d
      → (q ≡ stuck) ⊎ (is_empty q.written ≡ false)
  some_by d (no_plan e) q i = inl (i ∙ ap (plan_by g limit B ps tb G (contents_of (node_at tb) us)) e)
  some_by d (by_plan A e a) q i =
      inr (ap (λ (x : Plan). is_empty x.written) (i ∙ ap (plan_by g limit B ps tb G (contents_of (node_at tb) us)) e) ∙ from_some A a)

  pub plan_some : (plan_of g limit B ps tb G us ≡ stuck) ⊎ (is_empty (plan_of g limit B ps tb G us).written ≡ false)
  plan_some = some_by (decide g limit B ps tb G (contents_of (node_at tb) us)) (decided ch rd wide) (plan_of g limit B ps tb G us) refl

  -- a plan that does nothing is not safe: it would have to make commit G + 1
  pub stuck_not : (h : ℕ) → Safe g limit B h torn ps tb G us stuck → ⊥
  stuck_not h sf =
      let nx : List Node = tab 0 limit (node_after g limit ps G stuck) in
      let e : meaning g limit (image_after g torn ps G stuck 0) ≡ means nx (suc G) = sf.cut 0 in
      let p : image_after g torn ps G stuck 0 ≡ ps = ap (λ (m : Machine). m.pages) (run_parts g torn 0 ps []) in
      let k : means tb G ≡ means nx (suc G) = sym rd.kept.is ∙ ap (meaning g limit) (sym p) ∙ e in
      let q : G ≡ suc G = cc in
      omega arith

  -- so a safe plan has a page
  pub safe_some : (h : ℕ) → Safe g limit B h torn ps tb G us (plan_of g limit B ps tb G us) → is_empty (plan_of g limit B ps tb G us).written ≡ false
  safe_some h sf = ⊎_elim (λ e. absurd (stuck_not h (subst (Safe g limit B h torn ps tb G us) e sf))) (λ e. e) plan_some
