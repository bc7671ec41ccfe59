use mathlib.Core.Path.{◌≡◌, refl, ap, ◌∙◌}
use mathlib.Core.List.{foldl}
use Prim.Native.Nat.{ℕ, ◌-◌}
use native.Mathlib.Omega.{arith}
use lib.ListN.{length}
use Rattle.lists.specs.Lists.{flat}
use Rattle.views.specs.Stored.{stored_list}
use Rattle.journal.specs.Plan.{count_from}
use Rattle.plan.specs.SurveyCode.{mark}
use Rattle.plan.proofs.MarkLaws.{node_next, nodes_done, length_marks}
use Rattle.chip.proofs.Sizes.{pages_pos}
use Rattle.plan.proofs.survey.mark_lists.Goals as goal

pub loop-n-init : goal.loop-n-init
loop-n-init c = (omega arith, refl, ap (λ (k : ℕ). foldl (mark c.args.geometry) c.args.marks.now (flat (stored_list c.args.lens.now c.args.slots.now) (count_from 0 k))) (let e : c.args.limit - 0 ≡ c.args.limit = omega arith in e))

pub loop-n-preserved : goal.loop-n-preserved
loop-n-preserved c = (
  omega arith,
  ap length c.mark_list.ensures ∙ length_marks c.args.geometry (pages_pos c.args.geometry c.requires.4) (stored_list c.args.lens.now c.args.slots.now c.loop-n.n) c.loop-n.marks ∙ c.loop-n.invariant.1,
  node_next c.args.geometry c.args.lens.now c.args.slots.now c.args.limit c.loop-n.n c.loop-n.marks _ c.loop-n.invariant.2 c.loop-n-test.true _ c.mark_list.ensures,
)

pub returns : goal.returns
returns c = nodes_done c.args.geometry c.args.lens.now c.args.slots.now c.args.limit c.loop-n.n c.loop-n.marks _ c.loop-n.invariant.2 c.loop-n-test.false
