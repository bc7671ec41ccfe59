use mathlib.Core.Path.{sym, ◌∙◌}
use Prim.Native.Nat.{◌-◌}
use native.Mathlib.Omega.{arith}
use borrow.Author.Tests.{not-true, not-false}
use Rattle.lists.proofs.Anys.{below_all, below_not}
use Rattle.chip.specs.Chip.{pages_of}
use Rattle.views.specs.WellCode.{well_stored}
use Rattle.views.proofs.WellLaws.{before_next}
use borrow.Author.Rules.{rules}
use Rattle.views.proofs.well.all_well.Goals as goal

pub loop-n-init : goal.loop-n-init
loop-n-init c = (search rules, λ k a b. absurd (omega arith))

pub returns-then-not-is_well : goal.returns-then-not-is_well
returns-then-not-is_well c = sym (below_not c.args.nodes.limit (well_stored c.args.nodes.geometry c.args.nodes.limit (pages_of c.args.nodes.geometry c.args.nodes.image.now) c.args.nodes.lens.now c.args.nodes.slots.now) (c.loop-n.n - 1)
    (omega (arith, c.loop-n-test, c.loop-n.invariant.0)) (sym c.is_well.ensures ∙ not-true _ c.if-not-is_well.true-raw))

pub loop-n-preserved : goal.loop-n-preserved
loop-n-preserved c = (
  omega (arith, c.loop-n.invariant.0),
  before_next (well_stored c.args.nodes.geometry c.args.nodes.limit (pages_of c.args.nodes.geometry c.args.nodes.image.now) c.args.nodes.lens.now c.args.nodes.slots.now) c.args.nodes.limit c.loop-n.n
      (omega (arith, c.loop-n-test)) c.loop-n.invariant.1 (sym c.is_well.ensures ∙ not-false _ c.if-not-is_well.false-raw),
)

pub returns : goal.returns
returns c = sym (below_all c.args.nodes.limit (well_stored c.args.nodes.geometry c.args.nodes.limit (pages_of c.args.nodes.geometry c.args.nodes.image.now) c.args.nodes.lens.now c.args.nodes.slots.now) (λ k h. c.loop-n.invariant.1 k (omega arith) h))
