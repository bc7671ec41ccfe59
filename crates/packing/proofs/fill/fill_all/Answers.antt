use mathlib.Core.List.{[]}
use Rattle.std.proofs.Common.{ℕ, take, refl, sym, arith, ne_eqb}
use Rattle.journal.specs.Plan.{count_from}
use Rattle.journal.specs.Packing.{fill_node}
use Rattle.journal.specs.PlanCode.{is_marked, packing_of, sizes_in}
use Rattle.packing.specs.PackingCode.{fill_if, FillsPages}
use Rattle.packing.proofs.PackingArrays.{fold_filter}
use Rattle.packing.proofs.FillArrays.{fills_same, fill_turn, fill_ends}
use Rattle.packing.proofs.fill.fill_all.Goals as goal
use Rattle.packing.proofs.fill.fill_all.Goals.{then-olds-n-eq1, else-olds-n-eq1}

pub loop-n-preserved : goal.loop-n-preserved
loop-n-preserved c =
    let f : FillsPages (λ (units : ℕ). fill_if units c.args.olds.now c.args.wholes.now (packing_of (take c.args.count c.loop-n.rooms) c.loop-n.targets c.loop-n.forms) c.loop-n.n)
    c.args.count c.loop-n.forms c.if-olds-n-eq1.rooms c.if-olds-n-eq1.targets c.if-olds-n-eq1.forms =
    elim c.if-olds-n-eq1.branch [
      | then-olds-n-eq1 w ↦ rw (w.forms-is, w.targets-is, w.rooms-is, w.if-olds-n-eq1.true) w.fill_node.ensures
      | else-olds-n-eq1 w ↦ rw (w.forms-is, w.targets-is, w.rooms-is, ne_eqb _ 1 w.if-olds-n-eq1.false)
          (fills_same c.loop-n.n c.args.count c.loop-n.rooms c.loop-n.targets c.loop-n.forms c.loop-n.invariant.0 (omega arith) c.requires.3 (λ units. refl))
    ] in
    fill_turn (λ (units : ℕ). fill_if units c.args.olds.now c.args.wholes.now) c.loop-n.n c.args.limit c.args.count c.loop-n.rooms c.loop-n.targets c.loop-n.invariant.1 c.loop-n.invariant.2 (omega arith) f

pub returns : goal.returns
returns c =
    fill_ends (λ (units : ℕ). fill_if units c.args.olds.now c.args.wholes.now) c.loop-n.n c.args.limit c.args.count c.loop-n.rooms c.loop-n.targets c.loop-n.invariant.1 c.loop-n.invariant.2 (omega arith) c.loop-n.invariant.0
    (λ units. sym (fold_filter (fill_node (sizes_in units c.args.wholes.now [])) (is_marked c.args.olds.now) (count_from 0 c.args.limit) (packing_of (take c.args.count c.args.rooms.now) c.args.targets.now c.args.forms.now)))
