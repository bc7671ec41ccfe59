use Rattle.std.proofs.Common.{ℕ, eqb, get_or, take, refl, sym, arith, eq-eqb, ne_eqb}
use Rattle.journal.specs.Plan.{count_from}
use Rattle.journal.specs.Packing.{widen_node}
use Rattle.journal.specs.PlanCode.{packing_of, sizes_in}
use Rattle.packing.specs.PackingCode.{widen_if, FillsPages}
use Rattle.packing.proofs.PackingArrays.{fold_filter}
use Rattle.packing.proofs.FillArrays.{fills_same, fill_turn, fill_ends, keeps_short}
use Rattle.packing.proofs.widen.widen_all.Goals as goal
use Rattle.packing.proofs.widen.widen_all.Goals.{then-lens-n, else-lens-n}

pub widen_node-requires : goal.widen_node-requires
widen_node-requires c =
    (c.requires.2, c.requires.3, omega arith, c.requires.4, c.loop-n.invariant.0, keeps_short c.args.limit c.args.wholes.now c.args.parts.now c.loop-n.invariant.1 c.requires.6 c.loop-n.n (omega arith))

pub loop-n-preserved : goal.loop-n-preserved
loop-n-preserved c =
    let f : FillsPages (λ (units : ℕ). widen_if units c.args.lens.now c.args.d c.args.wholes.now c.args.parts.now (packing_of (take c.args.count c.loop-n.rooms) c.args.targets.now c.loop-n.forms) c.loop-n.n)
    c.args.count c.loop-n.forms c.if-lens-n.rooms c.args.targets.now c.if-lens-n.forms =
    elim c.if-lens-n.branch [
      | then-lens-n w ↦ rw (w.forms-is, w.rooms-is, eq-eqb _ _ w.if-lens-n.true) w.widen_node.ensures
      | else-lens-n w ↦ rw (w.forms-is, w.rooms-is, ne_eqb _ _ w.if-lens-n.false)
          (fills_same c.loop-n.n c.args.count c.loop-n.rooms c.args.targets.now c.loop-n.forms c.loop-n.invariant.0 (omega arith) c.requires.4 (λ units. refl))
    ] in
    fill_turn (λ (units : ℕ). widen_if units c.args.lens.now c.args.d c.args.wholes.now c.args.parts.now) c.loop-n.n c.args.limit c.args.count c.loop-n.rooms c.args.targets.now c.loop-n.invariant.1 c.loop-n.invariant.2 (omega arith) f

pub returns : goal.returns
returns c =
    fill_ends (λ (units : ℕ). widen_if units c.args.lens.now c.args.d c.args.wholes.now c.args.parts.now) c.loop-n.n c.args.limit c.args.count c.loop-n.rooms c.args.targets.now c.loop-n.invariant.1 c.loop-n.invariant.2 (omega arith) c.loop-n.invariant.0
    (λ units. sym (fold_filter (widen_node (sizes_in units c.args.wholes.now c.args.parts.now)) (λ (n : ℕ). eqb (get_or c.args.lens.now n 0) c.args.d) (count_from 0 c.args.limit)
    (packing_of (take c.args.count c.args.rooms.now) c.args.targets.now c.args.forms.now)))
