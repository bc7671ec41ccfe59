use mathlib.Core.Path.{refl}
use native.Mathlib.Omega.{arith}
use Rattle.chip.specs.Geometry.{geometry_of}
use Rattle.store.proofs.AdmitLaws.{number_some}
use Rattle.store.proofs.AnswerLaws.{passed_up}
use Rattle.store.proofs.CommitTests.{update_first, update_full, update_passes}
use Rattle.store.proofs.admit.update_tests.Goals as goal

pub returns-in_err-admit : goal.returns-in_err-admit
returns-in_err-admit c = let a = (rw c.in_err-admit.was at c.admit.ensures) in
    rw (passed_up c.from_residual.result c.in_err-admit.field-0.0 c.from_residual.ensures.1) (update_first (geometry_of c.args.numbers.nand) c.args.numbers.on c.args.numbers.blocks c.args.numbers.pending c.args.len _ a.number (number_some _))

pub returns-then-numbers-ge-PENDING : goal.returns-then-numbers-ge-PENDING
returns-then-numbers-ge-PENDING c = let a = (rw c.in_ok-admit.was at c.admit.ensures) in
    update_full (geometry_of c.args.numbers.nand) c.args.numbers.on c.args.numbers.blocks c.args.numbers.pending c.args.len 0 a.number refl (omega (arith, c.if-numbers-ge-PENDING.true))

pub returns : goal.returns
returns c = let a = (rw c.in_ok-admit.was at c.admit.ensures) in
    update_passes (geometry_of c.args.numbers.nand) c.args.numbers.on c.args.numbers.blocks c.args.numbers.pending c.args.len 0 a.number refl (omega (arith, c.if-numbers-ge-PENDING.false))
