use Prim.Native.Nat.{◌<◌}
use mathlib.Core.Path.{refl, sym, ◌∙◌}
use native.Mathlib.Omega.{arith}
use Rattle.chip.specs.Geometry.{geometry_of}
use Rattle.store.proofs.AdmitLaws.{number_some}
use Rattle.store.proofs.AnswerLaws.{passed_up}
use Rattle.store.proofs.CommitTests.{commit_first, commit_torn, commit_idles, commit_last, commit_passes}
use borrow.Author.Rules.{rules}
use Rattle.store.proofs.admit.commit_tests.Goals as goal

pub returns-in_err-admit : goal.returns-in_err-admit
returns-in_err-admit c = let a = (rw c.in_err-admit.was at c.admit.ensures) in
    rw (passed_up c.from_residual.result c.in_err-admit.field-0.0 c.from_residual.ensures.1) (commit_first (geometry_of c.args.numbers.nand) c.args.numbers.on c.args.numbers.blocks c.args.numbers.pending c.args.numbers.commit c.args.len c.args.torn _ a.number (number_some _))

pub returns-then-torn-page_size : goal.returns-then-torn-page_size
returns-then-torn-page_size c = let a = (rw c.in_ok-admit.was at c.admit.ensures) in
    commit_torn (geometry_of c.args.numbers.nand) c.args.numbers.on c.args.numbers.blocks c.args.numbers.pending c.args.numbers.commit c.args.len c.args.torn 0 a.number refl (λ q. c.if-torn-page_size.true (q ∙ sym c.page_size.ensures))

pub returns-then-numbers-eq0 : goal.returns-then-numbers-eq0
returns-then-numbers-eq0 c = let a = (rw c.in_ok-admit.was at c.admit.ensures) in
    commit_idles (geometry_of c.args.numbers.nand) c.args.numbers.on c.args.numbers.blocks c.args.numbers.pending c.args.numbers.commit c.args.len c.args.torn 0 a.number refl (omega (arith, c.if-torn-page_size.false)) (omega (arith, c.if-numbers-eq0.true))

pub returns-then-numbers-ge-LAST : goal.returns-then-numbers-ge-LAST
returns-then-numbers-ge-LAST c =
    let low : c.args.numbers.commit < 4294967296 = search rules in
    let a = (rw c.in_ok-admit.was at c.admit.ensures) in
    commit_last (geometry_of c.args.numbers.nand) c.args.numbers.on c.args.numbers.blocks c.args.numbers.pending c.args.numbers.commit c.args.len c.args.torn 0 a.number refl (omega (arith, c.if-torn-page_size.false)) (omega (arith, c.if-numbers-eq0.false)) (omega (arith, c.if-numbers-ge-LAST.true)) low

pub returns-else-numbers-ge-LAST : goal.returns-else-numbers-ge-LAST
returns-else-numbers-ge-LAST c = let a = (rw c.in_ok-admit.was at c.admit.ensures) in
    commit_passes (geometry_of c.args.numbers.nand) c.args.numbers.on c.args.numbers.blocks c.args.numbers.pending c.args.numbers.commit c.args.len c.args.torn 0 a.number refl (omega (arith, c.if-torn-page_size.false)) (omega (arith, c.if-numbers-eq0.false)) (omega (arith, c.if-numbers-ge-LAST.false))
