use mathlib.Core.Path.{◌≡◌}
use native.Mathlib.Omega.{arith}
use Rattle.store.specs.AdmitCode.{tests_of, denied, idle, full, plans}
use Rattle.store.proofs.AnswerLaws.{passed_up}
use Rattle.store.proofs.UpdateTests.{refused_for, passed_for}
use Rattle.store.proofs.admit.commit_begins.Goals as goal

pub returns-in_err-commit_tests : goal.returns-in_err-commit_tests
returns-in_err-commit_tests c = let e = (rw c.in_err-commit_tests.was at c.commit_tests.ensures) in
    rw (passed_up c.from_residual.result c.in_err-commit_tests.field-0.0 c.from_residual.ensures.1) (denied _ (refused_for _ _ e) e)

pub returns-then-numbers-eq0 : goal.returns-then-numbers-eq0
returns-then-numbers-eq0 c =
    let past : (tests_of c.args.numbers c.args.len c.args.torn ≡ 0) = passed_for _ (rw c.in_ok-commit_tests.was at c.commit_tests.ensures) in
    idle past (omega (arith, c.if-numbers-eq0.true))

pub returns-then-numbers-gt-UNITS : goal.returns-then-numbers-gt-UNITS
returns-then-numbers-gt-UNITS c =
    let past : (tests_of c.args.numbers c.args.len c.args.torn ≡ 0) = passed_for _ (rw c.in_ok-commit_tests.was at c.commit_tests.ensures) in
    full past (omega (arith, c.if-numbers-eq0.false)) (omega (arith, c.if-numbers-gt-UNITS.true))

pub returns : goal.returns
returns c =
    let past : (tests_of c.args.numbers c.args.len c.args.torn ≡ 0) = passed_for _ (rw c.in_ok-commit_tests.was at c.commit_tests.ensures) in
    plans past (omega (arith, c.if-numbers-eq0.false)) (omega (arith, c.if-numbers-gt-UNITS.false))
