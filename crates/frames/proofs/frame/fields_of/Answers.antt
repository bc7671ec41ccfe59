use native.Mathlib.Omega.{arith}
use Rattle.frames.proofs.FrameLaws.{no_digits, other, of_two, of_four, of_ten, of_twelve, of_eighteen}
use Rattle.frames.proofs.frame.fields_of.Goals as goal

pub returns-in_err-get : goal.returns-in_err-get
returns-in_err-get c =
    rw c.from_residual.ensures (other c.args.s.now (λ z. omega (arith, c.in_err-get.ensures.lookup.0)) (λ z. omega (arith, c.in_err-get.ensures.lookup.0)) (λ z. omega (arith, c.in_err-get.ensures.lookup.0)) (λ z. omega (arith, c.in_err-get.ensures.lookup.0)) (λ z. omega (arith, c.in_err-get.ensures.lookup.0)))

pub returns-in_err-kind : goal.returns-in_err-kind
returns-in_err-kind c =
    rw c.from_residual-in_err-kind.ensures (no_digits c.args.s.now 0 2 (rw c.in_ok-get.ensures.lookup.0.2 at c.in_err-kind.ensures))

pub returns-in_err-value_of-in-4 : goal.returns-in_err-value_of-in-4
returns-in_err-value_of-in-4 c = rw c.from_residual-in_err-value_of-in-4.ensures (no_digits c.args.s.now 2 _ c.in_err-value_of-in-4.ensures)

pub returns-in_err-value_of-in-10 : goal.returns-in_err-value_of-in-10
returns-in_err-value_of-in-10 c = rw c.from_residual-in_err-value_of-in-10.ensures (no_digits c.args.s.now 2 _ c.in_err-value_of-in-10.ensures)

pub returns-in_err-value_of-in-12 : goal.returns-in_err-value_of-in-12
returns-in_err-value_of-in-12 c = rw c.from_residual-in_err-value_of-in-12.ensures (no_digits c.args.s.now 2 8 c.in_err-value_of-in-12.ensures)

pub returns-in_err-value_of-in-12-2 : goal.returns-in_err-value_of-in-12-2
returns-in_err-value_of-in-12-2 c = rw c.from_residual-in_err-value_of-in-12-2.ensures (no_digits c.args.s.now 10 _ c.in_err-value_of-in-12-2.ensures)

pub returns-in_err-value_of-in-18 : goal.returns-in_err-value_of-in-18
returns-in_err-value_of-in-18 c = rw c.from_residual-in_err-value_of-in-18.ensures (no_digits c.args.s.now 2 8 c.in_err-value_of-in-18.ensures)

pub returns-in_err-value_of-in-18-2 : goal.returns-in_err-value_of-in-18-2
returns-in_err-value_of-in-18-2 c = rw c.from_residual-in_err-value_of-in-18-2.ensures (no_digits c.args.s.now 10 _ c.in_err-value_of-in-18-2.ensures)

pub returns-in-2 : goal.returns-in-2
returns-in-2 c = of_two c.args.s.now _ (rw c.in_ok-get.ensures.lookup.0.2 at c.in_ok-kind.ensures) c.in-2.is

pub returns-in_ok-value_of-in-4 : goal.returns-in_ok-value_of-in-4
returns-in_ok-value_of-in-4 c =
    of_four c.args.s.now _ (rw c.in_ok-get.ensures.lookup.0.2 at c.in_ok-kind.ensures) _ c.in-4.is (rw c.in-4.is at c.in_ok-value_of-in-4.ensures)

pub returns-in_ok-value_of-in-10 : goal.returns-in_ok-value_of-in-10
returns-in_ok-value_of-in-10 c =
    of_ten c.args.s.now _ (rw c.in_ok-get.ensures.lookup.0.2 at c.in_ok-kind.ensures) _ c.in-10.is (rw c.in-10.is at c.in_ok-value_of-in-10.ensures)

pub returns-in_ok-value_of-in-12-2 : goal.returns-in_ok-value_of-in-12-2
returns-in_ok-value_of-in-12-2 c =
    of_twelve c.args.s.now _ (rw c.in_ok-get.ensures.lookup.0.2 at c.in_ok-kind.ensures) _ _ c.in-12.is c.in_ok-value_of-in-12.ensures
    (rw c.in-12.is at c.in_ok-value_of-in-12-2.ensures)

pub returns-in_ok-value_of-in-18-2 : goal.returns-in_ok-value_of-in-18-2
returns-in_ok-value_of-in-18-2 c =
    of_eighteen c.args.s.now _ (rw c.in_ok-get.ensures.lookup.0.2 at c.in_ok-kind.ensures) _ _ c.in-18.is c.in_ok-value_of-in-18.ensures
    (rw c.in-18.is at c.in_ok-value_of-in-18-2.ensures)

pub returns-in_default : goal.returns-in_default
returns-in_default c = other c.args.s.now (λ z. omega arith) (λ z. omega arith) (λ z. omega arith) (λ z. omega arith) (λ z. omega arith)
