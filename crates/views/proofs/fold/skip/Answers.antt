use mathlib.Core.Path.{◌≡◌, refl}
use mathlib.Core.Bool.{Bool, true, false, not}
use native.Mathlib.Omega.{arith}
use Rattle.lists.proofs.Tests.{clash}
use Rattle.views.proofs.FoldLaws.{skips_next}
use Rattle.views.proofs.fold.skip.Goals as goal

passes : (b : Bool) → not b ≡ false → b ≡ true
passes true e = refl
passes false e = clash refl e

pub loop-i-init : goal.loop-i-init
loop-i-init c = (omega arith, c.requires.1, λ k a b. absurd (omega arith))

pub returns-then-not-is_passed : goal.returns-then-not-is_passed
returns-then-not-is_passed c = record { low = c.loop-i.invariant.0; high = c.loop-i.invariant.1; are = c.loop-i.invariant.2 }

pub loop-i-preserved : goal.loop-i-preserved
loop-i-preserved c = (omega arith, omega (arith, c.loop-i-test.true), skips_next c.args.limit c.args.node c.args.units.now c.args.from c.loop-i.i c.loop-i.invariant.2 (c.is_passed.ensures (passes c.is_passed.result c.if-not-is_passed.false-raw)))

pub returns : goal.returns
returns c = record { low = c.requires.1; high = omega arith; are = λ k a b. c.loop-i.invariant.2 k a (omega arith) }
