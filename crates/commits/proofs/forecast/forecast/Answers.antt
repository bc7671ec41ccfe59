use mathlib.Core.Path.{refl}
use native.Mathlib.Omega.{arith}
use Rattle.commits.proofs.ForecastLaws.{forecasts_none, forecasts_some}
use Rattle.commits.proofs.forecast.forecast.Goals as goal

pub returns-in_err-plan : goal.returns-in_err-plan
returns-in_err-plan c = rw c.from_residual.ensures (forecasts_none c.in_err-plan.ensures refl)

pub overflow_cast-pages : goal.overflow_cast-pages
overflow_cast-pages c = let m = c.in_ok-plan.ensures.made _ refl in
    record { fits = omega (arith, m.decision.2.few, c.requires.2) }

pub overflow_cast-erases : goal.overflow_cast-erases
overflow_cast-erases c = let m = c.in_ok-plan.ensures.made _ refl in
    record { fits = omega (arith, m.laid.most) }

pub overflow_mul-result : goal.overflow_mul-result
overflow_mul-result c = let m = c.in_ok-plan.ensures.made _ refl in
    record { fits = omega (arith, m.decision.2.few, c.requires.2) }

pub returns : goal.returns
returns c = forecasts_some (c.in_ok-plan.ensures.made _ refl)
