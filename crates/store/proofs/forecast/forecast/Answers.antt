use mathlib.Core.Path.{refl}
use Rattle.std.specs.Prelude.{Result}
use Rattle.chip.specs.declared.progress.Counts.{Counts}
use Rattle.store.specs.declared.answer.Refusal.{Refusal}
use Rattle.store.specs.declared.state.State.{State}
use Rattle.store.specs.Ensured.{Forecasts}
use Rattle.store.proofs.PartLaws.{of_parts}
use Rattle.store.proofs.forecast.forecast.Goals as goal

pub returns : goal.returns
returns c = of_parts c.args.state c.numbers_of-numbers.result c.numbers_of-numbers.ensures (λ (s : State) (r : Result Counts Refusal). Forecasts s c.args.image.now r) _ _ refl
    (c.forecast_lent.ensures c.numbers_of-numbers.result.free c.args.state.erases)
