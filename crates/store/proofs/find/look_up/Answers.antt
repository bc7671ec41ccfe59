use mathlib.Core.Path.{refl}
use Rattle.std.specs.Prelude.{Result}
use Rattle.store.specs.declared.answer.Look.{Look}
use Rattle.store.specs.declared.answer.Refusal.{Refusal}
use Rattle.store.specs.declared.state.State.{State}
use Rattle.store.specs.Ensured.{Looks}
use Rattle.store.proofs.PartLaws.{of_parts}
use Rattle.store.proofs.find.look_up.Goals as goal

pub returns : goal.returns
returns c = of_parts c.args.state c.numbers_of-numbers.result c.numbers_of-numbers.ensures (λ (s : State) (r : Result Look Refusal). Looks c.args.key s c.args.image.now r) _ _ refl (c.look_up_lent.ensures c.numbers_of-numbers.result.free c.args.state.erases)
