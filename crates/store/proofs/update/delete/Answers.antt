use Rattle.store.specs.declared.state.State.{State}
use Rattle.store.specs.declared.state.Updated.{Updated}
use Rattle.store.specs.Ensured.{Deletes}
use Rattle.store.proofs.PartLaws.{of_parts}
use Rattle.store.proofs.update.delete.Goals as goal

pub returns : goal.returns
returns c = of_parts c.args.state c.numbers_of-numbers.result c.numbers_of-numbers.ensures (λ (s : State) (r : Updated). Deletes c.args.key s c.args.image.now r) _ _ c.with_buffer.ensures (c.delete_lent-r.ensures c.args.state.erases)
