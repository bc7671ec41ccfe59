use Rattle.store.specs.declared.state.State.{State}
use Rattle.store.specs.declared.state.Wrote.{Wrote}
use Rattle.store.specs.Ensured.{Mounts}
use Rattle.store.proofs.PartLaws.{of_parts}
use Rattle.store.proofs.mount.mount.Goals as goal

pub returns : goal.returns
returns c = of_parts c.args.state c.numbers_of-numbers.result c.numbers_of-numbers.ensures (λ (s : State) (r : Wrote). Mounts c.args.nand c.args.allowance c.args.torn.now s c.args.image.now r c.mount_lent-parts.new.image) _ _
    c.with_table.ensures (c.mount_lent-parts.ensures c.args.state.buffer)
