use mathlib.Core.Path.{ap, ◌∙◌}
use mathlib.Core.List.{List}
use Prim.Native.Nat.{ℕ}
use Rattle.store.specs.declared.state.State.{State}
use Rattle.store.specs.declared.state.Wrote.{Wrote}
use Rattle.store.specs.Ensured.{Commits}
use Rattle.store.specs.Parts.{wrote_with, wrote_free}
use Rattle.store.proofs.PartLaws.{of_parts}
use Rattle.store.proofs.commit.commit.Goals as goal

pub returns : goal.returns
returns c = of_parts c.args.state c.numbers_of-numbers.result c.numbers_of-numbers.ensures (λ (s : State) (r : Wrote). Commits c.args.allowance c.args.torn.now s c.args.image.now r c.commit_lent-parts.new.image) _ _
    (c.with_table.ensures ∙ ap (λ (f : List ℕ). wrote_with (wrote_free c.commit_lent-parts.result f) c.args.state.buffer c.commit_lent-parts.new.lens c.commit_lent-parts.new.slots c.commit_lent-parts.new.erases) c.commit_lent-parts.ensures.kept) (c.commit_lent-parts.ensures.says c.numbers_of-numbers.result.free)
