use mathlib.Core.Path.{refl}
use Rattle.std.specs.Prelude.{Result}
use Rattle.store.specs.declared.answer.Refusal.{Refusal}
use Rattle.store.specs.declared.answer.Report.{Report}
use Rattle.store.specs.declared.state.State.{State}
use Rattle.store.specs.Ensured.{Reports}
use Rattle.store.proofs.PartLaws.{of_parts}
use Rattle.store.proofs.report.block_report.Goals as goal

pub returns : goal.returns
returns c = of_parts c.args.state c.numbers_of-numbers.result c.numbers_of-numbers.ensures (λ (s : State) (r : Result Report Refusal). Reports c.args.at s c.args.image.now r) _ _ refl
    (c.block_report_lent.ensures c.numbers_of-numbers.result.free c.args.state.buffer c.args.state.lens c.args.state.slots)
