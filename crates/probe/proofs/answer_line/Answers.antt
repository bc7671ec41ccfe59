use Rattle.std.proofs.lemmas.Result.{IfOk-weaker}
use Rattle.probe.proofs.MakesLaws.{carries_line}
use Rattle.probe.proofs.answer_line.Goals as goal

pub returns-clause-ok : goal.returns-clause-ok
returns-clause-ok g c =
    IfOk-weaker c.carry_out.result _ _ (λ p h. carries_line c.args.l c.order_of-given.result _ _ c.order_of-given.ensures h) c.carry_out.ensures.ok
