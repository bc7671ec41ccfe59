use Rattle.bench.specs.Input.{EndsUntold}
use Rattle.bench.proofs.InputLaws.{ends_none, ends_one, on_err}
use Rattle.bench.proofs.answer_line.Goals as goal

pub returns-in_err-print-clause-err : goal.returns-in_err-print-clause-err
returns-in_err-print-clause-err g c =
    let a = c.args in
    let u : EndsUntold a.torn.now a.line a.state a.image.now a.image.now =
    record { state = a.state; ends = ends_none a.torn.now a.line a.state a.image.now c.in_default.ensures } in
    on_err c.from_residual.result u

pub returns-in_default-clause-ok : goal.returns-in_default-clause-ok
returns-in_default-clause-ok g c = ends_none c.args.torn.now c.args.line c.args.state c.args.image.now c.in_default.ensures

pub returns-in_err-print-2-clause-err : goal.returns-in_err-print-2-clause-err
returns-in_err-print-2-clause-err g c =
    let a = c.args in
    let u : EndsUntold a.torn.now a.line a.state a.image.now c.step-r.new.image =
    record { state = c.step-r.result.state; ends = ends_one a.torn.now a.line c.in-Some.call a.state a.image.now c.step-r.result c.step-r.new.image c.in-Some.ensures c.step-r.ensures } in
    on_err c.from_residual-in_err-print-2.result u

pub returns-clause-ok : goal.returns-clause-ok
returns-clause-ok g c =
    ends_one c.args.torn.now c.args.line c.in-Some.call c.args.state c.args.image.now c.step-r.result c.step-r.new.image c.in-Some.ensures c.step-r.ensures
