use Rattle.probe.proofs.BytesLaws.{part_none, on_err}
use Rattle.probe.specs.Makes.{rig}
use Rattle.probe.proofs.read_into.Goals as goal

pub returns-in_err-n-clause-err : goal.returns-in_err-n-clause-err
returns-in_err-n-clause-err g c =
    let r = c.args.reading.now in
    on_err c.from_residual.result (part_none r.line (rig r.probe.bed c.args.torn.now r.probe.state c.args.image.now))
