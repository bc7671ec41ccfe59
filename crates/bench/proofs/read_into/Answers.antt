use Rattle.bench.proofs.InputLaws.{part_none, on_err}
use Rattle.bench.proofs.read_into.Goals as goal

pub returns-in_err-n-clause-err : goal.returns-in_err-n-clause-err
returns-in_err-n-clause-err g c =
    on_err c.from_residual.result (part_none c.args.torn.now c.args.bench.now.line c.args.bench.now.state c.args.image.now)
