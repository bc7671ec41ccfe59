use mathlib.Core.Path.{refl}
use Rattle.std.specs.Prelude.{Ok, Err}
use Rattle.exports.proofs.CallLaws.{foreseen}
use Rattle.exports.proofs.forecast.vehinoke_forecast.Goals as goal

pub returns-in-Ok : goal.returns-in-Ok
returns-in-Ok c = foreseen c.args.numbers.now _ c.load-n.result c.load-n.ensures c.args.buffer.now c.args.lens.now c.args.slots.now c.args.image.now
    (Ok c.in-Ok.foretold) 0 refl (rw c.in-Ok.is at c.forecast_lent.ensures)

pub returns-in-Err : goal.returns-in-Err
returns-in-Err c = foreseen c.args.numbers.now _ c.load-n.result c.load-n.ensures c.args.buffer.now c.args.lens.now c.args.slots.now c.args.image.now
    (Err c.in-Err.refusal) c.from.result c.from.ensures (rw c.in-Err.is at c.forecast_lent.ensures)
