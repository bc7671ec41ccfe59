use mathlib.Core.Bool.{false}
use Prim.Native.Nat.{◌<◌}
use lib.ListN.{length}
use Rattle.std.specs.Prelude.{Ok, Err}
use Rattle.chip.specs.Geometry.{geometry_of, page_size}
use Rattle.store.specs.AdmitCode.{CommitBegins}
use Rattle.store.specs.Parts.{with_free}
use Rattle.store.proofs.AnswerLaws.{passed_up}
use Rattle.store.proofs.CommitTests.{begins_free}
use Rattle.store.proofs.ForecastState.{forecast_denied, forecast_rests}
use borrow.Author.Rules.{rules}
use Rattle.store.proofs.forecast.forecast_lent.Goals as goal

pub returns-in_err-commit_begins : goal.returns-in_err-commit_begins
returns-in_err-commit_begins c free erases =
    let low : c.args.numbers.commit < 4294967296 = search rules in
    let begun : CommitBegins c.args.numbers (length c.args.image.now) (page_size (geometry_of c.args.numbers.nand)) (Err c.in_err-commit_begins.field-0.0) = (rw (c.in_err-commit_begins.was, c.page_size-torn.ensures) at c.commit_begins.ensures) in
    rw (passed_up c.from_residual.result c.in_err-commit_begins.field-0.0 c.from_residual.ensures.1)
    (forecast_denied (with_free c.args.numbers free) c.args.buffer.now c.args.lens.now c.args.slots.now erases c.args.image.now low _ (begins_free c.args.numbers free _ _ _ begun))

pub forecast_pending-requires : goal.forecast_pending-requires
forecast_pending-requires c = (rw (c.in_ok-commit_begins.was, c.if-branch.true, c.page_size-torn.ensures) at c.commit_begins.ensures)

pub returns-else-branch : goal.returns-else-branch
returns-else-branch c free erases =
    let low : c.args.numbers.commit < 4294967296 = search rules in
    let begun : CommitBegins c.args.numbers (length c.args.image.now) (page_size (geometry_of c.args.numbers.nand)) (Ok false) = (rw (c.in_ok-commit_begins.was, c.if-branch.false, c.page_size-torn.ensures) at c.commit_begins.ensures) in
    rw c.nothing.ensures
    (forecast_rests (with_free c.args.numbers free) c.args.buffer.now c.args.lens.now c.args.slots.now erases c.args.image.now low (begins_free c.args.numbers free _ _ _ begun))
