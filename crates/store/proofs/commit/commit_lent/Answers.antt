use mathlib.Core.Path.{refl}
use mathlib.Core.Bool.{false}
use Prim.Native.Nat.{◌<◌}
use lib.ListN.{length}
use Rattle.std.specs.Prelude.{Ok}
use Rattle.store.specs.AdmitCode.{CommitBegins}
use Rattle.store.specs.Parts.{with_free}
use Rattle.store.proofs.CommitTests.{begins_free}
use Rattle.store.proofs.CommitState.{commit_denied, commit_rests}
use borrow.Author.Rules.{rules}
use Rattle.store.proofs.commit.commit_lent.Goals as goal

pub commit_pending-requires : goal.commit_pending-requires
commit_pending-requires c =
    let begun : CommitBegins c.args.numbers (length c.args.image.now) (length c.args.torn.now) (Ok c.in-Ok-true.field-0) = c.in-Ok-true.ensures in
    (rw c.in-Ok-true.field-0-test at begun)

pub returns-in-Err : goal.returns-in-Err
returns-in-Err c =
    let low : c.args.numbers.commit < 4294967296 = search rules in
    rw c.quiet.ensures
    (record {
      kept = refl;
      says = λ free. commit_denied (with_free c.args.numbers free) c.args.buffer.now c.args.lens.now c.args.slots.now c.args.erases.now c.args.allowance c.args.torn.now c.args.image.now low c.in-Err.refusal
          (begins_free c.args.numbers free _ _ _ (rw c.in-Err.is at c.commit_begins.ensures));
    })

pub returns-in-Ok-false : goal.returns-in-Ok-false
returns-in-Ok-false c =
    let low : c.args.numbers.commit < 4294967296 = search rules in
    let begun : CommitBegins c.args.numbers (length c.args.image.now) (length c.args.torn.now) (Ok c.in-Ok-false.field-0) = c.in-Ok-false.ensures in
    let idle : CommitBegins c.args.numbers (length c.args.image.now) (length c.args.torn.now) (Ok false) = (rw c.in-Ok-false.field-0-test at begun) in
    rw c.quiet-in-Ok-false.ensures
    (record {
      kept = refl;
      says = λ free. commit_rests (with_free c.args.numbers free) c.args.buffer.now c.args.lens.now c.args.slots.now c.args.erases.now c.args.allowance c.args.torn.now c.args.image.now low
          (begins_free c.args.numbers free _ _ _ idle);
    })
