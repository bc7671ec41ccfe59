use borrow.Author.Tests.{not-true, not-false}
use Rattle.views.proofs.TableLaws.{passing_start, passing_next, passing_stop, passing_end}
use Rattle.views.proofs.table.note_keys.Goals as goal

pub loop-key-init : goal.loop-key-init
loop-key-init c = passing_start c.args.geometry c.args.image.now c.args.limit c.args.keys.now c.args.lens.now c.args.slots.now

pub returns-then-not-note_at : goal.returns-then-not-note_at
returns-then-not-note_at c = passing_stop c.args.geometry c.args.image.now c.args.limit c.args.keys.now c.args.lens.now c.args.slots.now c.loop-key.key-index c.loop-key.lens c.loop-key.slots
    c.loop-key-test.true c.loop-key.invariant _ _ c.note_at.result c.note_at.ensures (not-true _ c.if-not-note_at.true-raw)

pub loop-key-preserved : goal.loop-key-preserved
loop-key-preserved c =
    passing_next c.args.geometry c.args.image.now c.args.limit c.args.keys.now c.args.lens.now c.args.slots.now c.loop-key.key-index c.loop-key.lens c.loop-key.slots
    c.loop-key-test.true c.loop-key.invariant _ _ c.note_at.result c.note_at.ensures (not-false _ c.if-not-note_at.false-raw)

pub returns : goal.returns
returns c = passing_end c.args.geometry c.args.image.now c.args.limit c.args.keys.now c.args.lens.now c.args.slots.now c.loop-key.key-index c.loop-key.lens c.loop-key.slots c.loop-key-test.false c.loop-key.invariant
