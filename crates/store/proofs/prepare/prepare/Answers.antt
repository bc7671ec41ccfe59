use native.Mathlib.Omega.{arith}
use Rattle.store.specs.PrepareCode.{unread, no_number, no_blocks}
use Rattle.store.proofs.AnswerLaws.{passed_up}
use Rattle.store.proofs.PrepareLaws.{is_last, is_full, is_ready}
use Rattle.store.proofs.prepare.prepare.Goals as goal

pub returns-in_err-meaning : goal.returns-in_err-meaning
returns-in_err-meaning c = rw (passed_up c.from_residual.result c.in_err-meaning.field-0.0 c.from_residual.ensures.1) (unread _ (rw c.in_err-meaning.was at c.check.ensures))

pub returns-then-meaning-ge-LAST : goal.returns-then-meaning-ge-LAST
returns-then-meaning-ge-LAST c = no_number (is_last c.args.geometry c.args.image.now _ _ _ _ _ _ (rw c.in_ok-meaning.was at c.check.ensures) c.if-meaning-ge-LAST.true)

pub free_blocks-found-requires : goal.free_blocks-found-requires
free_blocks-found-requires c = (c.requires.0.size, c.requires.0.most, c.requires.1)

pub returns-then-found-needed : goal.returns-then-found-needed
returns-then-found-needed c = no_blocks (is_full c.args.geometry c.args.image.now _ _ _ _ _ _ (rw c.in_ok-meaning.was at c.check.ensures) (omega (arith, c.if-meaning-ge-LAST.false)) c.args.blocks c.requires.0 _ _ c.free_blocks-found.ensures (omega (arith, c.if-found-needed.true, c.needed.ensures)))

pub returns : goal.returns
returns c = is_ready c.args.geometry c.args.image.now _ _ _ _ _ _ (rw c.in_ok-meaning.was at c.check.ensures) (omega (arith, c.if-meaning-ge-LAST.false)) c.args.blocks c.requires.0 _ _ c.free_blocks-found.ensures (omega (arith, c.if-found-needed.false, c.needed.ensures))
