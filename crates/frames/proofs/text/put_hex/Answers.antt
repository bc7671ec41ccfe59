use Rattle.frames.proofs.TextLaws.{started, writes, written}
use Rattle.frames.proofs.text.put_hex.Goals as goal

pub loop-i-init : goal.loop-i-init
loop-i-init c = started _ _

pub loop-i-preserved : goal.loop-i-preserved
loop-i-preserved c = writes _ _ _ _ _ c.loop-i.invariant c.loop-i-test.true c.digit_text.ensures

pub returns : goal.returns
returns c = written _ _ _ _ c.loop-i.invariant c.loop-i-test.false
