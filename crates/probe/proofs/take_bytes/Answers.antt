use Rattle.probe.specs.Makes.{rig}
use Rattle.probe.proofs.BytesLaws.{carry_none, carry_next_feed, carry_next_byte, first_before, on_err}
use Rattle.probe.proofs.take_bytes.Goals as goal
use Rattle.probe.proofs.take_bytes.Goals.{then-byte-eq10+in_ok-reading, else-byte-eq10}

pub loop-byte-init : goal.loop-byte-init
loop-byte-init g c = carry_none _ _

pub returns-in_err-reading-clause-err : goal.returns-in_err-reading-clause-err
returns-in_err-reading-clause-err g c =
    let l = c.loop-byte in
    on_err c.from_residual.result
    (first_before c.args.bytes.now _ _ l.byte-index l.reading.line (rig l.reading.probe.bed l.torn l.reading.probe.state l.image) _ _ c.loop-byte-test.true
    c.if-byte-eq10.true l.invariant c.in_err-reading.ensures.err_torn c.in_err-reading.ensures.err)

pub loop-byte-preserved : goal.loop-byte-preserved
loop-byte-preserved g c =
    let l = c.loop-byte in
    elim c.if-byte-eq10.branch [
      | then-byte-eq10+in_ok-reading w ↦
          rw (w.reading-is, w.torn-is, w.image-is)
          (carry_next_feed c.args.bytes.now _ _ l.byte-index l.reading.line (rig l.reading.probe.bed l.torn l.reading.probe.state l.image) c.loop-byte-test.true l.invariant _ _
          w.if-byte-eq10.true w.new-reading.ensures w.in_ok-reading.ensures.ok)
      | else-byte-eq10 w ↦
          rw (w.reading-is, w.torn-is, w.image-is)
          (carry_next_byte c.args.bytes.now _ _ l.byte-index l.reading.line (rig l.reading.probe.bed l.torn l.reading.probe.state l.image) c.loop-byte-test.true l.invariant _
          w.if-byte-eq10.false w.push.ensures)
    ]
