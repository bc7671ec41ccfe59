use Rattle.bench.proofs.InputLaws.{takes_none, takes_feed, takes_byte, takes_next, first_feed, on_err}
use Rattle.bench.proofs.take_bytes.Goals as goal
use Rattle.bench.proofs.take_bytes.Goals.{then-byte-eq10+in_ok-bench, else-byte-eq10}

pub loop-byte-init : goal.loop-byte-init
loop-byte-init g c = takes_none c.args.torn.now c.args.bench.now.line c.args.bench.now.state c.args.image.now

pub returns-in_err-bench-clause-err : goal.returns-in_err-bench-clause-err
returns-in_err-bench-clause-err g c =
    on_err c.from_residual.result
    (first_feed c.args.torn.now c.args.bytes.now _ _ _ c.loop-byte.byte-index c.loop-byte.bench.line c.loop-byte.bench.state c.loop-byte.image _
    c.loop-byte-test.true c.if-byte-eq10.true c.loop-byte.invariant c.in_err-bench.ensures.err)

pub loop-byte-preserved : goal.loop-byte-preserved
loop-byte-preserved g c =
    let l = c.loop-byte in
    elim c.if-byte-eq10.branch [
      | then-byte-eq10+in_ok-bench w ↦
          rw (w.bench-is, w.image-is)
          (takes_next c.args.torn.now c.args.bytes.now _ _ _ l.byte-index l.bench.line l.bench.state l.image _ _ _ c.loop-byte-test.true l.invariant
          (takes_feed c.args.torn.now l.bench.line l.bench.state l.image _ _ _ _ w.if-byte-eq10.true w.new-bench.ensures w.in_ok-bench.ensures.ok))
      | else-byte-eq10 w ↦
          rw (w.bench-is, w.image-is)
          (takes_next c.args.torn.now c.args.bytes.now _ _ _ l.byte-index l.bench.line l.bench.state l.image _ _ _ c.loop-byte-test.true l.invariant
          (takes_byte c.args.torn.now l.bench.line l.bench.state l.image _ _ w.if-byte-eq10.false w.push.ensures))
    ]
