use mathlib.Core.Path.{◌≡◌, sym, ◌∙◌}
use native.Mathlib.Omega.{arith}
use Rattle.contents.proofs.MeasureLaws.{reading_start, reading_next, reading_done, reads_one, reads_none}
use Rattle.contents.proofs.measure.read_nodes.Goals.{then-wanted, else-wanted}
use Rattle.contents.proofs.measure.read_nodes.Goals as goal

pub loop-n-init : goal.loop-n-init
loop-n-init g c = λ w h. reading_start _ _ _ _ c.requires.state.2

pub loop-n-preserved : goal.loop-n-preserved
loop-n-preserved g c = λ w h.
    let t : c.wanted.result ≡ w c.loop-n.n = h c.loop-n.n c.wanted.result (omega arith) c.wanted.ensures in
    reading_next w _ _ _ c.loop-n.n c.loop-n.wholes c.if-wanted.wholes c.loop-n.units c.if-wanted.units (c.loop-n.invariant w h) (omega arith) c.requires.state.1
    (elim c.if-wanted.branch [
      | then-wanted b ↦ reads_one c.loop-n.n _ c.loop-n.wholes _ c.loop-n.units _ b.keep_node.result _ (sym t ∙ b.if-wanted.true) b.wholes-is (rw b.units-is b.keep_node.ensures)
      | else-wanted b ↦ rw (b.wholes-is, b.units-is) (reads_none c.loop-n.n _ c.loop-n.wholes c.loop-n.units _ (sym t ∙ b.if-wanted.false))
    ])

pub returns : goal.returns
returns g c = λ w h. reading_done _ _ _ _ c.loop-n.n c.args.nodes.limit c.loop-n.wholes c.loop-n.units c.loop-n.auto.n-end c.loop-n-test.false (c.loop-n.invariant w h)
