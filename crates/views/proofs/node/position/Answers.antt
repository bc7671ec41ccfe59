use mathlib.Core.Path.{◌≡◌}
use native.Mathlib.Omega.{arith}
use Rattle.views.proofs.NodeLaws.{rank_pass, rank_stop, rank_end}
use Rattle.views.proofs.node.position.Goals as goal

pub returns-then-key-keys : goal.returns-then-key-keys
returns-then-key-keys c = omega (arith, rank_stop c.args.key c.args.len c.loop-i.i c.args.keys.now (omega arith) (omega arith) c.if-key-keys.true)

pub loop-i-preserved : goal.loop-i-preserved
loop-i-preserved c = omega (arith, rank_pass c.args.key c.args.len c.loop-i.i c.args.keys.now (omega arith) (omega arith) c.if-key-keys.false)

pub returns : goal.returns
returns c = let e : c.loop-i.i ≡ c.args.len = omega arith in
    omega (arith, rank_end c.args.key c.args.len c.args.keys.now, rw e at c.loop-i.invariant.1)
