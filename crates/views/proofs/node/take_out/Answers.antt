use native.Mathlib.Omega.{arith}
use Rattle.views.proofs.NodeLaws.{lost, unchanged}
use Rattle.views.proofs.node.take_out.Goals as goal
use Rattle.views.proofs.node.take_out.Goals.{else-p-len-via-then-p-len+else-keys-p, else-p-len-via-else-p-len}

pub returns-then-keys-p : goal.returns-then-keys-p
returns-then-keys-p c = lost c.args.len c.args.keys.now c.args.values.now c.args.key c.requires.0 c.requires.1 c.requires.2 c.position-p.result c.position-p.ensures.0
    c.lose.result _ _ c.if-p-len.true c.if-keys-p.true c.lose.ensures.0 c.lose.ensures.1 c.lose.ensures.2

pub returns-else-p-len : goal.returns-else-p-len
returns-else-p-len c = unchanged c.args.len c.args.keys.now c.args.values.now c.args.key c.requires.0 c.requires.1 c.requires.2 c.position-p.result c.position-p.ensures.0
    (λ h q. elim c.else-p-len.branch [ else-p-len-via-then-p-len+else-keys-p w ↦ w.if-keys-p.false q | else-p-len-via-else-p-len w ↦ omega (arith, w.if-p-len.false) ])
