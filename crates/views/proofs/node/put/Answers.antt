use mathlib.Core.Path.{refl}
use native.Mathlib.Omega.{arith}
use Rattle.views.proofs.NodeLaws.{gained, replaced}
use borrow.Author.Rules.{rules}
use Rattle.views.proofs.node.put.Goals as goal
use Rattle.views.proofs.node.put.Goals.{else-p-len-via-then-p-len+else-keys-p, else-p-len-via-else-p-len}

pub returns-then-keys-p : goal.returns-then-keys-p
returns-then-keys-p c = replaced c.args.len c.args.keys.now c.args.values.now c.args.key c.requires.0 c.requires.1 (omega arith) c.position-p.result c.position-p.ensures.0
    c.args.value _ (search rules) c.if-p-len.true c.if-keys-p.true refl

pub returns-else-p-len : goal.returns-else-p-len
returns-else-p-len c = gained c.args.len c.args.keys.now c.args.values.now c.args.key c.requires.0 c.requires.1 (omega arith) c.position-p.result c.position-p.ensures.0
    c.args.value c.gain.result _ _ c.requires.2 (λ h q. elim c.else-p-len.branch [ else-p-len-via-then-p-len+else-keys-p w ↦ w.if-keys-p.false q | else-p-len-via-else-p-len w ↦ omega (arith, w.if-p-len.false) ]) c.gain.ensures.0 c.gain.ensures.1 c.gain.ensures.2
