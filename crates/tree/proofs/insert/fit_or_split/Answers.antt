use native.Mathlib.Omega.{arith}
use Rattle.views.specs.NodeCode.{entries_of}
use Rattle.tree.proofs.InsertCodeLaws.{holds_fit, holds_raise, holds_halve}
use Rattle.tree.proofs.insert.fit_or_split.Goals as goal

pub returns-then-n-le16 : goal.returns-then-n-le16
returns-then-n-le16 c = holds_fit c.args.level c.args.node c.args.key c.args.value (entries_of c.args.n) c.args.count c.args.buffer.now c.args.free.now _ c.fit.result (omega (arith, c.requires.2, c.if-n-le16.true)) c.fit.ensures

pub returns-then-node-eq0 : goal.returns-then-node-eq0
returns-then-node-eq0 c = holds_raise c.args.level c.args.node c.args.key c.args.value (entries_of c.args.n) c.args.count c.args.buffer.now c.args.free.now _ _ c.split_root.result
    (omega (arith, c.requires.1, c.requires.2, c.if-n-le16.false)) c.if-node-eq0.true c.split_root.ensures

pub returns-else-node-eq0 : goal.returns-else-node-eq0
returns-else-node-eq0 c = holds_halve c.args.level c.args.node c.args.key c.args.value (entries_of c.args.n) c.args.count c.args.buffer.now c.args.free.now _ _ c.split.result
    (omega (arith, c.requires.1, c.requires.2, c.if-n-le16.false)) c.if-node-eq0.false c.split.ensures
