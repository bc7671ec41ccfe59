use mathlib.Core.Path.{ap, ◌∙◌}
use native.Mathlib.Omega.{arith}
use lib.ListN.{length}
use Rattle.views.specs.NodeCode.{entries_of}
use Rattle.tree.proofs.InsertCodeLaws.{lands_held, lands_refused}
use Rattle.tree.proofs.insert.gain_leaf.Goals as goal

pub returns-then-count-needs : goal.returns-then-count-needs
returns-then-count-needs c = lands_refused c.args.need c.args.node c.args.key c.args.value c.args.count (entries_of c.args.n) c.args.n.level c.insert-new.result c.insert-new.ensures c.needs.result c.needs.ensures
    c.args.buffer.now c.args.free.now c.count.result c.count.ensures c.if-count-needs.true

pub fit_or_split-requires : goal.fit_or_split-requires
fit_or_split-requires c = (c.requires.0, c.insert-new.ensures.room, ap length c.insert-new.ensures.is ∙ c.insert-new.ensures.len, omega arith)

pub returns : goal.returns
returns c = lands_held c.args.need c.args.node c.args.key c.args.value c.args.count (entries_of c.args.n) c.args.n.level c.insert-new.result c.insert-new.ensures c.needs.result c.needs.ensures
    c.args.buffer.now c.args.free.now c.count.result c.count.ensures _ _ c.fit_or_split.result c.if-count-needs.false c.fit_or_split.ensures
