use mathlib.Core.Path.{refl}
use Rattle.lists.proofs.Tests.{clash}
use Rattle.views.proofs.FoldLaws.{passed}
use Rattle.views.proofs.fold.is_passed.Goals as goal

pub returns-then-bytes-ne0 : goal.returns-then-bytes-ne0
returns-then-bytes-ne0 c = λ e. clash e refl

pub returns : goal.returns
returns c = λ e. passed c.args.limit c.args.node c.args.bytes.now c.read_half-n.result c.if-bytes-ne0.false c.read_half-n.ensures.0 c.if-n-node.false c.if-n-limit.false (c.is_laid.ensures e)
