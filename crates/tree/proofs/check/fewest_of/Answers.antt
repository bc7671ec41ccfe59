use Rattle.tree.proofs.CheckLaws.{fewest_more}
use Rattle.tree.proofs.check.fewest_of.Goals as goal

pub returns-else-number-eq0 : goal.returns-else-number-eq0
returns-else-number-eq0 c = fewest_more c.args.number c.if-number-eq0.false
