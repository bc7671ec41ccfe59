use mathlib.Core.Path.{◌≡◌}
use lib.ListN.{length}
use Rattle.tree.proofs.CheckLaws.{starts_some}
use borrow.Author.Rules.{rules}
use Rattle.tree.proofs.check.starts_at.Goals as goal

pub returns-then-n-ne0 : goal.returns-then-n-ne0
returns-then-n-ne0 c = let lk : length c.args.n.keys ≡ 17 = search rules in
    let lv : length c.args.n.values ≡ 17 = search rules in
    starts_some c.args.lo c.args.n lk lv c.requires c.if-n-ne0.true
