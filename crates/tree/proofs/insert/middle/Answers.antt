use mathlib.Core.Path.{◌≡◌}
use lib.ListN.{length}
use Rattle.tree.proofs.InsertCodeLaws.{middle_is}
use borrow.Author.Rules.{rules}
use Rattle.tree.proofs.insert.middle.Goals as goal

pub returns : goal.returns
returns c = let lk : length c.args.n.keys ≡ 17 = search rules in
    let lv : length c.args.n.values ≡ 17 = search rules in
    middle_is c.args.n c.requires lk lv
