use mathlib.Core.Path.{◌≡◌, refl}
use lib.ListN.{length}
use Rattle.tree.proofs.InsertCodeLaws.{lower_shows}
use borrow.Author.Rules.{rules}
use Rattle.tree.proofs.insert.lower.Goals as goal

pub returns : goal.returns
returns c = let lk : length c.args.n.keys ≡ 17 = search rules in
    let lv : length c.args.n.values ≡ 17 = search rules in
    (lower_shows c.args.n c.requires lk lv _ c.args.level refl refl refl refl, refl)
