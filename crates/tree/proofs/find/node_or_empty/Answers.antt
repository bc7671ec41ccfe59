use mathlib.Core.Path.{◌≡◌, refl}
use native.Mathlib.Omega.{arith}
use lib.ListN.{length}
use Rattle.views.proofs.NodeLaws.{length_entries}
use borrow.Author.Rules.{rules}
use Rattle.tree.proofs.find.node_or_empty.Goals as goal

pub returns-in-Full : goal.returns-in-Full
returns-in-Full c = let lk : length c.args.f.node.keys ≡ 17 = search rules in
    let lv : length c.args.f.node.values ≡ 17 = search rules in
    rw c.in-Full.is (record { level = refl; entries = refl; len = length_entries c.args.f.node lk lv (omega (arith, c.requires)); room = c.requires })
