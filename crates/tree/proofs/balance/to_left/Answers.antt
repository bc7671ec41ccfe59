use Rattle.tree.proofs.BalanceLaws.{left_moves}
use mathlib.Core.Path.{◌≡◌}
use lib.ListN.{length}
use borrow.Author.Rules.{rules}
use Rattle.tree.proofs.balance.to_left.Goals as goal

pub returns : goal.returns
returns c = let lk : length c.args.y.keys ≡ 17 = search rules in
    let lv : length c.args.y.values ≡ 17 = search rules in
    left_moves c.args.pair c.args.y lk lv c.requires.1 c.args.count c.push_four.result c.args.buffer.now _ c.requires.0 (rw (c.unit_of.ensures, c.unit_of-2.ensures, c.unit_of-3.ensures, c.unit_of-4.ensures) at c.push_four.ensures)
