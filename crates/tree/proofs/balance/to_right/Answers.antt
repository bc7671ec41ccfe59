use Rattle.tree.proofs.BalanceLaws.{right_moves}
use mathlib.Core.Path.{◌≡◌, refl}
use lib.ListN.{length}
use Prim.Native.Nat.{◌-◌}
use borrow.Author.Rules.{rules}
use Rattle.tree.proofs.balance.to_right.Goals as goal

pub returns : goal.returns
returns c = let lk : length c.args.x.keys ≡ 17 = search rules in
    let lv : length c.args.x.values ≡ 17 = search rules in
    right_moves c.args.pair c.args.x lk lv c.requires.1 c.args.count c.push_four.result c.args.buffer.now _ (c.args.x.len - 1) refl c.requires.0 (rw (c.unit_of.ensures, c.unit_of-2.ensures, c.unit_of-3.ensures, c.unit_of-4.ensures) at c.push_four.ensures)
