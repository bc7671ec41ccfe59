use mathlib.Core.Path.{◌≡◌}
use Prim.Native.Nat.{◌+◌}
use native.Mathlib.Omega.{arith}
use lib.ListN.{length}
use Rattle.tree.proofs.CheckLaws.{end_next, end_last}
use borrow.Author.Rules.{rules}
use Rattle.tree.proofs.check.end_at.Goals as goal

pub returns-then-j-len : goal.returns-then-j-len
returns-then-j-len c = let lk : length c.args.n.keys ≡ 17 = search rules in
    let lv : length c.args.n.values ≡ 17 = search rules in
    (end_next c.args.n.len (c.args.i + 1) c.args.hi c.args.n.keys c.args.n.values (omega arith) (omega arith) (omega arith), lk, lv)

pub returns-else-j-len : goal.returns-else-j-len
returns-else-j-len c = let lk : length c.args.n.keys ≡ 17 = search rules in
    let lv : length c.args.n.values ≡ 17 = search rules in
    (end_last c.args.n.len (c.args.i + 1) c.args.hi c.args.n.keys c.args.n.values (omega arith), lk, lv)
