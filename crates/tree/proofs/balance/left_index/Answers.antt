use Rattle.tree.proofs.BalanceLaws.{index_hit, index_last, index_pass}
use mathlib.Core.Path.{◌≡◌, refl}
use Prim.Native.Nat.{◌-◌}
use lib.ListN.{length}
use native.Mathlib.Omega.{arith}
use borrow.Author.Rules.{rules}
use Rattle.tree.proofs.balance.left_index.Goals as goal

pub loop-i-init : goal.loop-i-init
loop-i-init c = refl

pub returns-then-key-n : goal.returns-then-key-n
returns-then-key-n c = let lk : length c.args.n.keys ≡ 17 = search rules in
    let lv : length c.args.n.values ≡ 17 = search rules in
    index_hit c.args.key c.args.n lk lv c.requires.1 c.loop-i.i c.loop-i.invariant (omega arith) c.if-key-n.true

pub loop-i-preserved : goal.loop-i-preserved
loop-i-preserved c = let lk : length c.args.n.keys ≡ 17 = search rules in
    let lv : length c.args.n.values ≡ 17 = search rules in
    index_pass c.args.key c.args.n lk lv c.requires.1 c.loop-i.i c.loop-i.invariant (omega arith) c.if-key-n.false

pub returns : goal.returns
returns c = let lk : length c.args.n.keys ≡ 17 = search rules in
    let lv : length c.args.n.values ≡ 17 = search rules in
    let e : c.loop-i.i ≡ c.args.n.len - 2 = omega arith in
    rw e at (index_last c.args.key c.args.n lk lv c.requires.1 c.loop-i.i c.loop-i.invariant (omega arith))
