use mathlib.Core.Path.{◌≡◌, refl, sym, ◌∙◌}
use native.Mathlib.Omega.{arith}
use lib.ListN.{length}
use Rattle.tree.proofs.CheckLaws.{keys_low, keys_high, keys_pass, from_end}
use borrow.Author.Rules.{rules}
use Rattle.tree.proofs.check.keys_in.Goals as goal
use Rattle.tree.proofs.check.keys_in.Goals.{then-key-lo-via-then-key-lo, then-key-lo-via-else-key-lo+then-hi-key}

pub loop-i-init : goal.loop-i-init
loop-i-init c = refl

pub returns-then-key-lo : goal.returns-then-key-lo
returns-then-key-lo c = let lk : length c.args.n.keys ≡ 17 = search rules in
    let lv : length c.args.n.values ≡ 17 = search rules in
    elim c.then-key-lo.branch [
      | then-key-lo-via-then-key-lo w ↦ sym (keys_low c.args.n.len c.loop-i.i c.args.n.keys c.args.n.values (omega arith) (omega arith) (omega arith) c.args.lo c.args.hi w.if-key-lo.true) ∙ c.loop-i.invariant
      | then-key-lo-via-else-key-lo+then-hi-key w ↦ sym (keys_high c.args.n.len c.loop-i.i c.args.n.keys c.args.n.values (omega arith) (omega arith) (omega arith) c.args.lo c.args.hi w.if-key-lo.false w.if-hi-key.true) ∙ c.loop-i.invariant
    ]

pub loop-i-preserved : goal.loop-i-preserved
loop-i-preserved c = let lk : length c.args.n.keys ≡ 17 = search rules in
    let lv : length c.args.n.values ≡ 17 = search rules in
    keys_pass c.args.n.len c.loop-i.i c.args.n.keys c.args.n.values (omega arith) (omega arith) (omega arith) c.args.lo c.args.hi c.if-key-lo.false c.if-hi-key.false ∙ c.loop-i.invariant

pub returns : goal.returns
returns c = rw (from_end c.args.n.len c.loop-i.i c.args.n.keys c.args.n.values c.loop-i-test.false) at c.loop-i.invariant
