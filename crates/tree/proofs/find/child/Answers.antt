use mathlib.Core.Path.{◌≡◌, refl, sym, ◌∙◌}
use native.Mathlib.Omega.{arith}
use lib.ListN.{length}
use Rattle.tree.proofs.FindLaws.{below_pass, below_stop, below_end}
use borrow.Author.Rules.{rules}
use Rattle.tree.proofs.find.child.Goals as goal

pub loop-i-init : goal.loop-i-init
loop-i-init c = refl

pub returns-then-key-n : goal.returns-then-key-n
returns-then-key-n c = let lk : length c.args.n.keys ≡ 17 = search rules in
    let lv : length c.args.n.values ≡ 17 = search rules in
    sym (below_stop c.args.key c.loop-i.found c.args.n.len c.loop-i.i c.args.n.keys c.args.n.values (omega arith) (omega arith) (omega arith) c.if-key-n.true) ∙ c.loop-i.invariant

pub loop-i-preserved : goal.loop-i-preserved
loop-i-preserved c = let lk : length c.args.n.keys ≡ 17 = search rules in
    let lv : length c.args.n.values ≡ 17 = search rules in
    below_pass c.args.key c.loop-i.found c.args.n.len c.loop-i.i c.args.n.keys c.args.n.values (omega arith) (omega arith) (omega arith) c.if-key-n.false ∙ c.loop-i.invariant

pub returns : goal.returns
returns c = let e : c.loop-i.i ≡ c.args.n.len = omega arith in
    sym (below_end c.args.key c.loop-i.found c.args.n.len c.args.n.keys c.args.n.values) ∙ (rw e at c.loop-i.invariant)
