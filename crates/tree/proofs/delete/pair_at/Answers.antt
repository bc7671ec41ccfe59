use mathlib.Core.Path.{◌≡◌, refl, sym, ap}
use Prim.Native.Nat.{◌+◌}
use native.Mathlib.Omega.{arith}
use lib.ListN.{length}
use Rattle.views.specs.Nodes.{Entry}
use Rattle.tree.proofs.BalanceLaws.{entry_at}
use borrow.Author.Rules.{rules}
use Rattle.tree.proofs.delete.pair_at.Goals as goal

pub returns : goal.returns
returns c = let lk : length c.args.n.keys ≡ 17 = search rules in
    let lv : length c.args.n.values ≡ 17 = search rules in
    let at = entry_at c.args.n lk lv (omega (arith, c.requires.1)) in
    record {
      parent = refl;
      left = sym (ap (λ (e : Entry). e.value) (at c.args.i (omega (arith, c.requires.0))));
      right = sym (at (c.args.i + 1) (omega (arith, c.requires.0)));
    }
