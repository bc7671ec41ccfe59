use mathlib.Core.Path.{◌≡◌, ap, ◌∙◌}
use Prim.Native.Nat.{suc, ◌+◌}
use native.Mathlib.Omega.{arith}
use lib.ListN.{length}
use Rattle.views.specs.NodeCode.{entries_of}
use Rattle.views.proofs.NodeLaws.{length_entries}
use Rattle.tree.specs.InsertCode.{needs_of}
use borrow.Author.Rules.{rules}
use Rattle.tree.proofs.insert.needs_above.Goals as goal

pub returns : goal.returns
returns c = let lk : length c.args.n.keys ≡ 17 = search rules in
    let lv : length c.args.n.values ≡ 17 = search rules in
    let e : c.args.n.len + 1 ≡ suc (length (entries_of c.args.n)) = omega (arith, length_entries c.args.n lk lv (omega (arith, c.requires.1))) in
    c.needs.ensures ∙ ap (needs_of c.args.need c.args.node) e
