use mathlib.Core.Path.{◌≡◌}
use native.Mathlib.Omega.{arith}
use lib.ListN.{length}
use Rattle.views.specs.NodeCode.{entries_of}
use Rattle.views.proofs.NodeLaws.{length_entries}
use Rattle.tree.proofs.RecordsLaws.{gathers_full, gathers_copied}
use borrow.Author.Rules.{rules}
use Rattle.tree.proofs.leaves.append.Goals as goal

pub returns-then-end-gt-ROOM : goal.returns-then-end-gt-ROOM
returns-then-end-gt-ROOM c = let lk : length c.args.n.keys ≡ 17 = search rules in
    let lv : length c.args.n.values ≡ 17 = search rules in
    let l = length_entries c.args.n lk lv (omega arith) in
    gathers_full (entries_of c.args.n) c.args.count c.args.keys.now c.args.values.now (omega arith) (omega arith)

pub returns : goal.returns
returns c = let lk : length c.args.n.keys ≡ 17 = search rules in
    let lv : length c.args.n.values ≡ 17 = search rules in
    let l = length_entries c.args.n lk lv (omega arith) in
    gathers_copied c.args.n.len c.args.count c.args.n.keys c.args.n.values c.args.keys.now c.args.values.now l (omega arith) (omega arith) (omega arith) (omega arith) (omega arith) _ _ c.copy_from_slice.ensures.after c.copy_from_slice-2.ensures.after
