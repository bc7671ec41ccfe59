use mathlib.Core.Path.{◌≡◌}
use native.Mathlib.Omega.{arith}
use lib.ListN.{length}
use Rattle.tree.specs.CheckCode.{pages_table}
use Rattle.tree.proofs.RecordsLaws.{gathers_all}
use Rattle.tree.proofs.leaves.gather.Goals as goal

pub returns : goal.returns
returns c = let lk : length c.args.keys.now ≡ 4096 = omega arith in
    let lv : length c.args.values.now ≡ 4096 = omega arith in
    gathers_all c.listed_node-n.result.level (pages_table c.args.nodes.geometry c.args.nodes.image.now c.args.nodes.lens.now c.args.nodes.slots.now c.args.nodes.limit) c.gather_under.result c.args.keys.now c.args.values.now _ _
    c.listed_node-n.ensures.level lk lv c.gather_under.ensures
