use Rattle.chip.specs.Chip.{pages_of}
use Prim.Native.Nat.{◌<◌}
use native.Mathlib.Omega.{arith}
use Rattle.tree.specs.Step6.{top}
use Rattle.tree.proofs.FindLaws.{root_low}
use Rattle.tree.proofs.InsertTreeLaws.{insert_refused, insert_made}
use borrow.Author.Rules.{rules}
use Rattle.tree.proofs.insert.insert.Goals as goal

pub insert_at-requires : goal.insert_at-requires
insert_at-requires c = let h = root_low c.args.nodes.geometry c.args.nodes.limit (pages_of c.args.nodes.geometry c.args.nodes.image.now) c.args.nodes.lens.now c.args.nodes.slots.now c.args.count c.args.buffer.now in
    (c.requires.0, c.requires.1, omega (arith, c.node_at-root.ensures.level), omega (arith, c.node_at-root.ensures.level), c.node_at-root.ensures)

pub returns-in_err-r : goal.returns-in_err-r
returns-in_err-r c = let hk : c.args.key < top = search rules in
    let hv : c.args.value < top = search rules in
    rw c.from_residual.ensures (insert_refused c.args.nodes.geometry c.args.nodes.image.now c.args.nodes.lens.now c.args.nodes.slots.now c.args.nodes.limit c.requires.0 c.args.key c.args.value c.args.count c.args.buffer.now c.args.free.now hk hv c.node_at-root.result.level c.node_at-root.ensures.level
    _ _ c.in_err-r.ensures)

pub returns : goal.returns
returns c = let hk : c.args.key < top = search rules in
    let hv : c.args.value < top = search rules in
    insert_made c.args.nodes.geometry c.args.nodes.image.now c.args.nodes.lens.now c.args.nodes.slots.now c.args.nodes.limit c.requires.0 c.args.key c.args.value c.args.count c.args.buffer.now c.args.free.now hk hv c.node_at-root.result.level c.node_at-root.ensures.level
    c.in_ok-r.r _ _ c.in_ok-r.ensures
