use native.Mathlib.Omega.{arith}
use Prim.Native.Nat.{◌-◌}
use Rattle.views.specs.NodeCode.{entries_of}
use Rattle.tree.proofs.DeleteTopLaws.{top_shares, top_merges, top_full}
use Rattle.tree.proofs.delete.merge_or_share.Goals as goal

pub returns-then-both-gt16 : goal.returns-then-both-gt16
returns-then-both-gt16 c = top_shares c.args.nodes.geometry c.args.nodes.image.now c.args.nodes.lens.now c.args.nodes.slots.now c.args.nodes.limit c.requires.0 c.args.level c.args.key c.args.count (entries_of c.args.root) (entries_of c.node_at-x.result) (entries_of c.node_at-y.result) c.pair_at-pair.result c.args.buffer.now c.args.free.now
    c.requires.2 c.pair_at-pair.ensures c.node_at-x.ensures.entries c.node_at-y.ensures.entries
    _ c.share-f.result (omega (arith, c.node_at-x.ensures.len, c.node_at-y.ensures.len, c.if-both-gt16.true)) c.share-f.ensures

pub merge-requires : goal.merge-requires
merge-requires c = let f = c.has_room.ensures.fits c.if-has_room.true in
    (c.node_at-x.ensures.room, c.node_at-y.ensures.room, omega (arith, f.0), f.1)

pub returns-then-has_room : goal.returns-then-has_room
returns-then-has_room c = let f = c.has_room.ensures.fits c.if-has_room.true in
    top_merges c.args.nodes.geometry c.args.nodes.image.now c.args.nodes.lens.now c.args.nodes.slots.now c.args.nodes.limit c.requires.0 c.args.level c.args.key c.args.count (entries_of c.args.root) (entries_of c.node_at-x.result) (entries_of c.node_at-y.result) c.pair_at-pair.result c.args.buffer.now c.args.free.now
    c.requires.2 c.pair_at-pair.ensures c.node_at-x.ensures.entries c.node_at-y.ensures.entries
    (c.args.level - 1) _ _ c.merge.result (omega (arith, c.requires.4)) (omega (arith, c.node_at-x.ensures.len, c.node_at-y.ensures.len, c.if-both-gt16.false))
    (omega (arith, c.node_at-x.ensures.len, c.node_at-y.ensures.len, f.0)) c.merge.ensures

pub returns : goal.returns
returns c = top_full c.args.nodes.geometry c.args.nodes.image.now c.args.nodes.lens.now c.args.nodes.slots.now c.args.nodes.limit c.requires.0 c.args.level c.args.key c.args.count (entries_of c.args.root) (entries_of c.node_at-x.result) (entries_of c.node_at-y.result) c.pair_at-pair.result c.args.buffer.now c.args.free.now
    c.requires.2 c.pair_at-pair.ensures c.node_at-x.ensures.entries c.node_at-y.ensures.entries
    c.requires.1 (omega (arith, c.node_at-x.ensures.len, c.node_at-y.ensures.len, c.if-both-gt16.false))
    (λ q n. c.has_room.ensures.full c.if-has_room.false (omega (arith, c.node_at-x.ensures.len, c.node_at-y.ensures.len)) n)
