use Rattle.std.proofs.Common.{length, arith}
use Rattle.packing.proofs.PackingArrays.{unpacked_ready, packs_passes}
use Rattle.packing.proofs.pack.pack_nodes.Goals as goal

pub pack_pass-marked-requires : goal.pack_pass-marked-requires
pack_pass-marked-requires c =
    (c.told-wholes, c.told-parts, c.requires, omega arith, unpacked_ready (length c.args.targets.now) c.args.rooms.now c.args.forms.now _ (c.fill.ensures.after (λ y e. e)) c.told-targets c.told-rooms c.told-forms)

pub returns : goal.returns
returns c =
    packs_passes (length c.args.targets.now) c.args.rooms.now c.args.forms.now _ (c.fill.ensures.after (λ y e. e)) c.args.units c.args.wholes.now c.args.parts.now c.args.limit c.pack_pass-marked.ensures c.pack_pass.ensures
