use Rattle.std.proofs.Common.{arith}
use Rattle.execution.proofs.GatherLaws.{gathering_done, gathering_next, gathering_start}
use Rattle.execution.proofs.gather.gather.Goals as goal

pub loop-n-init : goal.loop-n-init
loop-n-init c = gathering_start c.args.room c.args.limit c.args.targets.now c.args.sizes.now c.args.units.now c.args.page c.args.out.now

pub push_node-k-requires : goal.push_node-k-requires
push_node-k-requires c = (c.requires.0, c.requires.1, c.requires.2, omega (arith, c.requires), c.requires.4, omega (arith, c.requires.5), omega (arith, c.requires.6), c.loop-n.invariant.few)

pub loop-n-preserved : goal.loop-n-preserved
loop-n-preserved c = gathering_next c.args.room c.args.limit c.args.targets.now c.args.sizes.now c.args.units.now c.args.page c.loop-n.n c.loop-n.k _ _ _ c.loop-n-test.true c.loop-n.invariant c.push_node-k.ensures

pub returns : goal.returns
returns c = gathering_done c.args.room c.args.limit c.args.targets.now c.args.sizes.now c.args.units.now c.args.page c.loop-n.n c.loop-n.k _ c.loop-n-test.false c.loop-n.invariant
