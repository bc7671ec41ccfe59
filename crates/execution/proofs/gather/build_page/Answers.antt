use Rattle.execution.proofs.GatherLaws.{data_built}
use Rattle.execution.proofs.gather.build_page.Goals as goal

pub returns : goal.returns
returns c = data_built c.args.geometry c.args.limit c.args.targets.now c.args.sizes.now c.args.units.now c.args.commit c.args.index c.args.total c.gather-k.result _ _ c.gather-k.ensures
    c.lay_units.ensures
