use Rattle.execution.proofs.GatherLaws.{laid_front}
use Rattle.execution.proofs.gather.lay_units.Goals as goal

pub returns : goal.returns
returns c = laid_front c.args.geometry c.args.commit c.args.index c.args.total c.args.k c.args.units.now _ c.lay_out.ensures
