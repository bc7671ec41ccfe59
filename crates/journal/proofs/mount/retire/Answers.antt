use Rattle.chip.proofs.Runs.{ran_none}
use Rattle.journal.proofs.mount.retire.Goals as goal

pub returns-in-None : goal.returns-in-None
returns-in-None c = rw c.in-None.is (ran_none c.args.geometry c.args.torn.now c.args.progress c.args.image.now)
