use Rattle.frames.proofs.LineLaws.{empties}
use Rattle.frames.proofs.line.Line.is_empty.Goals as goal

pub returns : goal.returns
returns c = empties c.args.self.now
