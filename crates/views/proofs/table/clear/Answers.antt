use Rattle.views.proofs.TableLaws.{cleared}
use Rattle.views.proofs.table.clear.Goals as goal

pub returns : goal.returns
returns c = cleared 256
