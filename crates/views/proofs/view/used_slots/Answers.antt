use mathlib.Core.Path.{sym}
use native.Mathlib.Omega.{arith}
use Rattle.views.proofs.ViewSteps.{list_length, list_past}
use Rattle.views.proofs.view.used_slots.Goals as goal

pub returns-then-n-lt256 : goal.returns-then-n-lt256
returns-then-n-lt256 c = let e = list_length c.args.lens.now c.args.slots.now c.args.node in
    (omega (arith, e, c.requires.1, c.min.ensures), omega (arith, c.min.ensures))

pub returns-else-n-lt256 : goal.returns-else-n-lt256
returns-else-n-lt256 c = (sym (list_past c.args.lens.now c.args.slots.now c.args.node (omega arith)), omega arith)
