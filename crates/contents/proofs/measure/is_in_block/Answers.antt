use native.Mathlib.Omega.{arith}
use Rattle.std.proofs.lemmas.Grind.{common_steps}
use Rattle.chip.specs.Chip.{in_block}
use Rattle.contents.proofs.measure.is_in_block.Goals as goal

pub returns : goal.returns
unfolding in_block
returns c = grind (arith, common_steps)
