use Prim.Native.Nat.{◌-◌}
use Rattle.renewal.proofs.layers.+put_levels.Given as goal

abbrev pub decreases-put_levels : goal.decreases-put_levels
decreases-put_levels l = 2 - l.level
