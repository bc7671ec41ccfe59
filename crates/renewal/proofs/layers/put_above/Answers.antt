use mathlib.Core.Path.{refl, ap}
use lib.ListN.{set}
use Rattle.renewal.proofs.layers.put_above.Goals as goal

pub returns : goal.returns
returns c = (ap (set c.args.lows.now c.args.i) c.low_key.ensures, refl)
