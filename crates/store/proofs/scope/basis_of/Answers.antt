use mathlib.Core.Path.{refl}
use Rattle.store.proofs.scope.basis_of.Goals as goal

pub returns : goal.returns
returns c = rw c.geometry_of-geometry.ensures.0 refl
