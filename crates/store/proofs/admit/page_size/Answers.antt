use mathlib.Core.Path.{refl}
use native.Mathlib.Omega.{arith}
use Rattle.store.proofs.admit.page_size.Goals as goal

pub overflow_add-result : goal.overflow_add-result
overflow_add-result c = record { fits = omega (arith, c.geometry_of-geometry.ensures.1.area_most, c.geometry_of-geometry.ensures.1.spare_most) }

pub returns : goal.returns
returns c = rw c.geometry_of-geometry.ensures.0 refl
