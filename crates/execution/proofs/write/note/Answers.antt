use Rattle.std.proofs.Common.{arith}
use Rattle.execution.proofs.WriteLaws.{notes_turned}
use Rattle.execution.proofs.write.note.Goals as goal

pub returns-then-units-geometry : goal.returns-then-units-geometry
returns-then-units-geometry c = λ few sound. notes_turned _ _ _ _ _ c.note_page.result sound c.note_page.ensures

pub returns-else-units-geometry : goal.returns-else-units-geometry
returns-else-units-geometry c = λ few sound. absurd (omega (arith, c.if-units-geometry.false, c.read_half-units.ensures.0))
