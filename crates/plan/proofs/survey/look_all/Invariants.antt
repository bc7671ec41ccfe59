use mathlib.Core.Path.{◌≡◌}
use Prim.Native.Nat.{◌/◌, ◌≤◌}
use lib.ListN.{length}
use Rattle.chip.specs.Geometry.{page_size}
use Rattle.chip.specs.Chip.{pages_of}
use Rattle.pages.specs.Steps.{ordered}
use Rattle.plan.specs.SurveyCode.{last_in, mark_held}
use Rattle.plan.proofs.LastLaws.{live_at}
use Rattle.plan.proofs.survey.look_all.Given as goal

abbrev pub invariant-loop-at : goal.invariant-loop-at
invariant-loop-at l = (l.at ≤ length l.image / page_size l.geometry) × (length l.marks ≡ length l.initial.marks) × (l.z ≡ last_in (ordered (live_at l.geometry (pages_of l.geometry l.image) l.at)))
    × (l.marks ≡ mark_held l.geometry l.commit (live_at l.geometry (pages_of l.geometry l.image) l.at) l.initial.marks)
