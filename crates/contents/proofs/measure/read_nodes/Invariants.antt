use mathlib.Core.Bool.{Bool}
use Prim.Native.Nat.{ℕ}
use Rattle.chip.specs.Chip.{pages_of}
use Rattle.views.specs.Stored.{node_view}
use Rattle.journal.specs.Plan.{rewrite}
use Rattle.contents.specs.ContentsCode.{ReadsNodes, Tells}
use Rattle.contents.proofs.measure.read_nodes.Given as goal

abbrev pub invariant-loop-n : goal.invariant-loop-n
invariant-loop-n g l =
    (w : ℕ → Bool) → Tells (goal.F-post g l.wanted) w → ReadsNodes l.n w (λ (m : ℕ). rewrite (node_view l.nodes.geometry l.nodes.limit (pages_of l.nodes.geometry l.nodes.image.now) l.nodes.lens.now l.nodes.slots.now l.count l.buffer m)) l.initial.wholes l.wholes l.initial.units l.units
