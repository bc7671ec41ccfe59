use mathlib.Core.Path.{◌≡◌}
use Prim.Native.Nat.{◌≤◌}
use lib.ListN.{length, drop}
use Rattle.chip.specs.Chip.{pages_of}
use Rattle.views.specs.FoldCode.{view_in}
use Rattle.views.specs.Stored.{stored_list, list_view}
use Rattle.views.proofs.ViewSteps.{after_pages}
use Rattle.views.proofs.view.slots_view.Given as goal

abbrev pub invariant-loop-i : goal.invariant-loop-i
invariant-loop-i l = (l.i ≤ l.used) × (length l.keys ≡ 17) × (length l.values ≡ 17) × (l.s.len ≤ 16)
    × (after_pages l.nodes.geometry l.nodes.limit (pages_of l.nodes.geometry l.nodes.image.now) l.number (view_in l.s l.keys l.values) (drop l.i (stored_list l.nodes.lens.now l.nodes.slots.now l.number))
    ≡ list_view l.nodes.geometry l.nodes.limit (pages_of l.nodes.geometry l.nodes.image.now) l.number (stored_list l.nodes.lens.now l.nodes.slots.now l.number))
