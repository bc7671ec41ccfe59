use mathlib.Core.Path.{◌≡◌}
use lib.ListN.{length}
use Rattle.lists.specs.Lists.{flat}
use Rattle.views.specs.Nodes.{Entry}
use Rattle.views.specs.NodeCode.{entries_in}
use Rattle.tree.specs.Tree.{records_at}
use Rattle.tree.specs.CheckCode.{pages_table}
use Rattle.tree.specs.RecordsCode.{Gathers}
use Prim.Native.Nat.{◌≤◌}
use Rattle.tree.proofs.leaves.+gather_under.Given as goal

abbrev pub invariant-loop-i : goal.invariant-loop-i
invariant-loop-i l = (l.r ≤ 4096)
    × (length l.keys ≡ 4096)
    × (length l.values ≡ 4096)
    × Gathers (flat (λ (e : Entry). records_at l.low (pages_table l.nodes.geometry l.nodes.image.now l.nodes.lens.now l.nodes.slots.now l.nodes.limit) e.value) (entries_in l.i l.n.keys l.n.values)) l.count l.initial.keys l.initial.values l.r l.keys l.values

abbrev pub decreases-gather_under : goal.decreases-gather_under
decreases-gather_under l = l.level
