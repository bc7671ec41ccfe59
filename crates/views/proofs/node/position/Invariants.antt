use mathlib.Core.Path.{◌≡◌}
use Prim.Native.Nat.{◌+◌, ◌≤◌}
use lib.ListN.{take, drop}
use Rattle.views.specs.NodeCode.{rank}
use Rattle.views.proofs.node.position.Given as goal

abbrev pub invariant-loop-i : goal.invariant-loop-i
invariant-loop-i l = (l.i ≤ l.len) × (l.i + rank l.key (drop l.i (take l.len l.keys)) ≡ rank l.key (take l.len l.keys))
