use mathlib.Core.Path.{◌≡◌}
use native.Mathlib.Omega.{arith}
use Rattle.chip.specs.Chip.{pages_of}
use Rattle.views.specs.Stored.{length_of}
use Rattle.tree.specs.Shown.{shown}
use Rattle.tree.proofs.FindLaws.{at_leaf, at_branch}
use Prim.Native.Nat.{suc, ◌-◌}
use Rattle.tree.proofs.find.+find_at.Goals as goal

pub returns-then-level-eq0 : goal.returns-then-level-eq0
returns-then-level-eq0 t c = at_leaf (length_of c.args.nodes.geometry c.args.nodes.limit (pages_of c.args.nodes.geometry c.args.nodes.image.now) c.args.nodes.lens.now c.args.nodes.slots.now) c.args.number c.args.key
    (shown c.args.nodes.geometry c.args.nodes.limit (pages_of c.args.nodes.geometry c.args.nodes.image.now) c.args.nodes.lens.now c.args.nodes.slots.now c.args.count c.args.buffer.now) c.args.read
    c.requires.1 c.args.level c.lookup.result c.if-level-eq0.true c.lookup.ensures

pub returns : goal.returns
returns t c = let e : c.args.level ≡ suc (c.args.level - 1) = omega arith in
    at_branch (length_of c.args.nodes.geometry c.args.nodes.limit (pages_of c.args.nodes.geometry c.args.nodes.image.now) c.args.nodes.lens.now c.args.nodes.slots.now) c.args.number c.args.key
    (shown c.args.nodes.geometry c.args.nodes.limit (pages_of c.args.nodes.geometry c.args.nodes.image.now) c.args.nodes.lens.now c.args.nodes.slots.now c.args.count c.args.buffer.now) c.args.read
    c.requires.1 c.args.level (c.args.level - 1) c.child-c.result c.find_at-r.result e c.child-c.ensures c.find_at-r.ensures
