use mathlib.Core.Path.{◌≡◌, sym, ◌∙◌}
use native.Mathlib.Omega.{arith}
use Rattle.tree.proofs.CheckLaws.{kids_none, kids_stop, kids_next, visit_unfit, visit_old, visit_leaf, visit_branch, level_entries, walk_as, mark_as}
use Rattle.views.specs.FoldCode.{view_of}
use Rattle.views.specs.NodeCode.{entries_of}
use Rattle.tree.specs.Step6.{is_level}
use Rattle.tree.specs.CheckCode.{pages_table, obeys_at}
use Rattle.tree.specs.Tree as T
use Rattle.lists.proofs.Tests.{and_left}
use Prim.Native.Nat.{suc, ◌-◌}
use Rattle.tree.proofs.check.+subtrees_visit.Goals as goal
use Rattle.tree.proofs.check.+subtrees_visit.Goals.{visit-then-not-own-via-then-not-own, visit-then-not-own-via-else-not-own+then-not-mark}

pub subtrees-returns-then-n-i : goal.subtrees-returns-then-n-i
subtrees-returns-then-n-i t c = kids_none (pages_table c.args.nodes.geometry c.args.nodes.image.now c.args.nodes.lens.now c.args.nodes.slots.now c.args.nodes.limit) c.args.level c.args.hi c.args.n.len c.args.i c.args.n.keys c.args.n.values c.args.seen.now c.args.seen.now c.if-n-i.true

pub subtrees-returns-else-visit : goal.subtrees-returns-else-visit
subtrees-returns-else-visit t c = walk_as (sym c.if-visit.false) (kids_stop (pages_table c.args.nodes.geometry c.args.nodes.image.now c.args.nodes.lens.now c.args.nodes.slots.now c.args.nodes.limit) c.args.level c.args.hi c.args.n.len c.args.i c.args.n.keys c.args.n.values c.args.seen.now _
    c.if-n-i.false (omega arith) (omega arith) c.end_at-end.result c.end_at-end.ensures.0 (walk_as c.if-visit.false c.visit.ensures))

pub subtrees-returns-then-visit : goal.subtrees-returns-then-visit
subtrees-returns-then-visit t c = kids_next (pages_table c.args.nodes.geometry c.args.nodes.image.now c.args.nodes.lens.now c.args.nodes.slots.now c.args.nodes.limit) c.args.level c.args.hi c.args.n.len c.args.i c.args.n.keys c.args.n.values c.args.seen.now _
    c.if-n-i.false (omega arith) (omega arith) c.end_at-end.result c.end_at-end.ensures.0 _ c.subtrees.result (walk_as c.if-visit.true c.visit.ensures) c.subtrees.ensures

pub visit-returns-then-not-own : goal.visit-returns-then-not-own
visit-returns-then-not-own t c =
    elim c.then-not-own.branch [
      | visit-then-not-own-via-then-not-own w ↦ rw w.seen-is (visit_unfit c.args.nodes.geometry c.args.nodes.image.now c.args.nodes.lens.now c.args.nodes.slots.now c.args.nodes.limit c.args.level c.args.number c.args.lo c.args.hi (view_of c.list_view-f.result)
          c.list_view-f.ensures.is c.args.seen.now (sym c.own.ensures ∙ w.if-not-own.true))
      | visit-then-not-own-via-else-not-own+then-not-mark w ↦ rw w.seen-is (visit_old c.args.nodes.geometry c.args.nodes.image.now c.args.nodes.lens.now c.args.nodes.slots.now c.args.nodes.limit c.args.level c.args.number c.args.lo c.args.hi (view_of c.list_view-f.result)
          c.list_view-f.ensures.is (sym c.own.ensures ∙ w.if-not-own.false) c.args.seen.now _ (mark_as w.if-not-mark.true w.mark.ensures))
    ]

pub visit-returns-then-level-eq0 : goal.visit-returns-then-level-eq0
visit-returns-then-level-eq0 t c = visit_leaf c.args.nodes.geometry c.args.nodes.image.now c.args.nodes.lens.now c.args.nodes.slots.now c.args.nodes.limit c.args.level c.args.number c.args.lo c.args.hi (view_of c.list_view-f.result)
    c.list_view-f.ensures.is (sym c.own.ensures ∙ c.if-not-own.false) c.args.seen.now _ c.if-level-eq0.true (mark_as c.if-not-mark.false c.mark.ensures)

pub visit-returns : goal.visit-returns
visit-returns t c = let w = view_of c.list_view-f.result in
    let fit = sym c.own.ensures ∙ c.if-not-own.false in
    let e : c.args.level ≡ suc (c.args.level - 1) = omega arith in
    let i = and_left (is_level c.args.level w) (obeys_at c.args.level c.args.lo c.args.hi (T.entries_of w)) fit in
    visit_branch c.args.nodes.geometry c.args.nodes.image.now c.args.nodes.lens.now c.args.nodes.slots.now c.args.nodes.limit c.args.level c.args.number c.args.lo c.args.hi (view_of c.list_view-f.result)
    c.list_view-f.ensures.is fit (c.args.level - 1) (entries_of c.list_view-f.result.node) c.args.seen.now _ _ c.subtrees.result e
    (level_entries c.args.level c.list_view-f.result.stage c.list_view-f.result.node i) (mark_as c.if-not-mark.false c.mark.ensures) c.subtrees.ensures
