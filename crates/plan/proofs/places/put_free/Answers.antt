use mathlib.Core.Path.{sym, ap, ◌∙◌}
use Prim.Native.Nat.{ℕ, ◌+◌, ◌*◌, ◌≤◌}
use native.Mathlib.Nat.{add-sub_cancel_left}
use native.Mathlib.Omega.{arith}
use Rattle.lists.specs.Lists.{filter}
use Rattle.chip.specs.Geometry.{most_pages}
use Rattle.chip.specs.Chip.{pages_of}
use Rattle.journal.specs.Plan.{count_from, free_at}
use Rattle.plan.specs.SurveyCode.{Pushes}
use Rattle.plan.proofs.PlaceLaws.{free_enough, free_over, free_pages_is}
use Rattle.plan.proofs.MarkLaws.{push_next, pushes_then, pushes_else}
use Rattle.chip.proofs.Sizes.{block_low}
use borrow.Author.Rules.{rules}
use Rattle.plan.proofs.places.put_free.Goals as goal
use Rattle.plan.proofs.places.put_free.Goals.{then-is_free_at, else-is_free_at}

pub overflow_mul-first : goal.overflow_mul-first
overflow_mul-first c =
    let low : c.args.at * c.args.geometry.pages + c.args.geometry.pages ≤ most_pages = block_low c.args.geometry c.requires.3 c.args.at c.requires.1 in
    search (low, rules)

pub overflow_add-end : goal.overflow_add-end
overflow_add-end c =
    let low : c.args.at * c.args.geometry.pages + c.args.geometry.pages ≤ most_pages = block_low c.args.geometry c.requires.3 c.args.at c.requires.1 in
    search (low, rules)

pub loop-p-init : goal.loop-p-init
loop-p-init c = (
  omega arith,
  omega arith,
  ap (λ (k : ℕ). filter (free_at (pages_of c.args.geometry c.args.image.now)) (count_from (c.args.at * c.args.geometry.pages) k)) (add-sub_cancel_left (c.args.at * c.args.geometry.pages) c.args.geometry.pages)
      ∙ sym (free_pages_is c.args.geometry (pages_of c.args.geometry c.args.image.now) c.args.at),
)

pub returns-then-n-most : goal.returns-then-n-most
returns-then-n-most c = (
  free_enough (free_at (pages_of c.args.geometry c.args.image.now)) c.args.most c.loop-p.p (c.args.at * c.args.geometry.pages + c.args.geometry.pages) c.loop-p.n c.loop-p.places _ (omega arith) c.loop-p.invariant.2 (omega arith),
  omega arith,
  omega arith,
  c.loop-p.auto.places,
)

pub loop-p-preserved : goal.loop-p-preserved
loop-p-preserved c =
    let pushes : Pushes (free_at (pages_of c.args.geometry c.args.image.now) c.loop-p.p) c.loop-p.p c.loop-p.places c.if-is_free_at.places c.loop-p.n c.if-is_free_at.n =
    elim c.if-is_free_at.branch [
      | then-is_free_at w ↦ pushes_then (omega arith) (sym c.is_free_at.ensures ∙ w.if-is_free_at.true) w.places-is w.n-is
      | else-is_free_at w ↦ pushes_else (sym c.is_free_at.ensures ∙ w.if-is_free_at.false) w.places-is w.n-is
    ] in (
      omega (arith, pushes.high),
      omega (arith, pushes.high, c.if-n-most.false),
      push_next (free_at (pages_of c.args.geometry c.args.image.now)) c.loop-p.p (c.args.at * c.args.geometry.pages + c.args.geometry.pages) c.loop-p.n c.if-is_free_at.n c.loop-p.places _ _ c.loop-p-test.true c.loop-p.invariant.2
          pushes.list,
    )

pub returns : goal.returns
returns c = (
  free_over (free_at (pages_of c.args.geometry c.args.image.now)) c.args.most c.loop-p.p (c.args.at * c.args.geometry.pages + c.args.geometry.pages) c.loop-p.n c.loop-p.places _ (omega arith) c.loop-p.invariant.2 c.loop-p-test.false c.loop-p.invariant.1,
  omega arith,
  c.loop-p.invariant.1,
  c.loop-p.auto.places,
)
