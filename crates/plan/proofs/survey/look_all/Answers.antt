use mathlib.Core.Path.{◌≡◌, refl, sym, ap, ◌∙◌}
use mathlib.Core.List.{List}
use Prim.Native.Nat.{ℕ, suc, ◌+◌, ◌-◌, ◌*◌, ◌/◌, ◌<◌, ◌≤◌}
use native.Mathlib.Omega.{arith}
use lib.ListN.{length}
use Rattle.chip.specs.Geometry.{page_size}
use Rattle.chip.specs.Chip.{pages_of}
use Rattle.chip.proofs.ImageLaws.{length_pages}
use Rattle.chip.proofs.Sizes.{page_end}
use Rattle.pages.specs.Steps.{Live, ordered}
use Rattle.plan.specs.SurveyCode.{last_in, mark_held}
use Rattle.plan.proofs.LastLaws.{live_at, look_start, turn_newest, turn_marks}
use borrow.Author.Rules.{rules}
use Rattle.plan.proofs.survey.look_all.Goals as goal

pub loop-at-init : goal.loop-at-init
loop-at-init c = let none = sym (look_start c.args.geometry (pages_of c.args.geometry c.args.image.now) (length c.args.image.now / page_size c.args.geometry) (omega (arith, length_pages c.args.geometry c.args.image.now))) in
    (omega arith, refl, ap (λ (l : List Live). last_in (ordered l)) none, ap (λ (l : List Live). mark_held c.args.geometry c.args.commit l c.args.marks.now) none)

pub overflow_mul-a : goal.overflow_mul-a
overflow_mul-a c =
    let ends : (c.loop-at.at - 1) * page_size c.args.geometry + page_size c.args.geometry ≤ length c.args.image.now = page_end c.args.geometry (length c.args.image.now) (c.loop-at.at - 1) (omega (arith, c.loop-at-test, c.loop-at.invariant.0)) in
    omega (arith, ends)

pub overflow_add-a : goal.overflow_add-a
overflow_add-a c =
    let ends : (c.loop-at.at - 1) * page_size c.args.geometry + page_size c.args.geometry ≤ length c.args.image.now = page_end c.args.geometry (length c.args.image.now) (c.loop-at.at - 1) (omega (arith, c.loop-at-test, c.loop-at.invariant.0)) in
    omega (arith, ends)

pub slice_bounds-look-end : goal.slice_bounds-look-end
slice_bounds-look-end c =
    let ends : (c.loop-at.at - 1) * page_size c.args.geometry + page_size c.args.geometry ≤ length c.args.image.now = page_end c.args.geometry (length c.args.image.now) (c.loop-at.at - 1) (omega (arith, c.loop-at-test, c.loop-at.invariant.0)) in
    omega (arith, ends)

pub loop-at-preserved : goal.loop-at-preserved
loop-at-preserved c = let n = c.loop-at.at - 1 in
    let e : c.loop-at.at ≡ suc n = omega arith in
    let h : n < length c.args.image.now / page_size c.args.geometry = omega arith in (
      omega arith,
      search rules,
      turn_newest c.args.geometry c.args.commit c.args.image.now c.args.marks.now n c.loop-at.at e h c.loop-at.z c.loop-at.marks c.loop-at.invariant.2 c.loop-at.invariant.3 c.look-z.result _ c.look-z.ensures,
      turn_marks c.args.geometry c.args.commit c.args.image.now c.args.marks.now n c.loop-at.at e h c.loop-at.z c.loop-at.marks c.loop-at.invariant.2 c.loop-at.invariant.3 c.look-z.result _ c.look-z.ensures,
    )

pub returns : goal.returns
returns c = let e : c.loop-at.at ≡ 0 = omega arith in
    record {
      newest = c.loop-at.invariant.2 ∙ ap (λ (n : ℕ). last_in (ordered (live_at c.args.geometry (pages_of c.args.geometry c.args.image.now) n))) e;
      marks = c.loop-at.invariant.3 ∙ ap (λ (n : ℕ). mark_held c.args.geometry c.args.commit (live_at c.args.geometry (pages_of c.args.geometry c.args.image.now) n) c.args.marks.now) e;
    }
