use Rattle.std.proofs.Common.{true, false, length, sym, ap, ◌∙◌, arith, length-append}
use Rattle.chip.proofs.PageLaws.{free_first, left_over}
use Rattle.chip.proofs.page.is_free.Goals as goal

pub returns-then-not-all_free : goal.returns-then-not-all_free
returns-then-not-all_free c =
    sym (sym c.loop-four.invariant.free ∙ free_first _ _ _ false c.in-Some.ensures.steps.1.0 (sym c.all_free.ensures ∙ c.if-not-all_free.true))

pub loop-four-preserved : goal.loop-four-preserved
loop-four-preserved c = let s = c.in-Some.ensures.steps.1 in
    let l = ap length s.0 ∙ length-append c.in-Some.four.now _ in record {
      four = c.in-Some.ensures.steps.0 ∙ c.loop-four.invariant.four;
      within = omega arith;
      rest = left_over _ _ _ _ s.0 c.loop-four.invariant.within c.loop-four.invariant.rest;
      whole = omega arith;
      free = sym (free_first _ _ _ true s.0 (sym c.all_free.ensures ∙ c.if-not-all_free.false)) ∙ c.loop-four.invariant.free;
    }
