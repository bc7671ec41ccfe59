use mathlib.Core.Path.{sym, ap, ◌∙◌}
use Prim.Native.Nat.{◌<◌}
use native.Mathlib.Omega.{arith}
use lib.ListN.{length}
use lib.Seq.{length-take-le}
use Rattle.chip.specs.Chip.{pages_of}
use Rattle.plan.specs.SurveyCode.{first_of}
use Rattle.pages.specs.Steps.{live_from}
use Rattle.plan.proofs.SurveyLaws.{marked_used, oldest_on, survey_on, unmarked_unused}
use borrow.Author.Rules.{rules}
use Rattle.plan.proofs.survey.survey.Goals as goal

pub list_unused-unused-requires : goal.list_unused-unused-requires
list_unused-unused-requires c = let on : c.mark_used-head.result < c.args.blocks = rw c.mark_used-head.ensures.0 (survey_on c.args.geometry c.requires.4 c.args.blocks c.args.image.now c.requires.0 c.requires.1) in
    (search rules, search rules, on, search rules)

pub oldest_of-oldest-requires : goal.oldest_of-oldest-requires
oldest_of-oldest-requires c = let on : c.mark_used-head.result < c.args.blocks = rw c.mark_used-head.ensures.0 (survey_on c.args.geometry c.requires.4 c.args.blocks c.args.image.now c.requires.0 c.requires.1) in
    (search rules, on, c.requires.2)

pub returns : goal.returns
returns c =
    let ps = pages_of c.args.geometry c.args.image.now in
    let on : c.mark_used-head.result < c.args.blocks = rw c.mark_used-head.ensures.0 (survey_on c.args.geometry c.requires.4 c.args.blocks c.args.image.now c.requires.0 c.requires.1) in
    let list = c.list_unused-unused.ensures.0 ∙ unmarked_unused c.args.geometry c.args.blocks c.args.limit c.args.lens.now c.args.slots.now c.args.commit ps _ c.mark_used-head.result on c.requires.2 c.mark_used-head.ensures.1 in
    let oldest = c.oldest_of-oldest.ensures
    ∙ ap first_of (marked_used c.args.geometry c.args.blocks c.args.limit c.args.lens.now c.args.slots.now c.args.commit ps _ c.mark_used-head.result on c.requires.2 c.mark_used-head.ensures.1) in
    record {
      head = c.mark_used-head.ensures.0;
      on = on;
      list = list;
      size = sym (ap length list) ∙ length-take-le c.list_unused-unused.result _ (omega (arith, c.list_unused-unused.ensures.1, c.list_unused-unused.ensures.2, c.requires.2));
      few = c.list_unused-unused.ensures.1;
      oldest = oldest;
      below = λ b e. oldest_on c.args.geometry c.args.blocks c.args.limit c.args.lens.now c.args.slots.now c.args.commit (live_from c.args.geometry 0 ps) c.mark_used-head.result on b (sym oldest ∙ e);
    }
