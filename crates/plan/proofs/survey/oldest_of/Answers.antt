use mathlib.Core.Path.{ap, sym, ◌∙◌}
use borrow.Author.Rules.{rules}
use Rattle.lists.specs.Lists.{filter}
use Rattle.plan.specs.SurveyCode.{first_of, is_held}
use Rattle.plan.proofs.SurveyLaws.{ring_item, ring_here, ring_end, pass_item}
use Rattle.plan.proofs.survey.oldest_of.Goals as goal

pub bounds-marks-b : goal.bounds-marks-b
bounds-marks-b c =
    let item = ring_item c.args.blocks c.args.head c.into_iter-b-iterator.ensures.into_iter_gives c.chain-b-items.ensures.first c.chain-b-items.ensures.second c.chain-b-items.ensures.first_done c.chain-b-items.ensures.second_done c.requires.1 c.loop-b.yielded c.loop-b.b-iterator c.next.new.self c.next.result c.loop-b.yielded_by c.next.ensures.steps c.in-Some.is in
    search (item.0, rules)

pub returns-then-marks-b : goal.returns-then-marks-b
returns-then-marks-b c = ring_here c.args.blocks c.args.head c.into_iter-b-iterator.ensures.into_iter_gives c.chain-b-items.ensures.first c.chain-b-items.ensures.second c.chain-b-items.ensures.first_done c.chain-b-items.ensures.second_done c.requires.1 c.loop-b.yielded c.loop-b.b-iterator c.next.new.self c.next.result c.loop-b.yielded_by c.next.ensures.steps c.in-Some.is (is_held c.args.marks.now) c.loop-b.invariant c.if-marks-b.true

pub loop-b-preserved : goal.loop-b-preserved
loop-b-preserved c = pass_item (is_held c.args.marks.now) c.in-Some.b c.loop-b.yielded c.loop-b.invariant c.if-marks-b.false

pub returns : goal.returns
returns c =
    let all = ring_end c.args.blocks c.args.head c.into_iter-b-iterator.ensures.into_iter_gives c.chain-b-items.ensures.first c.chain-b-items.ensures.second c.chain-b-items.ensures.first_done c.chain-b-items.ensures.second_done c.requires.1 c.loop-b.yielded c.loop-b.b-iterator c.next.new.self c.next.result c.loop-b.yielded_by c.next.ensures.steps c.in-None.is in
    ap first_of (sym c.loop-b.invariant ∙ ap (filter (is_held c.args.marks.now)) all.0)
