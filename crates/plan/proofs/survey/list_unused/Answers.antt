use mathlib.Core.Path.{ap, refl, ◌∙◌}
use native.Mathlib.Omega.{arith}
use mathlib.Core.Bool.{not}
use Prim.Native.Nat.{◌+◌}
use mathlib.Core.List.{[], ◌∷◌}
use borrow.Author.Rules.{rules}
use lib.ListN.{length-append, set}
use Rattle.lists.specs.Lists.{filter}
use Rattle.plan.specs.SurveyCode.{is_unmarked}
use Rattle.plan.proofs.MarkLaws.{pushes_then, pushes_else}
use Rattle.plan.proofs.SurveyLaws.{ring_item, ring_end, keep_item}
use Rattle.plan.proofs.survey.list_unused.Goals as goal

pub bounds-marks-b : goal.bounds-marks-b
bounds-marks-b c =
    let item = ring_item c.args.blocks c.args.head c.into_iter-b-iterator.ensures.into_iter_gives c.chain-b-items.ensures.first c.chain-b-items.ensures.second c.chain-b-items.ensures.first_done c.chain-b-items.ensures.second_done c.requires.2 c.loop-b.yielded c.loop-b.b-iterator c.next.new.self c.next.result c.loop-b.yielded_by c.next.ensures.steps c.in-Some.is in
    search (item.0, item.1, rules)

pub overflow_cast-ring : goal.overflow_cast-ring
overflow_cast-ring c =
    let item = ring_item c.args.blocks c.args.head c.into_iter-b-iterator.ensures.into_iter_gives c.chain-b-items.ensures.first c.chain-b-items.ensures.second c.chain-b-items.ensures.first_done c.chain-b-items.ensures.second_done c.requires.2 c.loop-b.yielded c.loop-b.b-iterator c.next.new.self c.next.result c.loop-b.yielded_by c.next.ensures.steps c.in-Some.is in
    search (item.0, item.1, rules)

pub offset_bounds-ring-n : goal.offset_bounds-ring-n
offset_bounds-ring-n c =
    let item = ring_item c.args.blocks c.args.head c.into_iter-b-iterator.ensures.into_iter_gives c.chain-b-items.ensures.first c.chain-b-items.ensures.second c.chain-b-items.ensures.first_done c.chain-b-items.ensures.second_done c.requires.2 c.loop-b.yielded c.loop-b.b-iterator c.next.new.self c.next.result c.loop-b.yielded_by c.next.ensures.steps c.in-Some.is in
    search (item.0, item.1, rules)

pub bounds-ring-n : goal.bounds-ring-n
bounds-ring-n c =
    let item = ring_item c.args.blocks c.args.head c.into_iter-b-iterator.ensures.into_iter_gives c.chain-b-items.ensures.first c.chain-b-items.ensures.second c.chain-b-items.ensures.first_done c.chain-b-items.ensures.second_done c.requires.2 c.loop-b.yielded c.loop-b.b-iterator c.next.new.self c.next.result c.loop-b.yielded_by c.next.ensures.steps c.in-Some.is in
    search (item.0, item.1, rules)

pub overflow_add-n : goal.overflow_add-n
overflow_add-n c =
    let item = ring_item c.args.blocks c.args.head c.into_iter-b-iterator.ensures.into_iter_gives c.chain-b-items.ensures.first c.chain-b-items.ensures.second c.chain-b-items.ensures.first_done c.chain-b-items.ensures.second_done c.requires.2 c.loop-b.yielded c.loop-b.b-iterator c.next.new.self c.next.result c.loop-b.yielded_by c.next.ensures.steps c.in-Some.is in
    search (item.0, item.1, rules)

pub loop-b-preserved-then-not-marks-b : goal.loop-b-preserved-then-not-marks-b
loop-b-preserved-then-not-marks-b c =
    let item = ring_item c.args.blocks c.args.head c.into_iter-b-iterator.ensures.into_iter_gives c.chain-b-items.ensures.first c.chain-b-items.ensures.second c.chain-b-items.ensures.first_done c.chain-b-items.ensures.second_done c.requires.2 c.loop-b.yielded c.loop-b.b-iterator c.next.new.self c.next.result c.loop-b.yielded_by c.next.ensures.steps c.in-Some.is in (
      omega (arith, length-append c.loop-b.yielded (c.in-Some.b ∷ [])),
      keep_item (is_unmarked c.args.marks.now) c.in-Some.b c.loop-b.n (c.loop-b.n + 1) c.loop-b.yielded c.loop-b.ring (set c.loop-b.ring c.loop-b.n c.in-Some.b) c.loop-b.invariant.1
          (pushes_then (omega (arith, item.1)) (ap not c.if-not-marks-b.true) refl refl),
    )

pub loop-b-preserved : goal.loop-b-preserved
loop-b-preserved c = (
  omega (arith, length-append c.loop-b.yielded (c.in-Some.b ∷ [])),
  keep_item (is_unmarked c.args.marks.now) c.in-Some.b c.loop-b.n c.loop-b.n c.loop-b.yielded c.loop-b.ring c.loop-b.ring c.loop-b.invariant.1 (pushes_else (ap not c.if-not-marks-b.false) refl refl),
)

pub returns : goal.returns
returns c =
    let all = ring_end c.args.blocks c.args.head c.into_iter-b-iterator.ensures.into_iter_gives c.chain-b-items.ensures.first c.chain-b-items.ensures.second c.chain-b-items.ensures.first_done c.chain-b-items.ensures.second_done c.requires.2 c.loop-b.yielded c.loop-b.b-iterator c.next.new.self c.next.result c.loop-b.yielded_by c.next.ensures.steps c.in-None.is in
    (c.loop-b.invariant.1 ∙ ap (filter (is_unmarked c.args.marks.now)) all.0, omega (arith, all.1), search rules)
