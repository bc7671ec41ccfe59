use mathlib.Core.Path.{◌≡◌}
use mathlib.Core.List.{[]}
use Rattle.lists.specs.Lists.{filter}
use Rattle.plan.specs.SurveyCode.{is_held}
use Rattle.plan.proofs.survey.oldest_of.Given as goal

abbrev pub invariant-loop-b : goal.invariant-loop-b
invariant-loop-b l = filter (is_held l.marks) l.yielded ≡ []
