use mathlib.Core.Path.{◌≡◌, ap, sym, ◌∙◌}
use mathlib.Core.Bool.{cond}
use lib.Dec.{eqb}
use Rattle.std.specs.Prelude.{Some}
use borrow.Author.Tests.{eq-eqb, ne_eqb, not-true, not-false}
use Rattle.plan.specs.SurveyCode.{mark}
use Rattle.plan.proofs.LastLaws.{look_dead, look_live}
use Rattle.plan.proofs.survey.look.Goals as goal
use Rattle.plan.proofs.survey.look.Goals.{then-seen-commit, else-seen-commit}

pub returns-then-not-is_live : goal.returns-then-not-is_live
returns-then-not-is_live c = look_dead c.args.geometry c.args.commit c.args.at c.args.page.now c.args.z c.args.marks.now (sym c.is_live.ensures ∙ not-true _ c.if-not-is_live.true-raw)

pub returns : goal.returns
returns c =
    let marks : c.if-seen-commit.marks ≡ cond (eqb c.read_word.result c.args.commit) (mark c.args.geometry c.args.marks.now c.args.at) c.args.marks.now =
    elim c.if-seen-commit.branch [
      | then-seen-commit w ↦ w.marks-is ∙ w.mark_page.ensures ∙ rw (eq-eqb c.read_word.result c.args.commit w.if-seen-commit.true)
      | else-seen-commit w ↦ w.marks-is ∙ rw (ne_eqb c.read_word.result c.args.commit w.if-seen-commit.false)
    ] in
    look_live c.args.geometry c.args.commit c.args.at c.args.page.now c.args.z c.args.marks.now c.requires.2 _ _ c.read_word.result c.from.result
    (sym c.is_live.ensures ∙ not-false _ c.if-not-is_live.false-raw) c.read_word.ensures c.from.ensures marks (ap Some c.later_of.ensures)
