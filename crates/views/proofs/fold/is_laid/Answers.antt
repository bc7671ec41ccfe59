use mathlib.Core.Path.{◌≡◌, refl, sym, ◌∙◌, subst}
use mathlib.Core.Bool.{true}
use Prim.Native.Nat.{ℕ}
use Rattle.lists.proofs.Tests.{clash}
use borrow.Author.Tests.{eqb-true}
use Rattle.pages.specs.Units.{is_reset_value}
use Rattle.views.proofs.FoldLaws.{laid_delete, laid_insert, laid_reset}
use Rattle.views.proofs.fold.is_laid.Goals as goal

pub returns-in-1 : goal.returns-in-1
returns-in-1 c = λ e. laid_insert c.args.bytes.now c.in-1.is

pub returns-in-2 : goal.returns-in-2
returns-in-2 c = λ e. laid_delete c.args.bytes.now c.in-2.is (sym c.read_word.ensures ∙ eqb-true c.read_word.result 0 e)

pub returns-then-read_word-eq0 : goal.returns-then-read_word-eq0
returns-then-read_word-eq0 c = λ e. laid_reset c.args.bytes.now c.in-3.is (sym c.read_word-in-3.ensures ∙ c.if-read_word-eq0.true)
    (subst (λ (x : ℕ). is_reset_value x ≡ true) c.read_word-then-read_word-eq0.ensures (sym c.is_reset_value.ensures ∙ e))

pub returns-else-read_word-eq0 : goal.returns-else-read_word-eq0
returns-else-read_word-eq0 c = λ e. absurd (c.if-read_word-eq0.false (eqb-true c.read_word-in-3.result 0 e))

pub returns-in_default : goal.returns-in_default
returns-in_default c = λ e. clash e refl
