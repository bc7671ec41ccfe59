use mathlib.Core.Path.{sym, ◌∙◌}
use borrow.Author.Tests.{not-true, not-false}
use Rattle.pages.proofs.HeaderLaws.{header_part}
use Rattle.pages.proofs.ShowLaws.{shown_dead, shown_breaks, shown_obeys}
use borrow.Author.Rules.{rules}
use Rattle.pages.proofs.show.shown_units.Goals as goal

pub returns-then-not-is_live : goal.returns-then-not-is_live
returns-then-not-is_live c = (sym (shown_dead c.args.geometry c.args.page.now (sym c.is_live.ensures ∙ not-true _ c.if-not-is_live.true-raw)), search rules)

pub returns-in-Some : goal.returns-in-Some
returns-in-Some c = let o = shown_obeys c.args.geometry c.args.page.now c.in-Some.head (sym c.is_live.ensures ∙ not-false _ c.if-not-is_live.false-raw) (sym c.in-Some.is ∙ header_part c.args.geometry c.args.page.now _ c.read_header.ensures) in
    (sym o.0, o.1)

pub returns-in-None : goal.returns-in-None
returns-in-None c = (sym (shown_breaks c.args.geometry c.args.page.now (sym c.is_live.ensures ∙ not-false _ c.if-not-is_live.false-raw) (sym c.in-None.is ∙ header_part c.args.geometry c.args.page.now _ c.read_header.ensures)), search rules)
