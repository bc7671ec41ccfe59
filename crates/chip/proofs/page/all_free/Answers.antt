use Rattle.std.proofs.Common.{ℕ, eqb, ◌∙◌, rules}
use borrow.Author.Tests.{tests}
use Rattle.std.proofs.lemmas.Iterator.{YieldsList-from_slice}
use Rattle.std.proofs.lemmas.Iterator.Search.{all_from_yields_List}
use Rattle.chip.proofs.PageLaws.{list_all_same}
use Rattle.chip.specs.Page.{is_free}
use Rattle.chip.proofs.page.all_free.Goals as goal

pub returns : goal.returns
unfolding is_free
returns c =
    all_from_yields_List (λ (b : ℕ). eqb b 255) _ _ _ c.all.ensures.ran (YieldsList-from_slice c.args.bytes.now cc) (λ x b q k. search (rules, tests))
    ∙ list_all_same (λ (b : ℕ). eqb b 255) c.args.bytes.now
