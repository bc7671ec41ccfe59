use mathlib.Core.Path.{◌∙◌}
use native.Mathlib.Omega.{arith}
use Rattle.lists.proofs.Tests.{cases, clash}
use Rattle.pages.proofs.HeaderLaws.{kept, broken, rest_free}
use Rattle.pages.proofs.header.read_header.Goals as goal

pub returns-then-head-eq0 : goal.returns-then-head-eq0
returns-then-head-eq0 c = broken c.args.geometry c.read_head-head.result c.args.page.now c.read_head-head.ensures (λ o. omega (arith, c.then-head-eq0.either))

pub returns : goal.returns
returns c = let rest = rest_free c.args.page.now _ c.is_free.result c.is_free.ensures in
    c.then_some.ensures ∙ cases c.is_free.result
    (λ t. rw t (kept c.args.geometry c.read_head-head.result c.args.page.now c.read_head-head.ensures
    (record {
      commit = omega arith;
      count = omega arith;
      index = omega arith;
      some = omega arith;
      few = omega arith;
      rest = rest ∙ t;
    })))
    (λ t. rw t (broken c.args.geometry c.read_head-head.result c.args.page.now c.read_head-head.ensures (λ o. clash o.rest (rest ∙ t))))
