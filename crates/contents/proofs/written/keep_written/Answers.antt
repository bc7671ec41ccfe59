use native.Mathlib.Omega.{arith}
use Rattle.contents.specs.ContentsCode.{own_in}
use Rattle.contents.proofs.WrittenLaws.{writing_start, writing_next, writing_done}
use borrow.Author.Rules.{rules}
use Rattle.contents.proofs.written.keep_written.Goals as goal

pub loop-n-init : goal.loop-n-init
loop-n-init c = writing_start c.args.limit (λ n. own_in c.args.limit n c.args.count c.args.buffer.now) c.args.targets.now c.args.forms.now c.args.wholes.now c.args.parts.now c.args.units.now c.args.sizes.now (search rules) (search rules)

pub keep_form-requires : goal.keep_form-requires
keep_form-requires c = (search rules, omega arith, search rules, search rules, search rules, search rules, c.loop-n.invariant.numbers, c.loop-n.invariant.size)

pub loop-n-preserved : goal.loop-n-preserved
loop-n-preserved c = writing_next c.args.limit (λ n. own_in c.args.limit n c.args.count c.args.buffer.now) c.args.targets.now c.args.forms.now c.args.wholes.now c.args.parts.now c.args.units.now c.loop-n.n c.loop-n.sizes _ c.loop-n.units _ (omega arith) c.loop-n-test.true c.keep_form.ensures c.loop-n.invariant

pub returns : goal.returns
returns c = writing_done c.args.limit (λ n. own_in c.args.limit n c.args.count c.args.buffer.now) c.args.targets.now c.args.forms.now c.args.wholes.now c.args.parts.now c.args.units.now c.loop-n.n c.loop-n.sizes c.loop-n.units c.loop-n-test.false c.loop-n.invariant
