use native.Mathlib.Omega.{arith}
use Rattle.contents.proofs.WrittenLaws.{form_none, form_anew, form_own}
use Rattle.contents.proofs.written.keep_form.Goals as goal

pub returns-then-targets-n-eq65535 : goal.returns-then-targets-n-eq65535
returns-then-targets-n-eq65535 c = form_none c.args.number _ c.args.targets.now c.args.forms.now c.args.wholes.now c.args.parts.now c.args.sizes.now c.args.units.now (omega (arith, c.requires.1, c.requires.2)) c.if-targets-n-eq65535.true

pub returns-then-forms-n-eq1 : goal.returns-then-forms-n-eq1
returns-then-forms-n-eq1 c = form_anew c.args.number _ c.args.targets.now c.args.forms.now c.args.wholes.now c.args.parts.now c.args.sizes.now c.args.units.now (omega (arith, c.requires.1, c.requires.2)) c.if-targets-n-eq65535.false c.if-forms-n-eq1.true

pub returns : goal.returns
returns c = form_own c.args.number _ c.args.targets.now c.args.forms.now c.args.wholes.now c.args.parts.now c.args.sizes.now c.args.units.now (omega (arith, c.requires.1, c.requires.2)) c.if-targets-n-eq65535.false c.if-forms-n-eq1.false c.keep_own.result _ c.keep_own.ensures
