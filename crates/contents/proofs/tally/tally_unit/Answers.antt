use mathlib.Core.Path.{sym, ◌∙◌}
use native.Mathlib.Omega.{arith}
use Rattle.pages.proofs.UnitLaws.{told}
use Rattle.contents.proofs.tally.tally_unit.Goals as goal

pub bounds-parts-n : goal.bounds-parts-n
bounds-parts-n c = omega (arith, (told c.args.limit c.args.bytes.now _ (sym c.decode_unit-d.ensures ∙ c.in-Some.is)).below)

pub bounds-parts-n-2 : goal.bounds-parts-n-2
bounds-parts-n-2 c = omega (arith, (told c.args.limit c.args.bytes.now _ (sym c.decode_unit-d.ensures ∙ c.in-Some.is)).below)

pub bounds-resets-n : goal.bounds-resets-n
bounds-resets-n c = omega (arith, (told c.args.limit c.args.bytes.now _ (sym c.decode_unit-d.ensures ∙ c.in-Some.is)).below)
