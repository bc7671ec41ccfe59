use Rattle.std.proofs.Common.{arith, eq-eqb, ne_eqb}
use Rattle.chip.specs.declared.page.Mark.TheVariants.{Valid, Obsolete}
use Rattle.chip.proofs.PageLaws.{set_read}
use Rattle.chip.proofs.page.is_live.Goals as goal

pub returns-then-page-area-eq0 : goal.returns-then-page-area-eq0
returns-then-page-area-eq0 c = let v = set_read c.args.geometry Valid c.args.page.now (omega (arith, c.requires)) in
    let o = set_read c.args.geometry Obsolete c.args.page.now (omega (arith, c.requires)) in
    rw (v, o, eq-eqb _ _ c.if-page-area-eq0.true)

pub returns-else-page-area-eq0 : goal.returns-else-page-area-eq0
returns-else-page-area-eq0 c = let v = set_read c.args.geometry Valid c.args.page.now (omega (arith, c.requires)) in
    rw (v, ne_eqb _ _ c.if-page-area-eq0.false)
