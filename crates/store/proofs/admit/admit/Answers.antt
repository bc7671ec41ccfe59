use mathlib.Core.Path.{sym, ◌∙◌}
use borrow.Author.Tests.{not-true, not-false}
use Rattle.chip.specs.Geometry.{geometry_of}
use Rattle.store.proofs.AdmitLaws.{admit_off, admit_fails, admit_holds}
use Rattle.store.proofs.admit.admit.Goals as goal

pub returns-then-not-numbers : goal.returns-then-not-numbers
returns-then-not-numbers c = admit_off (geometry_of c.args.numbers.nand) c.args.numbers.on c.args.numbers.blocks c.args.len (not-true _ c.if-not-numbers.true)

pub blocks_of-requires : goal.blocks_of-requires
blocks_of-requires c = c.geometry_of-geometry.ensures.1

pub returns-then-eq : goal.returns-then-eq
returns-then-eq c =
    admit_holds (geometry_of c.args.numbers.nand) c.args.numbers.on c.args.numbers.blocks c.args.len (not-false _ c.if-not-numbers.false)
    c.blocks_of.result (rw c.geometry_of-geometry.ensures.0 at c.blocks_of.ensures) (sym c.eq.ensures ∙ c.if-eq.true)

pub returns-else-eq : goal.returns-else-eq
returns-else-eq c =
    admit_fails (geometry_of c.args.numbers.nand) c.args.numbers.on c.args.numbers.blocks c.args.len (not-false _ c.if-not-numbers.false)
    c.blocks_of.result (rw c.geometry_of-geometry.ensures.0 at c.blocks_of.ensures) (sym c.eq.ensures ∙ c.if-eq.false)
