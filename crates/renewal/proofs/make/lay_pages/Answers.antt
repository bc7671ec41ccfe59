use mathlib.Core.Path.{refl, sym, ap, ◌∙◌, subst}
use Prim.Native.Nat.{ℕ}
use native.Mathlib.Omega.{arith}
use lib.ListN.{take}
use Rattle.lists.specs.Lists.{flat}
use Rattle.journal.specs.Plan.{pages_in}
use Rattle.plan.specs.PlacesCode.{Spare}
use borrow.Author.Rules.{rules}
use Rattle.renewal.proofs.make.lay_pages.Goals as goal

pub put_rest-requires : goal.put_rest-requires
put_rest-requires c = (
  search rules,
  search rules,
  c.requires.0,
  omega (arith, c.needed-width.ensures, c.requires.0),
  omega arith,
  c.requires.1,
  rw c.needed-width.ensures (omega (arith, c.requires.2)),
  subst (λ (w : ℕ). Spare c.args.blocks c.args.blocks (take w c.args.ring.now)) (sym c.needed-width.ensures) c.requires.3,
  c.requires.4,
)

pub returns : goal.returns
returns c = record {
  pages = refl;
  places = c.put_rest.ensures.0 ∙ ap (λ (w : ℕ). take c.args.pages (flat (pages_in c.args.geometry) (take w c.args.ring.now))) c.needed-width.ensures;
  none = refl;
}
