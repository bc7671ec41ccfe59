use Rattle.std.proofs.Common.{◌≡◌, ℕ, ◌/◌, ◌%◌, ◌<◌, take, sym, ap, ◌∙◌, subst, arith}
use Rattle.lists.specs.Lists.{All}
use Rattle.chip.specs.Geometry.{page_size}
use Rattle.execution.proofs.WriteLaws.{writes_more, writes_none}
use Rattle.execution.proofs.write.write_pages.Goals as goal

pub loop-index-init : goal.loop-index-init
loop-index-init c = writes_none c.args.progress _ _ _

pub write_page-reached-requires : goal.write_page-reached-requires
write_page-reached-requires c = let s = page_size c.args.pages.geometry in (
  ap (λ (n : ℕ). n % s) c.loop-index.invariant.size ∙ c.requires.0,
  c.requires.1,
  c.requires.2,
  c.loop-index-test.true,
  c.requires.3,
  c.requires.4,
  subst (λ (n : ℕ). All (λ (p : ℕ). p < n / s) (take c.args.pages.total c.args.places.now)) (sym c.loop-index.invariant.size) c.requires.5,
  c.requires.6,
)

pub loop-index-preserved : goal.loop-index-preserved
loop-index-preserved c = writes_more c.args.pages c.args.targets.now c.args.sizes.now c.args.units.now c.args.places.now c.args.torn.now c.loop-index.index c.loop-index.invariant c.write_page-reached.ensures

pub returns : goal.returns
returns c = let z : c.loop-index.index ≡ c.args.pages.total = omega arith in
    (c.told-places, rw z at c.loop-index.invariant)
