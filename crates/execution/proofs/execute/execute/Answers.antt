use Rattle.std.proofs.Common.{ℕ, ◌*◌, ◌<◌, ◌≤◌, length, take, sym, ◌∙◌, subst, arith}
use Rattle.lists.specs.Lists.{All}
use Rattle.chip.proofs.Sizes.{blocks_pages, blocks_whole}
use Rattle.execution.proofs.ExecuteLaws.{executes}
use Rattle.execution.proofs.execute.execute.Goals as goal

pub write_pages-requires : goal.write_pages-requires
write_pages-requires c = let same = c.erase_blocks-cleared.ensures.size ∙ c.requires.0 in (
  blocks_whole c.args.commit.geometry _ c.args.commit.blocks same,
  omega (arith, c.requires.1),
  c.requires.3,
  omega (arith, c.requires.2),
  c.requires.5,
  subst (λ (n : ℕ). All (λ (p : ℕ). p < n) (take c.args.plan.pages c.args.plan.places)) (sym (blocks_pages c.args.commit.geometry c.requires.8 _ c.args.commit.blocks same)) c.requires.6,
  c.requires.8,
)

pub returns : goal.returns
returns c = let few : c.args.plan.pages ≤ length c.args.plan.places = omega (arith, c.requires.3, c.write_pages.ensures.0) in
    executes c.args.commit.geometry (8 * c.args.commit.blocks) c.args.commit.number c.args.plan c.args.targets.now c.args.sizes.now c.args.units.now c.args.torn.now c.args.progress c.erase_blocks-cleared.result
    c.write_pages.result _ _ _ _ _ _ _ few c.erase_blocks-cleared.ensures c.write_pages.ensures.1
