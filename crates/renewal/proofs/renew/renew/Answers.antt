use mathlib.Core.Path.{◌≡◌, ◌∙◌}
use mathlib.Core.List.{List}
use Prim.Native.Nat.{ℕ, ◌<◌}
use native.Mathlib.Omega.{arith}
use lib.ListN.{take}
use Rattle.lists.specs.Lists.{All, none}
use Rattle.chip.proofs.Sizes.{blocks_whole}
use Rattle.renewal.proofs.RenewLaws.{renewed}
use Rattle.renewal.proofs.renew.renew.Goals as goal

-- nothing is erased
no_erase : (B n : ℕ) (bs : List ℕ) → n ≡ 0 → All (λ (b : ℕ). b < B) (take n bs)
no_erase B n bs e = rw e none

pub make-plan-requires : goal.make-plan-requires
make-plan-requires c = (c.requires.0, c.requires.3, c.requires.4)

pub retire-marked-requires : goal.retire-marked-requires
retire-marked-requires c = (blocks_whole c.args.ground.geometry _ c.args.ground.blocks c.requires.0, c.requires.1, c.requires.3)

pub execute-requires : goal.execute-requires
execute-requires c = (c.retire-marked.ensures.size ∙ c.requires.0, c.requires.4.most, c.requires.2, c.make-plan.ensures.few, omega (arith, c.make-plan.ensures.none), c.requires.1, c.make-plan.ensures.on, no_erase _ _ _ c.make-plan.ensures.none, c.requires.3)

pub returns : goal.returns
returns c = renewed c.args.ground.geometry c.args.ground.blocks _ c.args.ground.commit c.args.ground.void c.args.torn.now c.args.progress c.retire-marked.result c.execute.result c.args.image.now _ _ _ _ _ _ _ _ _ _
    c.make-plan.result c.make-plan.ensures c.retire-marked.ensures c.execute.ensures
