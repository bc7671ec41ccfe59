use mathlib.Core.Path.{refl}
use Prim.Native.Nat.{ℕ, ◌*◌, ◌≤◌}
use native.Mathlib.Omega.{arith}
use Rattle.lists.proofs.Alls.{All-map}
use Rattle.commits.proofs.ExecuteLaws.{executes_none, executes_some, pages_most_lem, places_on}
use Rattle.commits.proofs.execute.execute.Goals as goal

limit-few : {b : ℕ} → b ≤ 32 → 8 * b ≤ 256
limit-few h = omega arith

pub returns-in_err-plan : goal.returns-in_err-plan
returns-in_err-plan c = rw c.from_residual.ensures (executes_none c.args.image.now c.in_err-plan.ensures refl c.args.torn.now c.args.progress _ _ _ _ _ _)

pub execute-reached-requires : goal.execute-reached-requires
execute-reached-requires c = let m = c.in_ok-plan.ensures.made _ refl in
    (c.requires.0, c.requires.2, c.requires.5, pages_most_lem c.args.image.now m (limit-few c.requires.2), m.laid.most, c.requires.4, places_on c.args.image.now m, m.laid.within, c.requires.6)

pub count_erases-requires : goal.count_erases-requires
count_erases-requires c = let m = c.in_ok-plan.ensures.made _ refl in
    (m.laid.most, All-map (λ (b : ℕ) h. omega (arith, c.requires.2)) m.laid.within)

pub returns : goal.returns
returns c = executes_some c.args.image.now (c.in_ok-plan.ensures.made _ refl) c.requires.6 c.args.torn.now c.requires.4 c.requires.1 c.requires.2 c.execute-reached.ensures c.count_erases.ensures
