use Rattle.std.proofs.Common.{ℕ, ◌<◌, ◌≤◌, rules}
use borrow.Author.Tests.{tests}
use Rattle.std.proofs.lemmas.Iterator.{YieldsList-from_slice, IsFirst-from_position}
use Rattle.packing.proofs.PackingArrays.{found_first}
use Rattle.packing.proofs.fit.first_fit.Goals as goal

pub returns : goal.returns
returns c =
    found_first c.args.rooms.now c.args.size c.position.result
    (IsFirst-from_position _ _ _ (λ (x : ℕ). c.args.size ≤ x) (λ (x : ℕ). x < c.args.size) c.position.ensures.ran (YieldsList-from_slice c.args.rooms.now cc)
    (λ x q k. search (rules, tests)) (λ x q k. search (rules, tests)))
