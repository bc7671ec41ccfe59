use mathlib.Core.Path.{ap, ◌∙◌}
use mathlib.Core.List.{List, ◌++◌}
use Prim.Native.Nat.{ℕ}
use native.Mathlib.Omega.{arith}
use lib.ListN.{drop, length-replicate, replicate}
use lib.Seq.{length-take-le}
use Rattle.renewal.proofs.MakeLaws.{counted_from}
use Rattle.renewal.proofs.make.set_free.Goals as goal

pub returns : goal.returns
returns c =
    let size = length-take-le c.args.n (replicate {A = ℕ} 256 0) (omega (arith, c.requires, length-replicate {A = ℕ} 256 0)) in
    counted_from c.args.n c.args.limit _ _ (ap (λ (xs : List ℕ). xs ++ drop c.args.n (replicate 256 0)) (c.fill.ensures.after (λ y e. e) ∙ ap (λ (k : ℕ). replicate k 1) size)) c.gather.ensures
