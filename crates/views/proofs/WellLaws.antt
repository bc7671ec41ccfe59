-- The check of all nodes, node by node from the last one down. Assumes nothing.
use mathlib.Core.Path.{◌≡◌, ap, ◌∙◌}
use mathlib.Core.Bool.{Bool, true}
use Prim.Native.Nat.{ℕ, ◌+◌, ◌-◌, ◌<◌, ◌≤◌}
use native.Mathlib.Omega.{arith}
use lib.Dec.{eqb}
use borrow.Author.Tests.{eqb-true, eqb-false}
use Rattle.lists.proofs.Tests.{cases}

-- all from n to below m pass, and the one before n does
pub before_next : (p : ℕ → Bool) (m n : ℕ) → 0 < n → ((k : ℕ) → n ≤ k → k < m → p k ≡ true) → p (n - 1) ≡ true → (k : ℕ) → n - 1 ≤ k → k < m → p k ≡ true
before_next p m n z h e k a b =
    cases (eqb k (n - 1))
    (λ t. ap p (eqb-true k (n - 1) t) ∙ e)
    (λ t. let d = eqb-false k (n - 1) t in h k (omega (arith, d)) b)

-- all below n pass, and n does
pub below_next : (p : ℕ → Bool) (n : ℕ) → ((k : ℕ) → k < n → p k ≡ true) → p n ≡ true → (k : ℕ) → k < n + 1 → p k ≡ true
below_next p n h e k b =
    cases (eqb k n)
    (λ t. ap p (eqb-true k n t) ∙ e)
    (λ t. let d = eqb-false k n t in h k (omega (arith, d)))
