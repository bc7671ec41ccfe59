-- What an operation does with its power. Assumes nothing.
use Rattle.std.proofs.Common.{◌≡◌, ℕ, zero, suc, ◌-◌, refl, sub-one}
use Rattle.chip.specs.declared.power.Power.TheVariants.{Left}
use Rattle.chip.specs.declared.power.Outcome.TheVariants.{Whole}
use Rattle.chip.specs.Power.{spend, outcome}

-- with something left an operation is done whole, and one less is left
pub spend_left : (n : ℕ) → (n ≡ 0 → ⊥) → spend (Left n) ≡ Left (n - 1)
spend_left zero h = absurd (h refl)
spend_left (suc n) h = rw sub-one

pub outcome_left : (n : ℕ) → (n ≡ 0 → ⊥) → outcome (Left n) ≡ Whole
outcome_left zero h = absurd (h refl)
outcome_left (suc n) h = refl
