-- Power: the allowance of format, commit and mount as it is spent, operation by operation.
use Rattle.std.specs.Prelude.{ℕ, zero, suc, Bool, true, false, ◌&&◌, ◌||◌, ◌==◌, nat_le}
use Rattle.chip.specs.declared.power.Power.{Power}
use Rattle.chip.specs.declared.power.Power.TheVariants.{Left, Gone}
use Rattle.chip.specs.declared.power.Outcome.{Outcome}
use Rattle.chip.specs.declared.power.Outcome.TheVariants.{Whole, Torn, Nothing}

-- the power after one operation: one less left; after the torn one nothing follows
abbrev pub spend : Power → Power
spend (Left zero) = Gone
spend (Left (suc n)) = Left n
spend Gone = Gone

-- the first operations of the allowance are done whole, the next is torn, nothing follows
abbrev pub outcome : Power → Outcome
outcome (Left zero) = Torn
outcome (Left (suc n)) = Whole
outcome Gone = Nothing

-- of three results the one that an outcome gives
abbrev pub choose : {A : Type 0} → Outcome → A → A → A → A
choose Whole w t s = w
choose Torn w t s = t
choose Nothing w t s = s

-- what an operation leaves: w done whole, t torn, s as it was
abbrev pub effect : {A : Type 0} → Power → A → A → A → A
effect p w t s = choose (outcome p) w t s

-- power ran out: refusal 10
abbrev pub is_gone : Power → Bool
is_gone (Left k) = false
is_gone Gone = true

-- a list of `need` operations of which the last is a mark takes effect where all are done, or all but the mark, and that is torn to 0; torn is byte 0 of the torn bytes
abbrev pub takes_effect : (torn allowance need : ℕ) → Bool
takes_effect t n need = nat_le need n || (suc n == need && t == 0)
