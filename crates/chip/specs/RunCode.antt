-- What the functions that do operations ensure: on a part of the image, on the whole image, of a list of them; and how far a call has come then.
use Rattle.std.specs.Prelude.{◌≡◌, ℕ, ◌+◌, ◌%◌, ◌^◌, List, [], ◌∷◌, length, take}
use mathlib.Core.List.{foldl}
use Rattle.chip.specs.declared.power.Power.{Power}
use Rattle.chip.specs.declared.power.Power.TheVariants.{Left, Gone}
use Rattle.chip.specs.declared.operation.Kind as K
use Rattle.chip.specs.declared.operation.Kind.TheVariants.{Program, Mark, Erase}
use Rattle.chip.specs.declared.operation.Operation.{Operation}
use Rattle.chip.specs.declared.progress.Counts.{Counts}
use Rattle.chip.specs.declared.progress.Progress.{Progress}
use Rattle.chip.specs.Geometry.{Geometry}
use Rattle.chip.specs.Power.{spend, outcome, choose, effect}
use Rattle.chip.specs.Counts.{nothing}
use Rattle.chip.specs.Chip.{Op, Machine, kind_of, kinds_of, pages_of, step, run}

-- of a list what is done whole
abbrev pub wholes : {A : Type 0} → Power → List A → List A
wholes (Left n) xs = take n xs
wholes Gone xs = []

-- what an operation tells
abbrev pub tell_of : K.Kind → Power → Operation
tell_of k p = record { kind = k; outcome = outcome p; left = spend p }

-- one more of kind k, in 32 bits
abbrev pub counted : K.Kind → Counts → Counts
counted Program c = record { programs = (c.programs + 1) % 2 ^ 32; marks = c.marks; erases = c.erases }
counted Mark c = record { programs = c.programs; marks = (c.marks + 1) % 2 ^ 32; erases = c.erases }
counted Erase c = record { programs = c.programs; marks = c.marks; erases = (c.erases + 1) % 2 ^ 32 }

-- these, one after the other
abbrev pub counted_all : Counts → List K.Kind → Counts
counted_all c ks = foldl (λ d k. counted k d) c ks

-- nothing done, and power for n operations
abbrev pub at_start : ℕ → Progress
at_start n = record { left = Left n; done = nothing }

-- after one more operation
abbrev pub progressed : Counts → Operation → Progress
progressed c o = record { left = o.left; done = choose o.outcome (counted o.kind c) c c }

-- ---- what a function ensures that does one operation
-- on a part: what it tells, and the part's bytes, w done whole, t torn, s as they were
pub record Operated (k : K.Kind) (p : Power) (r : Operation) (bytes w t s : List ℕ) : Type 0 where
  pub told : r ≡ tell_of k p
  pub left : bytes ≡ effect p w t s

-- the machine with this power and this image
abbrev pub machine : Geometry → Power → List ℕ → Machine
machine g p image = record { power = p; pages = pages_of g image }

-- on a whole image, where a call has come from p to r: the image and the power, and the operation counted if it was done whole
pub record Stepped (g : Geometry) (torn : List ℕ) (o : Op) (p r : Progress) (before after : List ℕ) : Type 0 where
  pub is : machine g r.left after ≡ step g torn (machine g p.left before) o
  pub size : length after ≡ length before
  pub told : r.done ≡ counted_all p.done (wholes p.left (kind_of o ∷ []))

-- a list of operations on a whole image
pub record Ran (g : Geometry) (torn : List ℕ) (os : List Op) (p r : Progress) (before after : List ℕ) : Type 0 where
  pub is : machine g r.left after ≡ run g torn (machine g p.left before) os
  pub size : length after ≡ length before
  pub told : r.done ≡ counted_all p.done (wholes p.left (kinds_of os))
