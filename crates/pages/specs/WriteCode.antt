-- What the code that writes a page leaves of it: after each of the three operations, whole or cut.
use Rattle.std.specs.Prelude.{◌≡◌, List, [], ◌∷◌, ℕ, take, get_or}
use Rattle.chip.specs.declared.page.Mark.{Mark}
use Rattle.chip.specs.declared.page.Mark.TheVariants.{Used, Valid}
use Rattle.chip.specs.declared.operation.Kind.{Kind}
use Rattle.chip.specs.declared.operation.Kind.TheVariants as K
use Rattle.chip.specs.declared.power.Power.{Power}
use Rattle.chip.specs.declared.progress.Progress.{Progress}
use Rattle.chip.specs.RunCode.{counted_all, wholes}
use Rattle.chip.specs.Geometry.{Geometry}
use Rattle.chip.specs.Power.{spend, effect}
use Rattle.chip.specs.Page.{Page, marked, programmed}

-- what an operation on a page makes of it: a mark, the data
abbrev pub marked_by : Geometry → List ℕ → Mark → Power → Page → Page
marked_by g torn m p x = effect p (marked g m 0 x) (marked g m (get_or torn 0 0) x) x

abbrev pub programmed_by : Geometry → List ℕ → List ℕ → Power → Page → Page
programmed_by g torn bytes p x = effect p (programmed g bytes x) (programmed g (take g.area torn) x) x

-- the page after the three
unfoldable pub written : Geometry → List ℕ → List ℕ → Power → Page → Page
written g torn bytes p x =
    marked_by g torn Valid (spend (spend p)) (programmed_by g torn bytes (spend p) (marked_by g torn Used p x))

-- the power after the three
abbrev pub spent3 : Power → Power
spent3 p = spend (spend (spend p))

-- their kinds
abbrev pub write_kinds : List Kind
write_kinds = K.Mark ∷ K.Program ∷ K.Mark ∷ []

-- what a function that writes a page ensures of it, where a call has come from p to r
pub record PageWritten (g : Geometry) (torn bytes : List ℕ) (p r : Progress) (before after : List ℕ) : Type 0 where
  pub power : r.left ≡ spent3 p.left
  pub page : after ≡ written g torn bytes p.left before
  pub told : r.done ≡ counted_all p.done (wholes p.left write_kinds)
