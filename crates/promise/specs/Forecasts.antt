-- What would a commit cost. Document 02, note 10: 'A commit made now with a torn slice of the right length and their sum as allowance finishes, and where the sum is above 0,
-- with one less it is cut'; and a forecast 'changes nothing'. The proofs are in proofs/.
use Rattle.std.specs.Prelude.{◌≡◌, Bool, true, false, List, [], ◌∷◌, ◌++◌, ℕ, ◌<◌, ◌≤◌, length}
use Rattle.chip.specs.Geometry.{geometry_of, page_size}
use Rattle.promise.specs.Plain.{Answer, refuses, accepted}
use Rattle.promise.specs.Calls.{Store, Forecast, Commit}
use Rattle.promise.specs.Steps.{Act, read, update, forecast, format, commit, mount, boots, Step, Allowed, Runs}

-- a forecast answered f and foretold so many operations: what a commit on the same state and image with an allowance of n answered, a, and told, ops
pub record Foresees (f : Answer) (foretold n : ℕ) (a : Answer) (ops : ℕ) : Type 0 where
  pub enough : f ≡ accepted → foretold ≤ n → (a ≡ accepted) × (ops ≡ foretold)
  pub short : f ≡ accepted → n < foretold → (a ≡ refuses 10) × (ops ≡ n)
  pub refused : (k : ℕ) → f ≡ refuses k → (a ≡ refuses k) × (ops ≡ 0)

-- a read of the plain store, or a forecast
abbrev pub is_read : Act → Bool
is_read (read r) = true
is_read (update u) = false
is_read forecast = true
is_read (format n a torn) = false
is_read (commit a torn) = false
is_read (mount n a torn) = false

module _ (S : Store) where
  -- a step, no mount or format, that gave back the state and left the image that it got
  pub record Still (x : Step S) : Type 0 where
    pub booted : boots x.act ≡ false
    pub state : x.state ≡ x.given
    pub image : x.left ≡ x.lent

  abbrev pub AllStill : List (Step S) → Type 0
  AllStill [] = Unit {0}
  AllStill (x ∷ xs) = Still x × AllStill xs

  -- on any state and any image, whoever gave them
  abbrev pub ForecastNow : Type 0
  ForecastNow = (s : S.State) (i : S.Image) (f : Answer) (foretold : ℕ) (t : S.State) (j : S.Image) → Forecast S s i f foretold t j
      → (n : ℕ) (torn : List ℕ) → length torn ≡ page_size (geometry_of (S.nand s)) → (a : Answer) (ops : ℕ) (s' : S.State) (i' : S.Image) → Commit S n torn s i a ops s' i'
      → Foresees f foretold n a ops

  -- in a list: a forecast y, calls zs that change nothing, a commit x, where neither y nor x is refused with 1: so each is lent the one image, or the store is off
  abbrev pub ForecastHolds : Type 1
  ForecastHolds = (H : S.State → Type 0) (i : S.Image) (xs zs ys : List (Step S)) (y x : Step S) → Runs S H i (xs ++ (y ∷ (zs ++ (x ∷ ys))))
      → y.act ≡ forecast → AllStill zs → (n : ℕ) (torn : List ℕ) → x.act ≡ commit n torn → length torn ≡ page_size (geometry_of (S.nand x.given))
      → (y.answer ≡ refuses 1 → ⊥) → (x.answer ≡ refuses 1 → ⊥) → Foresees y.answer y.ops n x.answer x.ops

  -- a read or a forecast changes nothing; nor does an update or a commit that is refused, but not cut
  abbrev pub ReadStill : Type 0
  ReadStill = (x : Step S) → Allowed S x.act x.given x.lent x.answer x.ops x.state x.left → is_read x.act ≡ true → Still x

  abbrev pub RefusedStill : Type 0
  RefusedStill = (x : Step S) (k : ℕ) → Allowed S x.act x.given x.lent x.answer x.ops x.state x.left → boots x.act ≡ false
      → x.answer ≡ refuses k → (k ≡ 10 → ⊥) → Still x

  -- such a call may stand anywhere: taken out of a list it leaves a list of all the others
  abbrev pub StillOut : Type 1
  StillOut = (H : S.State → Type 0) (i : S.Image) (xs ys : List (Step S)) (x : Step S) → Runs S H i (xs ++ (x ∷ ys)) → Still x → Runs S H i (xs ++ ys)
