-- A set of numbers below 256 as four words of 64 bits, number 0 the lowest bit of the first; given as a list of booleans, that of number 0 first.
use Rattle.std.specs.Prelude.{◌≡◌, Bool, List, ℕ, ◌*◌, ◌<◌, ◌≤◌, eqb, length, set, get_or, Option, Some, None, IfSome}
use Rattle.lists.specs.Lists.{count, first, part, tab}
use Rattle.chip.specs.SetCode.{set_of}

-- it is a member
abbrev pub is_in : Bool → Bool
is_in b = b

-- the four words of a set
unfoldable pub words_of : List Bool → List ℕ
words_of bs = tab 0 4 (λ (w : ℕ). set_of is_in (part (64 * w) 64 bs))

-- what counting a set of words answers
pub record Counts (words : List ℕ) (r : ℕ) : Type 0 where
  pub is : (bs : List Bool) → length bs ≤ 256 → words ≡ words_of bs → r ≡ count is_in bs
  pub few : r ≤ 256

-- the least member; None where there is none
pub record IsLeast (words : List ℕ) (r : Option ℕ) : Type 0 where
  pub is : (bs : List Bool) → length bs ≤ 256 → words ≡ words_of bs → 0 < count is_in bs → r ≡ Some (first is_in bs)
  pub none : (bs : List Bool) → length bs ≤ 256 → words ≡ words_of bs → count is_in bs ≡ 0 → r ≡ None
  pub few : IfSome r (λ (n : ℕ). n < 256)

-- number n is put in, or taken out
abbrev pub Changes : Bool → ℕ → List ℕ → List ℕ → Type 0
Changes b n before after = (bs : List Bool) → length bs ≤ 256 → n < length bs → before ≡ words_of bs → after ≡ words_of (set bs n b)

-- the numbers below limit whose count is 0
abbrev pub uncounted : ℕ → List ℕ → List Bool
uncounted limit counts = tab 0 limit (λ (n : ℕ). eqb (get_or counts n 0) 0)
