-- A set of indexes as the bits of a number, index 0 the lowest.
use Rattle.std.specs.Prelude.{ℕ, ◌+◌, ◌*◌, Bool, List, [], ◌∷◌}
use Rattle.lists.specs.Lists.{bit}

-- the indexes of the elements that pass the test p
unfoldable pub set_of : {A : Type 0} → (A → Bool) → List A → ℕ
set_of p [] = 0
set_of p (x ∷ xs) = set_of p xs * 2 + bit (p x)
