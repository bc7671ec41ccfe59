-- What a function that writes to the buffer of a line leaves in it.
use Rattle.std.specs.Prelude.{◌≡◌, List, ◌++◌, ℕ, ◌+◌, length, take}

-- bs written behind the first `at` bytes of a buffer: r bytes are gathered then
pub record Adds (before : List ℕ) (at : ℕ) (bs : List ℕ) (after : List ℕ) (r : ℕ) : Type 0 where
  pub end : r ≡ at + length bs
  pub bytes : take r after ≡ take at before ++ bs
