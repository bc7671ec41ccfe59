-- Bytes as lines: a line feed ends a line.
use Rattle.std.specs.Prelude.{cond, List, [], ◌∷◌, ◌++◌, ℕ, eqb}

-- the lines that end in these bytes, where `begun` is what the line had before them: a line feed ends a line
abbrev pub lines_in : (begun bytes : List ℕ) → List (List ℕ)
lines_in begun [] = []
lines_in begun (b ∷ bs) = cond (eqb b 10) (begun ∷ lines_in [] bs) (lines_in (begun ++ (b ∷ [])) bs)

-- and what the line begun has after them
abbrev pub line_after : (begun bytes : List ℕ) → List ℕ
line_after begun [] = begun
line_after begun (b ∷ bs) = cond (eqb b 10) (line_after [] bs) (line_after (begun ++ (b ∷ [])) bs)
