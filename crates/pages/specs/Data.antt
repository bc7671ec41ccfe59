-- The data area of a page: a header of 8 bytes, units of 12 bytes, the rest 255.
use Rattle.std.specs.Prelude.{Bool, cond, ◌&&◌, List, [], ◌∷◌, ◌++◌, ℕ, ◌+◌, ◌-◌, ◌*◌, ◌/◌, ◌%◌, ltb, leb, eqb, length, drop, get_or, replicate, Option, Some, None}
use Rattle.lists.specs.Lists.{all, flat}
use Rattle.chip.specs.Geometry.{Geometry}
use Rattle.pages.specs.declared.unit.Unit.{Unit}
use Rattle.pages.specs.declared.header.Head.{Head}
use Rattle.pages.specs.Units.{half, word, encode}

-- bytes 0-3 commit number, 4 page index, 5 page count of that commit, 6-7 unit count
abbrev pub head_of : List ℕ → Head
head_of d = record { commit = word d 0; index = get_or d 4 0; count = get_or d 5 0; units = half d 6 }

-- a page's own rules in step 2: commit number 1 or more, count 1 or more, index below count, 1 unit or more and no more than a page holds, 255 after them
unfoldable pub obeys : Geometry → List ℕ → Bool
obeys g d =
    ltb 0 (head_of d).commit && (ltb 0 (head_of d).count && (ltb (head_of d).index (head_of d).count
    && (ltb 0 (head_of d).units && (leb (head_of d).units g.units
    && all (λ (b : ℕ). eqb b 255) (drop (8 + 12 * (head_of d).units) d)))))

-- what a function that reads a page's data answers
abbrev pub header_of : Geometry → List ℕ → Option Head
header_of g d = cond (obeys g d) (Some (head_of d)) None

-- ---- laying out a page's data
abbrev pub head_bytes : ℕ → ℕ → ℕ → ℕ → List ℕ
head_bytes c i n k = c % 256 ∷ c / 256 % 256 ∷ c / 65536 % 256 ∷ c / 16777216 ∷ i ∷ n ∷ k % 256 ∷ k / 256 ∷ []

-- page i of n of commit c, with k units whose bytes are given
unfoldable pub laid : Geometry → ℕ → ℕ → ℕ → ℕ → List ℕ → List ℕ
laid g c i n k bytes = head_bytes c i n k ++ (bytes ++ replicate (g.area - (8 + 12 * k)) 255)

-- page i of n of commit c, with these units
abbrev pub data_of : Geometry → ℕ → ℕ → ℕ → List Unit → List ℕ
data_of g c i n us = laid g c i n (length us) (flat encode us)
