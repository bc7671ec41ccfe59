-- Examples on the small chip, by computation. Assumes nothing.
use mathlib.Core.Path.{◌≡◌, refl}
use mathlib.Core.List.{List, [], ◌∷◌, ◌++◌}
use Prim.Native.Nat.{ℕ}
use lib.ListN.{take, replicate}
use Rattle.lists.specs.Lists.{flat}
use Rattle.chip.specs.Geometry.{small}
use Rattle.chip.specs.Page.{Page, is_set, blank}
use Rattle.pages.specs.declared.unit.Update.TheVariants.{Insert, Reset}
use Rattle.pages.specs.declared.unit.Unit.{Unit}
use Rattle.pages.specs.Units.{encode}
use Rattle.pages.specs.Data.{obeys, laid, data_of}
use Rattle.pages.specs.Steps.{live, commit, index, count, before, is_at, full, refused, stand, steps}

abbrev inserted : Unit
inserted = record { node = 0; update = Insert 7 99 }

-- a page with this data, used and valid
abbrev on : List ℕ → Page
on d = d ++ (0 ∷ 0 ∷ replicate 14 255)

-- page i of n of commit c, one unit
abbrev one : ℕ → ℕ → ℕ → Page
one c i n = on (data_of small c i n (inserted ∷ []))

-- k units by the header, in a page with 42
abbrev many : ℕ → Page
many k = on (laid small 1 0 1 k (flat encode (replicate 42 inserted)))

-- an insert's bytes; format's page; 42 units and 43; a greatest commit with page 0 of 2; an older one with page 0 of 2; both; no live page
examples :
    (encode inserted ≡ 1 ∷ 0 ∷ 0 ∷ 0 ∷ 7 ∷ 0 ∷ 0 ∷ 0 ∷ 99 ∷ 0 ∷ 0 ∷ 0 ∷ [])
    × (take 9 (data_of small 1 0 1 (record { node = 0; update = Reset 0 } ∷ [])) ≡ 1 ∷ 0 ∷ 0 ∷ 0 ∷ 0 ∷ 1 ∷ 1 ∷ 0 ∷ 3 ∷ [])
    × (steps small (many 42 ∷ []) ≡ stand [] (live small 0 (many 42) ∷ []))
    × (steps small (many 43 ∷ []) ≡ refused 8)
    × (steps small (one 1 0 1 ∷ one 2 0 2 ∷ blank small ∷ []) ≡ stand (live small 1 (one 2 0 2) ∷ []) (live small 0 (one 1 0 1) ∷ []))
    × (steps small (one 1 0 1 ∷ one 3 0 1 ∷ one 2 0 2 ∷ [])
    ≡ stand [] (live small 0 (one 1 0 1) ∷ live small 2 (one 2 0 2) ∷ live small 1 (one 3 0 1) ∷ []))
    × (steps small (one 1 0 1 ∷ one 2 0 2 ∷ one 3 0 2 ∷ []) ≡ refused 8)
    × (steps small (blank small ∷ blank small ∷ []) ≡ refused 7)
unfolding encode laid obeys is_set blank steps commit index count before full is_at
examples = (refl, refl, refl, refl, refl, refl, refl, refl)
