-- The definitions computed on a chip of 2 blocks of 2 pages, 4 data and 3 spare bytes a page.
use Rattle.std.proofs.Common.{◌≡◌, ℕ, true, false, List, [], ◌∷◌, take, refl}
use Rattle.chip.specs.declared.page.Mark.TheVariants.{Used, Valid}
use Rattle.chip.specs.declared.power.Power.TheVariants.{Left, Gone}
use Rattle.chip.specs.Geometry.{Geometry, small, blocks_of}
use Rattle.chip.specs.Counts.{counts_of, nothing}
use Rattle.chip.specs.Page.{Page, is_set, is_live, is_free, torn_page}
use Rattle.chip.specs.Chip.{Op, program, mark, erase, kinds_of, in_block, tear, run, pages_of}
use Rattle.chip.specs.RunCode.{counted_all, wholes}

abbrev tiny : Geometry
tiny = record { area = 4; spare = 3; pages = 2; units = 1 }

-- a live page, one whose used mark was torn, and a free one
abbrev a : Page
a = 1 ∷ 2 ∷ 3 ∷ 4 ∷ 0 ∷ 0 ∷ 255 ∷ []

abbrev b : Page
b = 5 ∷ 6 ∷ 7 ∷ 8 ∷ 9 ∷ 255 ∷ 255 ∷ []

abbrev e : Page
e = 255 ∷ 255 ∷ 255 ∷ 255 ∷ 255 ∷ 255 ∷ 255 ∷ []

abbrev torn : List ℕ
torn = 90 ∷ 0 ∷ 91 ∷ 92 ∷ 0 ∷ 0 ∷ 7 ∷ []

abbrev calm : List ℕ
calm = 0 ∷ 1 ∷ 1 ∷ 1 ∷ 1 ∷ 1 ∷ 1 ∷ []

-- a chip is 3 to 32 blocks long
sizes : (blocks_of small 50688 ≡ 3) × (blocks_of small 540672 ≡ 32) × (blocks_of small 33792 ≡ 0) × (blocks_of small 557568 ≡ 0) × (blocks_of small 50689 ≡ 0)
sizes = (refl, refl, refl, refl, refl)

-- live, free
states : (is_live tiny a ≡ true) × (is_live tiny b ≡ false) × (is_free e ≡ true) × (is_free b ≡ false)
unfolding is_set is_free
states = (refl, refl, refl, refl)

-- a torn erase: the torn bytes in each page of the block, 255 for a 0 in the spare part; untouched where torn byte 0 is 0
erases : (tear tiny torn (erase 0) (a ∷ b ∷ a ∷ b ∷ [])
    ≡ (90 ∷ 0 ∷ 91 ∷ 92 ∷ 255 ∷ 255 ∷ 7 ∷ []) ∷ (90 ∷ 0 ∷ 91 ∷ 92 ∷ 255 ∷ 255 ∷ 7 ∷ []) ∷ a ∷ b ∷ [])
    × (tear tiny calm (erase 0) (a ∷ b ∷ a ∷ b ∷ []) ≡ a ∷ b ∷ a ∷ b ∷ [])
unfolding in_block torn_page
erases = (refl, refl)

-- a page written, and a block erased
abbrev written : List Op
written = mark 0 Used ∷ program 0 (1 ∷ 2 ∷ 3 ∷ 4 ∷ []) ∷ mark 0 Valid ∷ erase 0 ∷ []

-- with power for two operations: used mark, data, and a valid mark that became torn byte 0
cut_write : run tiny torn (record { power = Left 2; pages = e ∷ a ∷ [] }) written
    ≡ record { power = Gone; pages = (1 ∷ 2 ∷ 3 ∷ 4 ∷ 0 ∷ 90 ∷ 255 ∷ []) ∷ a ∷ [] }
unfolding run
cut_write = refl

-- the same operations by kind: one program, two marks, an erase; with power for two of them, one program and one mark
kinds : (counts_of (kinds_of written) ≡ record { programs = 1; marks = 2; erases = 1 }) × (counts_of (take 2 (kinds_of written)) ≡ record { programs = 1; marks = 1; erases = 0 })
    × (counted_all nothing (wholes (Left 2) (kinds_of written)) ≡ record { programs = 1; marks = 1; erases = 0 }) × (counted_all nothing (wholes Gone (kinds_of written)) ≡ nothing)
kinds = (refl, refl, refl, refl)

-- an image cut into pages
cuts : pages_of tiny (1 ∷ 2 ∷ 3 ∷ 4 ∷ 0 ∷ 0 ∷ 255 ∷ 5 ∷ 6 ∷ 7 ∷ 8 ∷ 9 ∷ 255 ∷ 255 ∷ []) ≡ a ∷ b ∷ []
unfolding pages_of
cuts = refl
