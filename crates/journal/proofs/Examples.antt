-- Examples of format and mount, by computation. Assumes nothing.
use mathlib.Core.Path.{◌≡◌, refl}
use mathlib.Core.List.{List, [], ◌∷◌, ◌++◌}
use Prim.Native.Nat.{ℕ}
use lib.ListN.{take, replicate}
use Rattle.chip.specs.declared.page.Mark.TheVariants.{Used, Valid, Obsolete}
use Rattle.chip.specs.declared.power.Power.TheVariants.{Left, Gone}
use Rattle.chip.specs.Geometry.{Geometry, small}
use Rattle.chip.specs.Page.{Page, is_set, blank, torn_page}
use Rattle.chip.specs.Chip.{erase, mark, program, in_block, run}
use Rattle.pages.specs.declared.unit.Update.TheVariants.{Insert}
use Rattle.pages.specs.Units.{is_reset_value, decode, encode}
use Rattle.pages.specs.Data.{obeys, laid, data_of}
use Rattle.pages.specs.Steps.{commit, index, count, before, is_at, full, stand, steps, live}
use Rattle.views.specs.Nodes.{view}
use Rattle.views.specs.Table.{events_of, fresh, node_of, is_well, NodesRead, refusal, means, meaning}
use Rattle.journal.specs.Mount.{void_pages, mount_ops, mounted_by}
use Rattle.journal.specs.Format.{format_data, format_ops, formatted_by, formatted, format_page}

-- a chip with pages of one unit, two pages a block
abbrev tiny : Geometry
tiny = record { area = 20; spare = 3; pages = 2; units = 1 }

-- a live page: page i of n of commit c, with an insert into node 0
abbrev page : ℕ → ℕ → ℕ → Page
page c i n = data_of tiny c i n (record { node = 0; update = Insert 7 99 } ∷ []) ++ (0 ∷ 0 ∷ 255 ∷ [])

-- what a chip with nodes 0 and 1 means
abbrev reads : List Page → NodesRead
reads ps = meaning tiny 2 ps

abbrev leaf_only : NodesRead
leaf_only = means (record { now = view 0 []; pages = 0 ∷ [] } ∷ fresh ∷ []) 1

-- torn bytes: all 90, and all 0
abbrev some : List ℕ
some = replicate 23 90

abbrev zeros : List ℕ
zeros = replicate 23 0

-- two blocks with something on them
abbrev old : List Page
old = page 3 0 1 ∷ page 4 0 1 ∷ some ∷ zeros ∷ []

-- format: how its page starts on the small chip; the operations; a finished one, with just enough power and with more; cut at the last mark; cut before anything
formats :
    (take 9 (format_data small) ≡ 1 ∷ 0 ∷ 0 ∷ 0 ∷ 0 ∷ 1 ∷ 1 ∷ 0 ∷ 3 ∷ [])
    × (format_ops tiny 2 ≡ erase 0 ∷ erase 1 ∷ mark 0 Used ∷ program 0 (format_data tiny) ∷ mark 0 Valid ∷ [])
    × (formatted_by tiny some 2 5 old ≡ record { power = Left 0; pages = format_page tiny ∷ blank tiny ∷ blank tiny ∷ blank tiny ∷ [] })
    × (formatted_by tiny some 2 2000 old ≡ record { power = Left 1995; pages = formatted tiny 4 })
    × (reads (formatted_by tiny some 2 5 old).pages ≡ leaf_only)
    × (reads (formatted_by tiny some 2 4 old).pages ≡ refusal 7)
    × (formatted_by tiny zeros 2 0 old ≡ record { power = Gone; pages = old })
unfolding meaning steps is_set blank torn_page in_block run encode laid obeys commit index count before full is_at decode is_reset_value events_of node_of is_well
formats = (refl, refl, refl, refl, refl, refl, refl)

-- a formatted chip with pages 0 and 2 of the three of commit 2, at places 3 and 1
abbrev chip : List Page
chip = format_page tiny ∷ page 2 2 3 ∷ blank tiny ∷ page 2 0 3 ∷ []

-- mount: what the image means; the operations, lowest place first; done, cut at the second mark with both torn bytes, cut at the first
mounts :
    (reads chip ≡ leaf_only)
    × (steps tiny chip ≡ stand (live tiny 3 (page 2 0 3) ∷ live tiny 1 (page 2 2 3) ∷ []) (live tiny 0 (format_page tiny) ∷ []))
    × (mount_ops tiny chip ≡ mark 1 Obsolete ∷ mark 3 Obsolete ∷ [])
    × (steps tiny (mounted_by tiny some 2 chip).pages ≡ stand [] (live tiny 0 (format_page tiny) ∷ []))
    × (reads (mounted_by tiny some 2 chip).pages ≡ leaf_only)
    × (reads (mounted_by tiny some 1 chip).pages ≡ leaf_only)
    × (reads (mounted_by tiny zeros 1 chip).pages ≡ leaf_only)
    × (reads (mounted_by tiny some 0 chip).pages ≡ leaf_only)
    × ((mounted_by tiny some 1 chip).power ≡ Gone)
unfolding meaning steps is_set blank run encode laid obeys commit index count before full is_at decode is_reset_value events_of node_of is_well void_pages
mounts = (refl, refl, refl, refl, refl, refl, refl, refl, refl)

-- an image that is refused gets no mark: the greatest commit lacks pages, and so does the next lower
refusals : (reads (page 2 0 2 ∷ page 1 0 2 ∷ []) ≡ refusal 8) × (mount_ops tiny (page 2 0 2 ∷ page 1 0 2 ∷ []) ≡ [])
unfolding meaning steps is_set blank run encode laid obeys commit index count before full is_at decode is_reset_value events_of node_of is_well void_pages
refusals = (refl, refl)
