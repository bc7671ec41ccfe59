-- Geometry: the sizes that every definition takes as a parameter.
use Rattle.std.specs.Prelude.{ℕ, ◌+◌, ◌*◌, ◌/◌, ◌≤◌, Bool, cond, ◌&&◌, ◌==◌, nat_le}
use Rattle.chip.specs.declared.geometry.Geometry as G
use Rattle.chip.specs.declared.geometry.Nand as N
use Rattle.chip.specs.declared.geometry.Nand.TheVariants.{Small, Large}

-- bytes of a page's data area and of its spare area, pages of a block, units that a page holds at most
abbrev pub Geometry : Type 0
Geometry = G.Geometry

-- the chip of document 01: pages of 512 and 16 bytes, 32 pages a block, 42 units a page
abbrev pub small : Geometry
small = record { area = 512; spare = 16; pages = 32; units = 42 }

-- the large part: pages of 2,048 and 64 bytes, 64 pages a block, 170 units a page
abbrev pub large : Geometry
large = record { area = 2048; spare = 64; pages = 64; units = 170 }

-- the NAND of a chip, the small part or the large part, and the geometry of each
abbrev pub Nand : Type 0
Nand = N.Nand

abbrev pub geometry_of : Nand → Geometry
geometry_of Small = small
geometry_of Large = large

-- the pages of a chip of 32 blocks of the large part: no chip has more
abbrev pub most_pages : ℕ
most_pages = 32 * large.pages

abbrev pub page_size : Geometry → ℕ
page_size g = g.area + g.spare

abbrev pub block_size : Geometry → ℕ
block_size g = g.pages * page_size g

-- a chip has 3 to 32 blocks, and its image is exactly as long as they are
abbrev pub is_chip : Geometry → ℕ → ℕ → Bool
is_chip g len b = nat_le 3 b && (nat_le b 32 && b * block_size g == len)

-- the blocks of an image of len bytes, 0 where that is no chip
abbrev pub blocks_of : Geometry → ℕ → ℕ
blocks_of g len = cond (is_chip g len (len / block_size g)) (len / block_size g) 0

-- what the laws and the code ask of a geometry
pub record Fits (g : Geometry) : Type 0 where
  -- the spare area has the three marks
  pub marks : 3 ≤ g.spare
  -- a header and a page's units fit its data area
  pub holds : 8 + 12 * g.units ≤ g.area
  -- two full nodes fit a page
  pub nodes : 34 ≤ g.units
  -- a block has so many pages that a snapshot leaves most blocks free
  pub many : 32 ≤ g.pages
  -- no number is above the large part's, which the arrays of the code are made for
  pub area_most : g.area ≤ large.area
  pub spare_most : g.spare ≤ large.spare
  pub pages_most : g.pages ≤ large.pages
  pub units_most : g.units ≤ large.units
