-- The length of a chip's image, and where its pages and blocks stand in it. Assumes nothing.
use Rattle.std.proofs.Common.{◌≡◌, Some, None, ℕ, suc, ◌+◌, ◌*◌, ◌/◌, ◌%◌, ◌<◌, ◌≤◌, true, ◌&&◌, eqb, leb, sym, ap, ◌∙◌, mul-le-mul_right, mul_assoc, add-mul, mul-le-mul, div-add-mod', div-mul-le_self, mul-div_cancel, arith, eqb-true, leb-true}
use native.Mathlib.Nat.{mul-mod_left}
use Rattle.lists.proofs.Tests.{cases, and_left, and_right}
use Rattle.chip.specs.declared.geometry.Nand.TheVariants.{Small, Large}
use Rattle.chip.specs.Geometry.{Geometry, Nand, Fits, small, large, geometry_of, most_pages, page_size, block_size, is_chip, blocks_of}
use Rattle.chip.specs.GeometryCode.{chip_blocks}

-- an image that has blocks has 3 to 32 of them, and nothing else
pub record Size (g : Geometry) (len b : ℕ) : Type 0 where
  pub least : 3 ≤ b
  pub most : b ≤ 32
  pub bytes : b * block_size g ≡ len

pub chip_size : (g : Geometry) (len b : ℕ) → b ≡ blocks_of g len → (b ≡ 0 → ⊥) → Size g len b
chip_size g len b e z =
    let n : ℕ = len / block_size g in
    cases (is_chip g len n)
    (λ t.
    let q : b ≡ n = (rw t at e) in
    let r : (leb n 32 && eqb (n * block_size g) len) ≡ true = and_right (leb 3 n) (leb n 32 && eqb (n * block_size g) len) t in
    record {
      least = rw q (leb-true 3 n (and_left (leb 3 n) (leb n 32 && eqb (n * block_size g) len) t));
      most = rw q (leb-true n 32 (and_left (leb n 32) (eqb (n * block_size g) len) r));
      bytes = ap (λ (m : ℕ). m * block_size g) q ∙ eqb-true (n * block_size g) len (and_right (leb n 32) (eqb (n * block_size g) len) r);
    })
    (λ t. absurd (z (rw t at e)))

-- the blocks that the code finds are those of the image
pub chip_some : (g : Geometry) (len b : ℕ) → Some b ≡ chip_blocks g len → (b ≡ blocks_of g len) × (b ≡ 0 → ⊥)
chip_some g len b e =
    let n : ℕ = len / block_size g in
    cases (is_chip g len n)
    (λ t.
    let q : Some b ≡ Some n = (rw t at e) in
    let p : b ≡ n = cc in
    let l : 3 ≤ n = leb-true 3 n (and_left (leb 3 n) (leb n 32 && eqb (n * block_size g) len) t) in
    (rw t p, λ z. omega (arith, z, p, l)))
    (λ t. let q : Some b ≡ None = (rw t at e) in let u : ◌≡◌ {A = ℕ} 0 1 = cc in absurd (omega arith))

pub chip_found : (g : Geometry) (len b : ℕ) → Some b ≡ chip_blocks g len → Size g len b
chip_found g len b e = let s = chip_some g len b e in chip_size g len b s.0 s.1

-- where it finds none, the image has none
pub chip_none : (g : Geometry) (len : ℕ) → None ≡ chip_blocks g len → blocks_of g len ≡ 0
chip_none g len e =
    let n : ℕ = len / block_size g in
    cases (is_chip g len n)
    (λ t. let q : None ≡ Some n = (rw t at e) in let u : ◌≡◌ {A = ℕ} 0 1 = cc in absurd (omega arith))
    (λ t. rw t)

-- ---- the two parts
pub small_fits : Fits small
small_fits = omega arith

pub large_fits : Fits large
large_fits = omega arith

pub nand_fits : (n : Nand) → Fits (geometry_of n)
nand_fits Small = small_fits
nand_fits Large = large_fits

-- ---- pages and blocks in an image
module _ (g : Geometry) where
  -- a page on the chip ends within the image
  pub page_end : (len p : ℕ) → p < len / page_size g → p * page_size g + page_size g ≤ len
  page_end len p h =
      let s : ℕ = page_size g in
      let m : suc p * s ≤ len / s * s = mul-le-mul_right s h in
      let d : len / s * s ≤ len = div-mul-le_self len s in
      omega (arith, m, d)

  -- page i of a block ends within it
  pub page_in : (i : ℕ) → i < g.pages → i * page_size g + page_size g ≤ block_size g
  page_in i h =
      let s : ℕ = page_size g in
      let m : suc i * s ≤ g.pages * s = mul-le-mul_right s h in
      omega (arith, m)

  -- block b of B blocks ends within them, in pages and in bytes
  pub block_on : (b B : ℕ) → b < B → b * g.pages + g.pages ≤ B * g.pages
  block_on b B h = let m : suc b * g.pages ≤ B * g.pages = mul-le-mul_right g.pages h in omega (arith, m)

  pub block_end : (b B : ℕ) → b < B → b * block_size g + block_size g ≤ B * block_size g
  block_end b B h =
      let s : ℕ = block_size g in
      let m : suc b * s ≤ B * s = mul-le-mul_right s h in
      omega (arith, m)

  -- a block whose pages are on the chip ends within the image
  pub block_within : (len b : ℕ) → b * g.pages + g.pages ≤ len / page_size g → b * block_size g + block_size g ≤ len
  block_within len b h =
      let s : ℕ = page_size g in
      let m : (b * g.pages + g.pages) * s ≤ len / s * s = mul-le-mul_right s h in
      let d : len / s * s ≤ len = div-mul-le_self len s in
      omega (arith, m, d, add-mul (b * g.pages) g.pages s, mul_assoc b g.pages s)

  -- an image of whole pages
  pub whole_pages : (len : ℕ) → len % page_size g ≡ 0 → len ≡ len / page_size g * page_size g
  whole_pages len e = let d = div-add-mod' len (page_size g) in omega (arith, d, e)

  -- an image of blocks has whole pages
  pub blocks_whole : (len B : ℕ) → len ≡ B * block_size g → len % page_size g ≡ 0
  blocks_whole len B e =
      ap (λ (n : ℕ). n % page_size g) (e ∙ sym (mul_assoc B g.pages (page_size g))) ∙ mul-mod_left (B * g.pages) (page_size g)

  module _ (f : Fits g) where
    pub page_pos : 0 < page_size g
    page_pos = omega (arith, f.marks)

    pub pages_pos : 0 < g.pages
    pages_pos = omega (arith, f.many)

    pub block_pos : 0 < block_size g
    block_pos = mul-le-mul pages_pos page_pos

    pub block_most : block_size g ≤ block_size large
    block_most = mul-le-mul f.pages_most (let h : page_size g ≤ page_size large = omega (arith, f.area_most, f.spare_most) in h)

    -- the pages of an image of B blocks
    pub blocks_pages : (len B : ℕ) → len ≡ B * block_size g → len / page_size g ≡ B * g.pages
    blocks_pages len B e =
        ap (λ (n : ℕ). n / page_size g) (e ∙ sym (mul_assoc B g.pages (page_size g))) ∙ mul-div_cancel (B * g.pages) page_pos

    -- a block of B blocks is on their chip
    pub block_on_chip : (B b len : ℕ) → len ≡ B * block_size g → b < B → b * g.pages + g.pages ≤ len / page_size g
    block_on_chip B b len e h = rw (blocks_pages len B e) (block_on b B h)

    -- how many pages a chip has at most
    pub pages_most_lem : (B : ℕ) → B ≤ 32 → B * g.pages ≤ most_pages
    pages_most_lem B h = mul-le-mul h f.pages_most

    -- a block ends below that
    pub block_low : (b : ℕ) → b < 32 → b * g.pages + g.pages ≤ most_pages
    block_low b h = omega (arith, block_on b 32 h, f.pages_most)
