-- The first test of a format and of a mount: the two sizes. Assumes nothing.
use mathlib.Core.Path.{◌≡◌, refl, sym, ap, ◌∙◌}
use mathlib.Core.Bool.{Bool, true, false, cond, not, ◌&&◌}
use Prim.Native.Nat.{ℕ, ◌*◌, ◌/◌, ◌%◌, ◌≤◌}
use native.Mathlib.Omega.{arith}
use lib.Dec.{ltb}
use borrow.Author.Tests.{eq-eqb, ne_eqb, lt-ltb, le-ltb}
use Rattle.std.specs.Prelude.{Option, Some, None}
use Rattle.lists.proofs.Tests.{cases}
use Rattle.chip.specs.declared.geometry.Nand.TheVariants.{Small, Large}
use Rattle.chip.specs.Geometry.{Geometry, Nand, Fits, geometry_of, blocks_of, block_size, most_pages, page_size}
use Rattle.chip.specs.GeometryCode.{chip_blocks}
use Rattle.chip.proofs.Sizes.{chip_size, chip_some, chip_none, blocks_pages, blocks_whole, pages_most_lem}
use Rattle.journal.specs.Plan.{most_ops}
use Rattle.promise.specs.Plain.{enough_writes, start_refusal, is_chip_size, is_torn_size, when}
use Rattle.store.specs.AdmitCode.{ChipOf, blocks_in, Sized}

-- an image that has blocks is a chip
pub chip_of : (g : Geometry) (b len : ℕ) → b ≡ blocks_of g len → (b ≡ 0 → ⊥) → ChipOf g b len
chip_of g b len e z =
    let s = chip_size g len b e z in
    let q : b * block_size g ≡ len = s.bytes in
    record { blocks = e; least = s.least; most = s.most; size = sym q }

-- it has no more pages than the largest
pub chip_pages : (g : Geometry) (fit : Fits g) (b len : ℕ) → ChipOf g b len → len / page_size g ≤ most_pages
chip_pages g fit b len c = rw (blocks_pages g fit len b c.size) (pages_most_lem g fit b c.most)

-- whole pages, as the code that reads them asks
pub on_chip : (g : Geometry) (fit : Fits g) (b len : ℕ) → ChipOf g b len → (len % page_size g ≡ 0) × (len / page_size g ≤ most_pages)
on_chip g fit b len c = (blocks_whole g len b c.size, chip_pages g fit b len c)

-- a torn slice of another length, or an image that is no chip
some_not_none : {Q : Type 0} (b : ℕ) → None ≡ Some b → Q
some_not_none b e = let z : ◌≡◌ {A = ℕ} 0 1 = cc in absurd (omega arith)

pub sized_none : (g : Geometry) (len slice : ℕ) → (slice ≡ page_size g → ⊥) → Sized g len slice None
unfolding is_torn_size
sized_none g len slice h = record { is = rw (ne_eqb slice (page_size g) h); torn = λ b e. some_not_none b e; chip = λ b e. some_not_none b e }

sized_empty : (g : Geometry) (len slice : ℕ) → slice ≡ page_size g → blocks_of g len ≡ 0 → Sized g len slice None
unfolding is_torn_size
sized_empty g len slice h e = record { is = rw (eq-eqb slice (page_size g) h) (sym e); torn = λ b e. some_not_none b e; chip = λ b e. some_not_none b e }

-- a torn slice of a page, and blocks
pub sized_some : (g : Geometry) (len slice b : ℕ) → slice ≡ page_size g → b ≡ blocks_of g len → (b ≡ 0 → ⊥) → Sized g len slice (Some b)
unfolding is_torn_size
sized_some g len slice b h e z =
    record {
      is = rw (eq-eqb slice (page_size g) h) e;
      torn = λ n q. h;
      chip = λ n q. let l : b ≡ n = cc in chip_of g n len (sym l ∙ e) (λ p. z (l ∙ p));
    }

-- a torn slice of a page, and what the image has
pub sized_found : (g : Geometry) (len slice : ℕ) (found : Option ℕ) → slice ≡ page_size g → found ≡ chip_blocks g len → Sized g len slice found
sized_found g len slice (Some b) h e = let s = chip_some g len b e in sized_some g len slice b h s.0 s.1
sized_found g len slice None h e = sized_empty g len slice h (chip_none g len e)

-- both sizes are right where there are blocks
pub sized_test : (g : Geometry) (len slice : ℕ) (found : Option ℕ) → Sized g len slice found → (is_chip_size g len && is_torn_size g slice) ≡ ltb 0 (blocks_in found)
unfolding is_chip_size
sized_test g len slice found z =
    let b = blocks_in found in
    cases (is_torn_size g slice)
    (λ t. let e : b ≡ blocks_of g len = z.is ∙ ap (λ (x : Bool). cond x (blocks_of g len) 0) t in rw t (other (ltb 0 (blocks_of g len)) ∙ ap (ltb 0) (sym e)))
    (λ t. let e : b ≡ 0 = z.is ∙ ap (λ (x : Bool). cond x (blocks_of g len) 0) t in rw t (never (ltb 0 (blocks_of g len)) ∙ ap (ltb 0) (sym e)))
  where
    other : (x : Bool) → (x && true) ≡ x
    other true = refl
    other false = refl

    never : (x : Bool) → (x && false) ≡ ltb 0 0
    never true = sym (le-ltb 0 0 (omega arith))
    never false = sym (le-ltb 0 0 (omega arith))

-- so the refusal is 1, or none
pub first_some : (g : Geometry) (len slice b : ℕ) → Sized g len slice (Some b) → start_refusal g len slice ≡ 0
first_some g len slice b z = ap (λ (x : Bool). when 1 (not x)) (sized_test g len slice (Some b) z ∙ lt-ltb 0 b (omega (arith, (z.chip b refl).least)))

pub first_none : (g : Geometry) (len slice : ℕ) → Sized g len slice None → start_refusal g len slice ≡ 1
first_none g len slice z = ap (λ (x : Bool). when 1 (not x)) (sized_test g len slice None z ∙ le-ltb 0 0 (omega arith))

-- a chip and a torn slice of a page, by the test of both
pub sized_chip : (g : Geometry) (len slice b : ℕ) → Sized g len slice (Some b) → ChipOf g b len × (slice ≡ page_size g)
sized_chip g len slice b s = (s.chip b refl, s.torn b refl)

-- the first tests of a format and of a mount
pub admitted : (g : Geometry) (b len slice : ℕ) → ChipOf g b len → slice ≡ page_size g → start_refusal g len slice ≡ 0
admitted g b len slice c e = first_some g len slice b (sized_some g len slice b e c.blocks (λ z. omega (arith, c.least)))

pub not_admitted : (g : Geometry) (len slice : ℕ) → Sized g len slice None → start_refusal g len slice ≡ 1
not_admitted g len slice s = first_none g len slice s

-- the most operations of a commit are few enough on either part
pub enough_most : (n : Nand) → most_ops (geometry_of n) ≤ enough_writes n
enough_most Small = omega arith
enough_most Large = omega arith
