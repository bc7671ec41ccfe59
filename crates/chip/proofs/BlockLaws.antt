-- A block made blank, or filled page by page. Assumes nothing.
use Rattle.std.proofs.Common.{◌≡◌, ℕ, zero, suc, ◌+◌, ◌-◌, ◌*◌, List, ◌++◌, length, drop, replicate, sym, ap, ◌∙◌, ap₂, append-nil, suc-mul, add-one, arith}
use native.Mathlib.Nat.{add-sub_cancel_left}
use lib.ListN.{replicate-append-replicate}
use lib.Seq.{drop-length}
use Rattle.lists.specs.Lists.{patch, repeat}
use Rattle.lists.proofs.Parts.{repeat_none, repeat_next}
use Rattle.chip.specs.Geometry.{Geometry, page_size, block_size}
use Rattle.chip.specs.Chip.{whole_block}
use Rattle.chip.proofs.PageLaws.{blank_bytes}

-- ---- an erased block is blank in every byte
repeat_replicate : (n k x : ℕ) → repeat n (replicate k x) ≡ replicate (n * k) x
unfolding repeat
repeat_replicate zero k x = ap (λ (m : ℕ). replicate m x) (let e : 0 ≡ 0 * k = omega arith in e)
repeat_replicate (suc n) k x =
    ap (λ (ys : List ℕ). replicate k x ++ ys) (repeat_replicate n k x)
    ∙ replicate-append-replicate k (n * k) x
    ∙ ap (λ (m : ℕ). replicate m x) (let e : k + n * k ≡ suc n * k = omega (arith, suc-mul n k) in e)

pub blank_block : (g : Geometry) (block : List ℕ) → length block ≡ block_size g → replicate (length block) 255 ≡ whole_block g
blank_block g block h =
    ap (λ (n : ℕ). replicate n 255) h ∙ sym (repeat_replicate g.pages (page_size g) 255) ∙ ap (repeat g.pages) (sym (blank_bytes g))

-- ---- a loop over the pages of a block
-- the next page of k bytes put into a block whose first i pages are filled
pub fill_more : (page before block last : List ℕ) (i k : ℕ) → length page ≡ k → block ≡ repeat i page ++ drop (i * k) before
    → last ≡ page → patch block (i * k) (i * k + k - i * k) last ≡ repeat (i + 1) page ++ drop ((i + 1) * k) before
fill_more page before block last i k h e c =
    ap₂ (λ (n : ℕ) (x : List ℕ). patch block (i * k) n x) (add-sub_cancel_left (i * k) k) c
    ∙ ap (λ (x : List ℕ). patch x (i * k) k page) e
    ∙ repeat_next page before i k h
    ∙ ap (λ (n : ℕ). repeat n page ++ drop (n * k) before) (sym (add-one i))

pub fill_start : (page block : List ℕ) (k : ℕ) → block ≡ repeat 0 page ++ drop (0 * k) block
fill_start page block k = rw (repeat_none page, let e : 0 * k ≡ 0 = omega arith in e)

pub fill_done : (page before block : List ℕ) (i n k : ℕ) → block ≡ repeat i page ++ drop (i * k) before → i ≡ n → length before ≡ n * k → block ≡ repeat n page
fill_done page before block i n k e q h =
    e ∙ ap (λ (m : ℕ). repeat m page ++ drop (m * k) before) q
    ∙ ap (λ (m : ℕ). repeat n page ++ drop m before) (sym h)
    ∙ ap (λ (x : List ℕ). repeat n page ++ x) (drop-length before)
    ∙ append-nil (repeat n page)
