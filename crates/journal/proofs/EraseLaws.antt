-- The erases among the operations of a commit: those of its blocks. Assumes nothing.
use mathlib.Core.Path.{◌≡◌, refl, sym, ap, subst, ◌∙◌}
use mathlib.Core.List.{List, [], ◌∷◌, ◌++◌, map}
use Prim.Native.Nat.{ℕ, ◌+◌, ◌*◌, ◌<◌, ◌≤◌}
use native.Mathlib.Omega.{arith}
use lib.Dec.{eqb}
use lib.ListN.{length}
use borrow.Author.Tests.{eqb-true, ne_eqb}
use Rattle.lists.specs.Lists.{All, Diff, bit, count, flat, more, none}
use Rattle.lists.proofs.Alls.{All-map}
use Rattle.lists.proofs.Places.{length_map_from}
use Rattle.lists.proofs.Sets.{Mem, here, there, mem_all, mem_at}
use Rattle.lists.proofs.Tests.{cases}
use Rattle.chip.specs.Geometry.{Geometry}
use Rattle.chip.specs.Page.{Page, blank}
use Rattle.chip.specs.Chip.{Legal, Op, erase, filled, whole}
use Rattle.chip.specs.Erases.{erases_in, figures_after}
use Rattle.chip.proofs.EraseLaws.{figures_same}
use Rattle.pages.specs.Steps.{Live}
use Rattle.journal.specs.Commit.{commit_ops, writes_of}

-- writing a page erases nothing
page_erases : (b : ℕ) (news : List Live) → erases_in b (flat writes_of news) ≡ 0
page_erases b [] = refl
page_erases b (x ∷ news) = omega (arith, page_erases b news)

block_erases : (b : ℕ) (bs : List ℕ) → erases_in b (map erase bs) ≡ count (eqb b) bs
block_erases b [] = refl
block_erases b (c ∷ bs) = ap (λ (n : ℕ). bit (eqb b c) + n) (block_erases b bs)

pub commit_erases : (b : ℕ) (bs : List ℕ) (news : List Live) → erases_in b (commit_ops bs news) ≡ count (eqb b) bs
commit_erases b [] news = page_erases b news
commit_erases b (c ∷ bs) news = ap (λ (n : ℕ). bit (eqb b c) + n) (commit_erases b bs news)

-- so the figures after a commit are those after its erases
pub commit_figures : (bs : List ℕ) (news : List Live) (figures : List ℕ) → figures_after (map erase bs) figures ≡ figures_after (commit_ops bs news) figures
commit_figures bs news figures = figures_same (map erase bs) (commit_ops bs news) figures (λ b. block_erases b bs ∙ sym (commit_erases b bs news))

-- a block that is none of them
pub erased_none : (b : ℕ) (bs : List ℕ) → All (λ (c : ℕ). b ≡ c → ⊥) bs → count (eqb b) bs ≡ 0
erased_none b [] none = refl
erased_none b (c ∷ bs) (more h hs) = let e = erased_none b bs hs in rw (ne_eqb b c h) (omega arith)

-- a block that is erased is one of them
erased_one : (b : ℕ) (bs : List ℕ) → 0 < count (eqb b) bs → Mem b bs
erased_one b [] h = absurd (omega arith)
erased_one b (c ∷ bs) h =
    cases (eqb b c)
    (λ t. subst (λ (x : ℕ). Mem b (x ∷ bs)) (eqb-true b c t) here)
    (λ t. let z : 0 < 0 + count (eqb b) bs = (rw t at h) in there (erased_one b bs (omega arith)))

-- of blocks that are none of these
pub erased_others : (b : ℕ) (bs cs : List ℕ) → All (λ (c : ℕ). Mem c cs → ⊥) bs → 0 < count (eqb b) bs → count (eqb b) cs ≡ 0
erased_others b bs cs a h =
    erased_none b cs (mem_all cs (λ c m e. mem_at (erased_one b bs h) a (subst (λ (x : ℕ). Mem x cs) (sym e) m)))

-- blocks that differ: none is erased twice
pub erased_most : (b : ℕ) (bs : List ℕ) → Diff bs → count (eqb b) bs ≤ 1
erased_most b [] d = omega arith
erased_most b (c ∷ bs) d =
    cases (eqb b c)
    (λ t. let z = erased_none b bs (All-map (λ (x : ℕ) (h : c ≡ x → ⊥) (q : b ≡ x). h (sym (eqb-true b c t) ∙ q)) d.0) in rw t (omega arith))
    (λ t. let e = erased_most b bs d.1 in rw t (omega arith))

-- where the chip allows them, the blocks are on it
pub erased_on : (g : Geometry) (bs : List ℕ) (os : List Op) (ps : List Page) → Legal g ps (map erase bs ++ os) → All (λ (b : ℕ). b * g.pages + g.pages ≤ length ps) bs
erased_on g [] os ps h = none
erased_on g (b ∷ bs) os ps h =
    let z : length (whole g (erase b) ps) ≡ length ps = length_map_from 0 (filled g b (blank g)) ps in
    more h.0 (All-map (λ (c : ℕ) l. omega (arith, z)) (erased_on g bs os (whole g (erase b) ps) h.1))
