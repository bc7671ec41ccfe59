-- How the code of places.rt lists the places of a commit's pages, and the blocks to erase before they are written.
use Rattle.std.specs.Prelude.{◌≡◌, cond, ◌&&◌, not, List, [], ◌∷◌, ℕ, ◌-◌, ◌*◌, ◌<◌, ltb, length, take}
use Rattle.lists.specs.Lists.{filter, All, Diff}
use Rattle.chip.specs.Geometry.{Geometry}
use Rattle.chip.specs.Page.{Page}
use Rattle.journal.specs.Plan.{free_at, pages_in, places, erases, wholly_free}

-- ---- parts of a plan under names that stay closed in contracts
-- the free pages of block b
unfoldable pub free_pages : Geometry → List Page → ℕ → List ℕ
free_pages g ps b = filter (free_at ps) (pages_in g b)

-- the first n places on the head and on the blocks bs
unfoldable pub first_places : Geometry → List Page → ℕ → List ℕ → ℕ → List ℕ
first_places g ps head bs n = take n (places g ps head bs)

-- the blocks of bs to erase before the first n places are written
unfoldable pub first_erases : Geometry → List Page → ℕ → List ℕ → ℕ → List ℕ
first_erases g ps head bs n = erases g ps (take n (places g ps head bs)) bs

-- the erases of a plan in one walk over the blocks; left: places still to be reached
abbrev pub erases_from : Geometry → List Page → ℕ → List ℕ → List ℕ
erases_from g ps left [] = []
erases_from g ps left (b ∷ bs) =
    cond (ltb 0 left && not (wholly_free g ps b)) (b ∷ erases_from g ps (left - g.pages) bs) (erases_from g ps (left - g.pages) bs)

-- ---- blocks that a commit may write: on the chip, not the head, no one twice
pub record Spare (B head : ℕ) (bs : List ℕ) : Type 0 where
  pub range : All (λ (b : ℕ). (b < B) × (b ≡ head → ⊥)) bs
  pub differ : Diff bs

-- the first n places on the head and on the first w blocks, written; r of them are not on the head
pub record Lays (g : Geometry) (B head w n : ℕ) (ps : List Page) (blocks after : List ℕ) (r : ℕ) : Type 0 where
  pub list : take n after ≡ first_places g ps head (take w blocks) n
  pub on : All (λ (p : ℕ). p < B * g.pages) (take n after)
  pub reach : r ≡ n - length (free_pages g ps head)
