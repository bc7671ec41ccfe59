-- Steps 1 to 3 of what an image means: which live pages stand, in which order, and which are void.
use Rattle.std.specs.Prelude.{Bool, true, cond, ◌&&◌, ◌||◌, not, List, [], ◌∷◌, ℕ, suc, ltb, eqb, take}
use Rattle.lists.specs.Lists.{filter, all, any, sort, all_below}
use Rattle.chip.specs.Geometry.{Geometry}
use Rattle.chip.specs.Page.{Page, is_live}
use Rattle.pages.specs.Data.{head_of, obeys}

-- a live page: its place on the chip and its data area
pub record Live : Type 0 where
  pub place : ℕ
  pub bytes : List ℕ

abbrev pub live : Geometry → ℕ → Page → Live
live g i x = record { place = i; bytes = take g.area x }

-- the live pages by place, the first page at place i
abbrev pub live_from : Geometry → ℕ → List Page → List Live
live_from g i [] = []
live_from g i (x ∷ xs) = cond (is_live g x) (live g i x ∷ live_from g (suc i) xs) (live_from g (suc i) xs)

unfoldable pub commit : Live → ℕ
commit x = (head_of x.bytes).commit

unfoldable pub index : Live → ℕ
index x = (head_of x.bytes).index

unfoldable pub count : Live → ℕ
count x = (head_of x.bytes).count

-- ---- step 2
-- two pages of equal commit number have equal counts and different indexes
abbrev pub agree : Live → Live → Bool
agree x y = cond (eqb (commit x) (commit y)) (eqb (count x) (count y) && not (eqb (index x) (index y))) true

-- any two of the pages
abbrev pub agree_all : List Live → Bool
agree_all [] = true
agree_all (x ∷ xs) = all (agree x) xs && agree_all xs

-- ---- step 3
-- the order: by commit number, then page index
unfoldable pub before : Live → Live → Bool
before x y = ltb (commit x) (commit y) || (eqb (commit x) (commit y) && ltb (index x) (index y))

abbrev pub ordered : List Live → List Live
ordered xs = sort before xs

-- the last of x and xs: in order, a page of the greatest commit number
abbrev pub last_from : Live → List Live → Live
last_from x [] = x
last_from x (y ∷ ys) = last_from y ys

unfoldable pub is_at : ℕ → ℕ → Live → Bool
is_at c i x = eqb (commit x) c && eqb (index x) i

-- the commit of page z has each index below its count among the pages xs
unfoldable pub full : Live → List Live → Bool
full z xs = all_below (count z) (λ (i : ℕ). any (is_at (commit z) i) xs)

abbrev pub of_commit : ℕ → Live → Bool
of_commit c x = eqb (commit x) c

-- what the steps say: a refusal, or the void pages and the standing pages, both in order
pub data Stood : Type 0 where
  refused : ℕ → Stood
  stand : (void standing : List Live) → Stood

-- with the void pages v gone: none left, 7; the greatest number left lacks an index, 8
abbrev pub without : List Live → List Live → Stood
without v [] = refused 7
without v (x ∷ xs) = cond (full (last_from x xs) (x ∷ xs)) (stand v (x ∷ xs)) (refused 8)

-- pages in order of which z is last: if its commit lacks an index, the pages of that commit are void
abbrev pub split : Live → List Live → Stood
split z xs =
    cond (full z xs) (stand [] xs)
    (without (filter (of_commit (commit z)) xs) (filter (λ (x : Live). not (of_commit (commit z) x)) xs))

abbrev pub split_last : List Live → Stood
split_last [] = refused 7
split_last (x ∷ xs) = split (last_from x xs) (x ∷ xs)

-- steps 1 to 3 on the live pages by place
abbrev pub settle : Geometry → List Live → Stood
settle g [] = refused 7
settle g (x ∷ xs) =
    cond (all (λ (y : Live). obeys g y.bytes) (x ∷ xs) && agree_all (x ∷ xs)) (split_last (ordered (x ∷ xs))) (refused 8)

-- steps 1 to 3 on the pages of an image
unfoldable pub steps : Geometry → List Page → Stood
steps g ps = settle g (live_from g 0 ps)
