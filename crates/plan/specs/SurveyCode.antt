-- What the code of survey.rt finds in one pass over the pages and the stored node lists, whatever the arrays hold: the head block, the unused blocks.
use Rattle.std.specs.Prelude.{◌≡◌, Option, Some, None, Bool, true, false, cond, ◌&&◌, ◌||◌, not, List, [], ◌∷◌, ◌++◌, ℕ, ◌+◌, ◌/◌, ◌<◌, ◌≤◌, ltb, eqb, length, take, set, get_or}
use Rattle.lists.specs.Lists.{filter, any}
use Rattle.chip.specs.Geometry.{Geometry}
use Rattle.chip.specs.Page.{Page, is_live}
use Rattle.chip.specs.Chip.{in_block}
use Rattle.pages.specs.Steps.{Live, live, live_from, commit, index, last_from, ordered}
use Rattle.views.specs.Stored.{stored_list}
use Rattle.journal.specs.Plan.{holds_commit, count_from, ring, head_block}
use Rattle.journal.specs.MountCode.{is_of}
use Rattle.plan.specs.declared.survey.Surveyed.{Surveyed}
use Rattle.plan.specs.declared.survey.Newest.{Newest}

-- some node's list, as it is stored, names a page of block b
abbrev pub listed_in : Geometry → ℕ → List ℕ → List ℕ → ℕ → Bool
listed_in g limit lens slots b = any (λ (n : ℕ). any (in_block g b) (stored_list lens slots n)) (count_from 0 limit)

-- used: it holds a page of some stored list, or of commit c
unfoldable pub used_in : Geometry → ℕ → List ℕ → List ℕ → ℕ → List Live → ℕ → Bool
used_in g limit lens slots c xs b = listed_in g limit lens slots b || holds_commit g c xs b

-- the blocks of B that are neither used nor the head, in circular order after it
unfoldable pub unused_in : Geometry → ℕ → ℕ → List ℕ → List ℕ → ℕ → List Live → ℕ → List ℕ
unused_in g B limit lens slots c xs head = filter (λ (b : ℕ). not (used_in g limit lens slots c xs b)) (ring B head)

-- the used blocks of B but the head, in circular order after it
unfoldable pub used_around : Geometry → ℕ → ℕ → List ℕ → List ℕ → ℕ → List Live → ℕ → List ℕ
used_around g B limit lens slots c xs head = filter (used_in g limit lens slots c xs) (ring B head)

-- the first of a list, if there is one
abbrev pub first_of : List ℕ → Option ℕ
first_of [] = None
first_of (b ∷ bs) = Some b

-- ---- what a survey tells: the head, how many blocks are unused and which, the oldest block
pub record Surveys (g : Geometry) (B limit : ℕ) (lens slots : List ℕ) (c : ℕ) (ps : List Page) (blocks : List ℕ) (r : Surveyed) : Type 0 where
  pub head : r.head ≡ head_block g ps
  pub on : r.head < B
  pub list : take r.unused blocks ≡ unused_in g B limit lens slots c (live_from g 0 ps) r.head
  pub size : length (unused_in g B limit lens slots c (live_from g 0 ps) r.head) ≡ r.unused
  pub few : r.unused < B
  pub oldest : r.oldest ≡ first_of (used_around g B limit lens slots c (live_from g 0 ps) r.head)
  pub below : (b : ℕ) → r.oldest ≡ Some b → b < B

-- ---- marks, one for each block
-- the block of page p marked
abbrev pub mark : Geometry → List Bool → ℕ → List Bool
mark g m p = set m (p / g.pages) true

-- the blocks that hold a page of commit c marked, from the last page down
abbrev pub mark_held : Geometry → ℕ → List Live → List Bool → List Bool
mark_held g c [] m = m
mark_held g c (x ∷ xs) m = cond (eqb (commit x) c) (mark g (mark_held g c xs m) x.place) (mark_held g c xs m)

abbrev pub is_held : List Bool → ℕ → Bool
is_held m b = get_or m b false

abbrev pub is_unmarked : List Bool → ℕ → Bool
is_unmarked m b = not (is_held m b)

-- ---- the last page in order
abbrev pub noted : Live → Newest
noted x = record { commit = commit x; index = index x; place = x.place }

abbrev pub last_in : List Live → Option Newest
last_in [] = None
last_in (x ∷ xs) = Some (noted (last_from x xs))

-- page y comes behind z in order
abbrev pub is_behind : Newest → Newest → Bool
is_behind z y = ltb z.commit y.commit || (eqb z.commit y.commit && ltb z.index y.index)

-- z, or a page y on a lower place if it comes behind z in order or there is no z
abbrev pub later : Option Newest → Newest → Newest
later None y = y
later (Some z) y = cond (is_behind z y) y z

-- what one page more, at place p, makes of the last page z and of the marks m
pub record LooksAtPage (g : Geometry) (c p : ℕ) (x : Page) (z : Option Newest) (m : List Bool) (r : Option Newest) (n : List Bool) : Type 0 where
  pub newest : r ≡ cond (is_live g x) (Some (later z (noted (live g p x)))) z
  pub marks : n ≡ cond (is_of g c x) (mark g m p) m

-- what all pages make of the marks m
pub record LooksAtAll (g : Geometry) (c : ℕ) (ps : List Page) (m : List Bool) (r : Option Newest) (n : List Bool) : Type 0 where
  pub newest : r ≡ last_in (ordered (live_from g 0 ps))
  pub marks : n ≡ mark_held g c (live_from g 0 ps) m

-- the marks say which blocks are used
pub record Marked (g : Geometry) (limit : ℕ) (lens slots : List ℕ) (c : ℕ) (ps : List Page) (m : List Bool) : Type 0 where
  pub are : (b : ℕ) → b < 32 → is_held m b ≡ used_in g limit lens slots c (live_from g 0 ps) b

-- x behind the first n of a list, where keep says so
pub record Pushes (keep : Bool) (x : ℕ) (before after : List ℕ) (n r : ℕ) : Type 0 where
  pub list : take r after ≡ take n before ++ cond keep (x ∷ []) []
  pub low : n ≤ r
  pub high : r ≤ n + 1
