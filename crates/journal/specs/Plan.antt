-- A node written anew; used and unused blocks, the places of a commit, what is erased first; the plan with its operations.
use Rattle.std.specs.Prelude.{Bool, true, false, ◌&&◌, ◌||◌, not, List, [], ◌∷◌, ◌++◌, ℕ, suc, ◌+◌, ◌-◌, ◌*◌, ◌/◌, leb, eqb, length, take, get_or}
use Rattle.lists.specs.Lists.{filter, all, any, tab, flat}
use Rattle.chip.specs.Geometry.{Geometry}
use Rattle.chip.specs.Page.{Page, is_free}
use Rattle.chip.specs.Chip.{Op, in_block}
use Rattle.pages.specs.declared.unit.Update.{Update}
use Rattle.pages.specs.Steps.{Live, live_from, commit, last_from, ordered}
use Rattle.views.specs.Nodes.{View, untouched, freed, broken, view, anew}
use Rattle.views.specs.Table.{Node, fresh}
use Rattle.journal.specs.Commit.{Pack, Sheet, new_pages, commit_ops}

-- ---- a node written anew, a freed one by its reset; nothing of one that is untouched or broken
abbrev pub rewrite : View → List Update
rewrite untouched = []
rewrite freed = anew 255 []
rewrite broken = []
rewrite (view l es) = anew l es

-- a pack of node n before the packs ks, if it has updates
abbrev pub keep : ℕ → List Update → List Pack → List Pack
keep n [] ks = ks
keep n (u ∷ us) ks = record { node = n; updates = u ∷ us } ∷ ks

-- ---- blocks
-- a list of the table names a page of block b
abbrev pub is_listed : Geometry → List Node → ℕ → Bool
is_listed g tb b = any (λ (s : Node). any (in_block g b) s.pages) tb

-- a page of commit c stands in block b
abbrev pub holds_commit : Geometry → ℕ → List Live → ℕ → Bool
holds_commit g c xs b = any (λ (x : Live). eqb (commit x) c && in_block g b x.place) xs

-- used: it holds a page of some node's list, or of commit c
unfoldable pub is_used : Geometry → List Node → ℕ → List Live → ℕ → Bool
is_used g tb c xs b = is_listed g tb b || holds_commit g c xs b

-- b, b + 1, .., n of them
abbrev pub count_from : ℕ → ℕ → List ℕ
count_from b n = tab b n (λ (i : ℕ). i)

-- all B blocks but the head, in circular order after it
abbrev pub ring : ℕ → ℕ → List ℕ
ring B head = count_from (suc head) (B - suc head) ++ count_from 0 head

unfoldable pub unused : Geometry → ℕ → List Node → ℕ → List Live → ℕ → List ℕ
unused g B tb c xs head = filter (λ (b : ℕ). not (is_used g tb c xs b)) (ring B head)

-- room: at least h of the B blocks are unused
abbrev pub has_room : Geometry → ℕ → ℕ → List Node → ℕ → List Live → Bool
has_room g B h tb c xs = leb h (length (filter (λ (b : ℕ). not (is_used g tb c xs b)) (count_from 0 B)))

-- ---- places
-- page p is on the chip and free
abbrev pub free_at : List Page → ℕ → Bool
free_at ps p = is_free (get_or ps p (0 ∷ []))

abbrev pub pages_in : Geometry → ℕ → List ℕ
pages_in g b = count_from (b * g.pages) g.pages

-- the free pages of the head, then all pages of the blocks bs
abbrev pub places : Geometry → List Page → ℕ → List ℕ → List ℕ
places g ps head bs = filter (free_at ps) (pages_in g head) ++ flat (pages_in g) bs

-- every page of block b is free
abbrev pub wholly_free : Geometry → List Page → ℕ → Bool
wholly_free g ps b = all (free_at ps) (pages_in g b)

-- the places ws reach block b, and it is not wholly free: it is erased before they are written
abbrev pub is_reclaimed : Geometry → List Page → List ℕ → ℕ → Bool
is_reclaimed g ps ws b = any (in_block g b) ws && not (wholly_free g ps b)

-- those of the blocks bs
abbrev pub erases : Geometry → List Page → List ℕ → List ℕ → List ℕ
erases g ps ws bs = filter (is_reclaimed g ps ws) bs

-- each page with its place
abbrev pub sheets : List ℕ → List (List Pack) → List Sheet
sheets [] ks = []
sheets (p ∷ ws) [] = []
sheets (p ∷ ws) (k ∷ ks) = record { place = p; packs = k } ∷ sheets ws ks

-- ---- the head: the block of the last page of the greatest commit
abbrev pub last_place : List Live → ℕ
last_place [] = 0
last_place (x ∷ xs) = (last_from x xs).place

abbrev pub head_block : Geometry → List Page → ℕ
head_block g ps = last_place (ordered (live_from g 0 ps)) / g.pages

-- blocks that a snapshot needs: 4 B pages and one more
abbrev pub spare_blocks : Geometry → ℕ → ℕ
spare_blocks g B = 4 * B / g.pages + 1

-- the most operations that a commit has on a chip of the most blocks, 32: three for a page, 4 pages for a block, and the erases of as many blocks
abbrev pub most_ops : Geometry → ℕ
most_ops g = 12 * 32 + spare_blocks g 32

-- ---- the plan: the blocks to erase, the pages to write
pub record Plan : Type 0 where
  pub erased : List ℕ
  pub written : List Sheet

-- pages ks, to places of the head and of the blocks bs
abbrev pub plan_on : Geometry → List Page → ℕ → List ℕ → List (List Pack) → Plan
plan_on g ps head bs ks =
    record {
      erased = erases g ps (take (suc (length ks)) (places g ps head bs)) bs;
      written = sheets (take (suc (length ks)) (places g ps head bs)) ks;
    }

-- nothing: on a chip that no format began there may be no room
abbrev pub stuck : Plan
stuck = record { erased = []; written = [] }

-- no page is written
abbrev pub is_empty : List Sheet → Bool
is_empty [] = true
is_empty (t ∷ ts) = false

-- node n of a table
abbrev pub node_at : List Node → ℕ → Node
node_at tb n = get_or tb n fresh

-- the pages of a plan for commit c + 1, and its operations
abbrev pub news_of : Geometry → ℕ → Plan → List Live
news_of g c q = new_pages g (suc c) q.written

abbrev pub ops_of : Geometry → ℕ → Plan → List Op
ops_of g c q = commit_ops q.erased (news_of g c q)
