-- What the plan of a commit must be: all laws of a commit follow from this alone, whichever policy made the plan.
use Rattle.std.specs.Prelude.{◌≡◌, Bool, true, false, cond, ◌&&◌, ◌||◌, not, List, [], ℕ, suc, ◌*◌, ◌≤◌, ◌<◌, leb, eqb, length, take}
use Rattle.lists.specs.Lists.{filter, any, tab, flat}
use Rattle.chip.specs.Geometry.{Geometry}
use Rattle.chip.specs.Page.{Page}
use Rattle.chip.specs.Chip.{in_block}
use Rattle.pages.specs.declared.unit.Update.{Update}
use Rattle.pages.specs.declared.unit.Unit as U
use Rattle.pages.specs.Steps.{live_from}
use Rattle.views.specs.Nodes.{View}
use Rattle.views.specs.Table.{Node}
use Rattle.views.specs.Groups.{own, present, is_reset}
use Rattle.journal.specs.Commit.{Pack, units_of_packs}
use Rattle.journal.specs.Plan.{Plan, rewrite, keep, count_from, unused, places, head_block, spare_blocks, plan_on}

-- ---- what a commit may write of a node: the node as the buffer leaves it, or its own buffered updates; and the pages of its list
pub record Contents : Type 0 where
  pub after : ℕ → View
  pub buffered : ℕ → List Update
  pub listed : ℕ → List ℕ

-- of the nodes T and the buffer us
abbrev pub contents_of : (ℕ → Node) → List U.Unit → Contents
contents_of T us = record { after = λ (n : ℕ). present n (T n).now us; buffered = λ (n : ℕ). own n us; listed = λ (n : ℕ). (T n).pages }

-- ---- the plan as a value: how many pages, and for each node its page, if it has one, and whether it is written anew or in its own units
pub data Target : Type 0 where
  unwritten : Target
  in_page : ℕ → Target

pub record Assignment : Type 0 where
  pub count : ℕ
  pub target : ℕ → Target
  pub is_anew : ℕ → Bool

-- the node is in page p
abbrev pub goes_to : ℕ → Target → Bool
goes_to p unwritten = false
goes_to p (in_page q) = eqb q p

-- the node is in one of `count` pages
abbrev pub Assigned : ℕ → Target → Type 0
Assigned count unwritten = ⊥
Assigned count (in_page q) = q < count

-- what is written of node n: the node anew, or its own buffered updates; nothing of a node in that form that has none
abbrev pub written_of : Contents → (ℕ → Bool) → ℕ → List Update
written_of N is_anew n = cond (is_anew n) (rewrite (N.after n)) (N.buffered n)

-- page p: the nodes with page p, in the order of their numbers
abbrev pub page_packs : (ℕ → List Update) → (ℕ → Target) → ℕ → ℕ → List Pack
page_packs f target limit p = flat (λ (n : ℕ). cond (goes_to p (target n)) (keep n (f n) []) []) (count_from 0 limit)

abbrev pub all_packs : Contents → Assignment → ℕ → List (List Pack)
all_packs N A limit = tab 0 A.count (page_packs (written_of N A.is_anew) A.target limit)

-- ---- places: the free pages of the head, then all pages of the unused blocks in circular order after it
abbrev pub unused_blocks : Geometry → ℕ → List Page → List Node → ℕ → List ℕ
unused_blocks g B ps tb G = unused g B tb G (live_from g 0 ps) (head_block g ps)

abbrev pub candidate_places : Geometry → ℕ → List Page → List Node → ℕ → List ℕ
candidate_places g B ps tb G = places g ps (head_block g ps) (unused_blocks g B ps tb G)

-- the places ws reach no page of block b, and no list of a node that is not written anew names one: b is unused after the commit
abbrev pub stays_unused : Geometry → ℕ → Contents → (ℕ → Bool) → List ℕ → ℕ → Bool
stays_unused g limit N is_anew ws b =
    not (any (in_block g b) ws) && not (any (λ (n : ℕ). not (is_anew n) && any (in_block g b) (N.listed n)) (count_from 0 limit))

-- ---- what is erased, and each page with its place and its packs
abbrev pub plan_from : Geometry → ℕ → ℕ → List Page → List Node → ℕ → Contents → Assignment → Plan
plan_from g limit B ps tb G N A = plan_on g ps (head_block g ps) (unused_blocks g B ps tb G) (all_packs N A limit)

-- ---- the image ps of B blocks means the table tb and the number G; N are the contents of the nodes below limit
pub record Admissible (g : Geometry) (limit B : ℕ) (ps : List Page) (tb : List Node) (G : ℕ) (N : Contents) (A : Assignment) : Type 0 where
  -- a node of which something is written has a page: one with buffered units, or one written anew
  pub assigned : (n : ℕ) → n < limit → 0 < length (written_of N A.is_anew n) → Assigned A.count (A.target n)
  -- buffered units that hold a reset, or of a node whose list has 4 pages: anew
  pub forced : (n : ℕ) → n < limit → 0 < length (N.buffered n) → (any is_reset (N.buffered n) || leb 4 (length (N.listed n))) ≡ true → A.is_anew n ≡ true
  -- each page has units, and not more than fit
  pub some : (p : ℕ) → p < A.count → 0 < length (units_of_packs (page_packs (written_of N A.is_anew) A.target limit p))
  pub fits : (p : ℕ) → p < A.count → length (units_of_packs (page_packs (written_of N A.is_anew) A.target limit p)) ≤ g.units
  pub few : A.count ≤ 4 * B
  -- a place for each page, and one over
  pub enough : suc A.count ≤ length (candidate_places g B ps tb G)
  -- where there were unused blocks for a snapshot, there are again
  pub leaves : spare_blocks g B ≤ length (unused_blocks g B ps tb G)
      → spare_blocks g B ≤ length (filter (stays_unused g limit N A.is_anew (take (suc A.count) (candidate_places g B ps tb G))) (count_from 0 B))
