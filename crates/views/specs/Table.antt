-- Steps 4 and 5: the units of the standing pages in order make, for each node, its view and its list of pages.
use Rattle.std.specs.Prelude.{Bool, true, false, cond, ◌&&◌, ℕ, leb, eqb, length, drop, Option, Some, None}
use mathlib.Core.List.{List, [], ◌∷◌, map, foldl}
use Rattle.lists.specs.Lists.{all, tab, flat}
use Rattle.chip.specs.Geometry.{Geometry}
use Rattle.chip.specs.Page.{Page}
use Rattle.pages.specs.declared.unit.Update.{Update}
use Rattle.pages.specs.declared.unit.Update.TheVariants.{Insert, Delete, Reset}
use Rattle.pages.specs.declared.unit.Unit.{Unit}
use Rattle.pages.specs.Units.{decodes}
use Rattle.pages.specs.Data.{head_of}
use Rattle.pages.specs.Steps.{Live, commit, last_from, Stood, refused, stand, steps}
use Rattle.views.specs.Nodes.{View, untouched, freed, broken, view, apply}

-- what stands at a place of a page: a unit, or 12 bytes that are none
pub record Event : Type 0 where
  pub place : ℕ
  pub unit : Option Unit

abbrev pub event_at : ℕ → Option Unit → Event
event_at p d = record { place = p; unit = d }

-- the units of a page in order; node numbers are below limit
unfoldable pub events_of : ℕ → Live → List Event
events_of limit x = map (event_at x.place) (decodes limit (head_of x.bytes).units (drop 8 x.bytes))

-- the units of pages by commit number, page index, place
abbrev pub events : ℕ → List Live → List Event
events limit xs = flat (events_of limit) xs

-- it obeys the layout
abbrev pub is_good : Option Unit → Bool
is_good (Some u) = true
is_good None = false

abbrev pub is_sound : Event → Bool
is_sound e = is_good e.unit

-- a node: its view, and its list of pages, the newest first
pub record Node : Type 0 where
  pub now : View
  pub pages : List ℕ

-- a page joins a list unless it is the newest there already
abbrev pub joins : ℕ → List ℕ → List ℕ
joins p [] = p ∷ []
joins p (q ∷ qs) = cond (eqb p q) (q ∷ qs) (p ∷ q ∷ qs)

-- a node's list is the pages with its units from its last reset on
abbrev pub listed : Update → ℕ → List ℕ → List ℕ
listed (Insert k v) p ps = joins p ps
listed (Delete k) p ps = joins p ps
listed (Reset l) p ps = p ∷ []

-- an update that stands on page p
abbrev pub updated : ℕ → Update → Node → Node
updated p u s = record { now = apply s.now u; pages = listed u p s.pages }

-- what a unit on page p does to node n: nothing where it is for another node
abbrev pub turn_unit : ℕ → ℕ → Option Unit → Node → Node
turn_unit n p (Some u) s = cond (eqb u.node n) (updated p u.update s) s
turn_unit n p None s = s

abbrev pub turn : ℕ → Node → Event → Node
turn n s e = turn_unit n e.place e.unit s

abbrev pub fresh : Node
fresh = record { now = untouched; pages = [] }

-- node n after these units
unfoldable pub node_of : ℕ → List Event → Node
node_of n es = foldl (turn n) fresh es

-- the nodes below limit, by number
abbrev pub table : ℕ → List Event → List Node
table limit es = tab 0 limit (λ (n : ℕ). node_of n es)

abbrev pub is_whole : View → Bool
is_whole untouched = true
is_whole freed = true
is_whole broken = false
is_whole (view l es) = true

-- a node passes steps 4 and 5: its view is not broken, and its list has at most 4 pages
unfoldable pub is_well : Node → Bool
is_well s = is_whole s.now && leb (length s.pages) 4

-- what steps 1 to 5 say: a refusal, or the nodes and the greatest standing commit number
pub data NodesRead : Type 0 where
  refusal : ℕ → NodesRead
  means : (nodes : List Node) (number : ℕ) → NodesRead

abbrev pub read : ℕ → List Live → ℕ → NodesRead
read limit xs c =
    cond (all is_sound (events limit xs) && all is_well (table limit (events limit xs))) (means (table limit (events limit xs)) c) (refusal 8)

abbrev pub read_stood : ℕ → Stood → NodesRead
read_stood limit (refused n) = refusal n
read_stood limit (stand v []) = refusal 7
read_stood limit (stand v (x ∷ xs)) = read limit (x ∷ xs) (commit (last_from x xs))

-- steps 1 to 5 on the pages of an image whose node numbers are below limit
unfoldable pub meaning : Geometry → ℕ → List Page → NodesRead
meaning g limit ps = read_stood limit (steps g ps)
