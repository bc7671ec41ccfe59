-- What is pushed to the buffer, and what one pass over pages makes of the node table that is stored in arrays.
use Rattle.std.specs.Prelude.{◌≡◌, Bool, true, cond, ◌&&◌, ℕ, ◌*◌, ◌%◌, ◌<◌, ltb, leb, eqb, length, get_or}
use mathlib.Core.List.{List, [], map, foldl}
use Rattle.lists.specs.Lists.{all, flat, patch}
use Rattle.chip.specs.Geometry.{Geometry, most_pages}
use Rattle.chip.specs.Chip.{pages_of}
use Rattle.pages.specs.declared.unit.Unit as U
use Rattle.pages.specs.Units.{encode}
use Rattle.pages.specs.Data.{head_of}
use Rattle.pages.specs.Steps.{Live, live}
use Rattle.views.specs.declared.node.Node as N
use Rattle.views.specs.Nodes.{Entry, inserted, anew}
use Rattle.views.specs.Table.{Event, events, is_sound, Node, turn}
use Rattle.views.specs.Groups.{unit_for}
use Rattle.views.specs.NodeCode.{entries_of}
use Rattle.views.specs.Stored.{Stores}

-- ---- the buffer
-- a buffer of count units with the units us behind them
abbrev pub pushed : List ℕ → ℕ → List U.Unit → List ℕ
pushed bytes count us = patch bytes (12 * count) (12 * length us) (flat encode us)

-- the inserts of entries, as units of node n
abbrev pub entry_units : ℕ → List Entry → List U.Unit
entry_units n es = map (unit_for n) (map inserted es)

-- a node written anew, as units of node n
abbrev pub node_units : ℕ → N.Node → List U.Unit
node_units n x = map (unit_for n) (anew x.level (entries_of x))

-- ---- the table
-- from the arrays l and s to the arrays r and t, the list of node n becomes what f makes of it, and every other list stays
abbrev pub Becomes : ℕ → (List ℕ → List ℕ) → List ℕ → List ℕ → List ℕ → List ℕ → Type 0
Becomes n f l s r t = (m : ℕ) → m < 256 → (ps : List ℕ) → Stores l s m ps → Stores r t m (cond (eqb n m) (f ps) ps)

-- the list of every node becomes what these units make of it, whatever the node's view is
abbrev pub Turned : List Event → List ℕ → List ℕ → List ℕ → List ℕ → Type 0
Turned es l s r t = (m : ℕ) → m < 256 → (x : Node) → Stores l s m x.pages → Stores r t m (foldl (turn m) x es).pages

-- what a function that notes units answers: whether all is well, and what the lists are where it is
pub record Notes (well : Bool) (es : List Event) (l s r t : List ℕ) (answer : Bool) : Type 0 where
  pub good : answer ≡ well
  pub is : answer ≡ true → Turned es l s r t

-- the page at place p of an image
abbrev pub page_at : Geometry → List ℕ → ℕ → Live
page_at g image p = live g p (get_or (pages_of g image) p [])

-- it is on the chip, and has no more units than a page holds
unfoldable pub is_readable : Geometry → List ℕ → ℕ → Bool
is_readable g image p = ltb p (length (pages_of g image)) && leb (head_of (page_at g image p).bytes).units g.units

-- a key's place is its remainder: the pages of keys, and whether each of them can be read
abbrev pub pages_at : Geometry → List ℕ → List ℕ → List Live
pages_at g image keys = map (λ (k : ℕ). page_at g image (k % most_pages)) keys

abbrev pub all_readable : Geometry → List ℕ → List ℕ → Bool
all_readable g image keys = all (λ (k : ℕ). is_readable g image (k % most_pages)) keys

-- a pass over the pages of keys
abbrev pub Passes : Geometry → List ℕ → List ℕ → ℕ → List ℕ → List ℕ → List ℕ → List ℕ → Bool → Type 0
Passes g image keys limit l s r t answer =
    Notes (all_readable g image keys && all is_sound (events limit (pages_at g image keys))) (events limit (pages_at g image keys)) l s r t answer

-- lengths that hold an empty list for each node, whatever the slots hold
abbrev pub Empty : List ℕ → Type 0
Empty l = (s : List ℕ) (m : ℕ) → m < 256 → Stores l s m []
