-- How the code folds the units of one node: the view that its structs and arrays show.
use Rattle.std.specs.Prelude.{◌≡◌, Bool, true, false, cond, List, [], ℕ, ◌*◌, ◌-◌, ◌<◌, ◌≤◌, eqb, drop, get_or, length, take, Some}
use Rattle.pages.specs.declared.unit.Unit as U
use Rattle.pages.specs.Units.{decode, decode_kind, word}
use Rattle.views.specs.declared.node.Node.{Node}
use Rattle.views.specs.declared.fold.Stage.{Stage}
use Rattle.views.specs.declared.fold.Stage.TheVariants.{Untouched, Freed, Broken, Full}
use Rattle.views.specs.declared.fold.Folded.{Folded}
use Rattle.views.specs.declared.fold.Shape.{Shape}
use Rattle.views.specs.Nodes.{View, untouched, freed, broken, view}
use Rattle.views.specs.NodeCode.{entries_of}

-- the view that a stage and a node show
abbrev pub view_at : Stage → Node → View
view_at Untouched n = untouched
view_at Freed n = freed
view_at Broken n = broken
view_at Full n = view n.level (entries_of n)

abbrev pub is_freed_stage : Stage → Bool
is_freed_stage Untouched = false
is_freed_stage Freed = true
is_freed_stage Broken = false
is_freed_stage Full = false

abbrev pub view_of : Folded → View
view_of f = view_at f.stage f.node

-- what a function that returns a folded node ensures: the view that it shows, and room for one entry more
pub record Stands (r : Folded) (w : View) : Type 0 where
  pub is : view_of r ≡ w
  pub room : r.node.len ≤ 16

-- the view so far as one struct, from its shape and the arrays that hold its entries
abbrev pub folded_in : Shape → List ℕ → List ℕ → Folded
folded_in s ks vs = record { stage = s.stage; node = record { level = s.level; len = s.len; keys = ks; values = vs } }

abbrev pub view_in : Shape → List ℕ → List ℕ → View
view_in s ks vs = view_of (folded_in s ks vs)

-- what a function that folds in two lent arrays ensures: the view, room for one entry more, and the arrays' lengths
pub record StandsIn (r : Shape) (ks vs : List ℕ) (w : View) : Type 0 where
  pub is : view_in r ks vs ≡ w
  pub room : r.len ≤ 16
  pub keys : length ks ≡ 17
  pub values : length vs ≡ 17

-- the view after a reset with this value, whatever the arrays hold
pub record IsReset (value : ℕ) (r : Shape) : Type 0 where
  pub is : (ks vs : List ℕ) → view_in r ks vs ≡ cond (eqb value 255) freed (view value [])
  pub room : r.len ≤ 16

-- kind, key and value of the bytes obey the layout, whatever the node
abbrev pub IsLaid : List ℕ → Type 0
IsLaid b = (m : ℕ) → (u : U.Unit) × (decode_kind m (get_or b 0 0) (word b 4) (word b 8) ≡ Some u) × (u.node ≡ m)

-- the bytes are a unit that obeys the layout and is of another node than n
abbrev pub IsPassed : ℕ → ℕ → List ℕ → Type 0
IsPassed limit n b = (u : U.Unit) × (decode limit b ≡ Some u) × (eqb u.node n ≡ false)

-- the units of p from i on, below r, are such
pub record Skips (limit n : ℕ) (p : List ℕ) (count i r : ℕ) : Type 0 where
  pub low : i ≤ r
  pub high : r ≤ count
  pub are : (k : ℕ) → i ≤ k → k < r → IsPassed limit n (take (length p - 12 * k) (drop (12 * k) p))
