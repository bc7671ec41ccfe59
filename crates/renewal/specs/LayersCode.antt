-- How the code of nodes.rt and layers.rt holds a rebuilt tree: for each node below limit its units anew, as bytes at a place of its own.
use Rattle.std.specs.Prelude.{◌≡◌, List, [], ◌∷◌, ℕ, zero, suc, ◌+◌, ◌<◌, ◌≤◌, get_or, length}
use Rattle.pages.specs.declared.unit.Update.{Update}
use Rattle.views.specs.Nodes.{Entry, View, untouched, freed, view}
use Rattle.views.specs.NodeCode.{entries_in}
use Rattle.views.specs.Stored.{stored_list}
use Rattle.tree.specs.Tree.{Table, at, next}
use Rattle.tree.specs.Rebuild.{nodes_for, even_parts, put_nodes, entries_above, vacated, layers}
use Rattle.journal.specs.Plan.{rewrite}
use Rattle.journal.specs.PlanCode.{KeepsUnits}

-- every node of table t below limit: its units anew, and how many they are
pub record HoldsAnew (limit : ℕ) (t : Table) (sizes units : List ℕ) : Type 0 where
  pub kept : (n : ℕ) → n < limit → KeepsUnits n (rewrite (at t n)) (get_or sizes n 0) units
  pub numbers : length sizes ≡ 256
  pub bytes : length units ≡ 52224

-- the numbers below limit with a list are those with a view in table t
pub record Listed (limit : ℕ) (t : Table) (lens slots : List ℕ) : Type 0 where
  pub none : (n : ℕ) → n < limit → stored_list lens slots n ≡ [] → at t n ≡ untouched
  pub some : (n : ℕ) → n < limit → at t n ≡ untouched → stored_list lens slots n ≡ []

-- ---- one node
-- view w put for node n: its units kept and counted, those of the other nodes as before
pub record PutsView (n : ℕ) (w : View) (sizes units counts bytes : List ℕ) : Type 0 where
  pub own : KeepsUnits n (rewrite w) (get_or counts n 0) bytes
  pub others : (m : ℕ) (us : List Update) → (m ≡ n → ⊥) → KeepsUnits m us (get_or sizes m 0) units → KeepsUnits m us (get_or counts m 0) bytes
  pub numbers : length counts ≡ 256
  pub size : length bytes ≡ 52224

-- ---- numbers without records
-- the view of number n with this list: an empty leaf for node 0, freed where it has pages
abbrev pub vacant_view : ℕ → List ℕ → View
vacant_view zero ps = view 0 []
vacant_view (suc n) [] = untouched
vacant_view (suc n) (p ∷ ps) = freed

-- every number below limit has that view
pub record HoldsVacant (limit : ℕ) (lens slots sizes units : List ℕ) : Type 0 where
  pub kept : (n : ℕ) → n < limit → KeepsUnits n (rewrite (vacant_view n (stored_list lens slots n))) (get_or sizes n 0) units
  pub numbers : length sizes ≡ 256
  pub bytes : length units ≡ 52224

-- ---- levels
-- where the arrays held a table, they hold what f makes of it
pub record Turns (f : Table → Table) (sizes units counts bytes : List ℕ) : Type 0 where
  pub holds : (limit : ℕ) (t : Table) → HoldsAnew limit t sizes units → HoldsAnew limit (f t) counts bytes
  pub numbers : length counts ≡ 256
  pub size : length bytes ≡ 52224

-- the n entries es in r nodes of level l from number x on, and the entries for these nodes in front of the arrays ks and vs
pub record PutsLevel (l x n : ℕ) (es : List Entry) (sizes units counts bytes ks vs : List ℕ) (r : ℕ) : Type 0 where
  pub turns : Turns (put_nodes l x (even_parts (nodes_for n) n) es) sizes units counts bytes
  pub above : entries_in r ks vs ≡ entries_above 0 x (even_parts (nodes_for n) n) es
  pub count : r ≡ nodes_for n
  pub keys : length ks ≡ 256
  pub values : length vs ≡ 256

-- as many numbers as the nodes above n entries may take, up to `more` levels
abbrev pub nodes_above : ℕ → ℕ → ℕ
nodes_above zero n = 0
nodes_above (suc more) n = nodes_for n + nodes_above more (nodes_for n)

-- the levels above the entries es put from number x on, up to `more` levels higher; r is the number after them
pub record PutsLevels (more l x : ℕ) (es : List Entry) (sizes units counts bytes : List ℕ) (r : ℕ) : Type 0 where
  pub turns : Turns (layers more l x es) sizes units counts bytes
  pub numbers : (t : Table) → next t ≡ x → r ≡ next (layers more l x es t)
  pub few : r ≤ 256

-- the tree of the records es in the table of t: the arrays hold it, and its numbers are those below r
pub record LaysTree (limit : ℕ) (t : Table) (es : List Entry) (sizes units : List ℕ) (r : ℕ) : Type 0 where
  pub holds : HoldsAnew limit (layers 2 0 1 es (vacated t)) sizes units
  pub numbers : r ≡ next (layers 2 0 1 es (vacated t))
  pub few : r ≤ 256
