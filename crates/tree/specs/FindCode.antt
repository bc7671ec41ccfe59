-- What the code that finds a key answers, in the terms of the tree.
use Rattle.std.specs.Prelude.{◌≡◌, List, ℕ, ◌+◌, ◌*◌, ◌≤◌, length, take, drop, Option, Some, None}
use Rattle.views.specs.declared.node.Node.{Node}
use Rattle.views.specs.Nodes.{Entry, View}
use Rattle.views.specs.NodeCode as C
use Rattle.tree.specs.declared.find.NodeRead.{NodeRead}
use Rattle.tree.specs.declared.find.Looked.{Looked}
use Rattle.tree.specs.Tree.{level_of, entries_of, Table, Found, absent, found, find_at, find, path_at, path}
use Rattle.tree.specs.Shown.{pages_read}

-- the entries from i on, of n keys and n values
abbrev pub entries_from : ℕ → ℕ → List ℕ → List ℕ → List Entry
entries_from n i ks vs = C.pairs (drop i (take n ks)) (drop i (take n vs))

-- what a hit says
abbrev pub hit_of : Option ℕ → Found
hit_of (Some v) = found v
hit_of None = absent

-- a node of the code that shows the level and the entries of a view
pub record ShowsView (w : View) (r : Node) : Type 0 where
  pub level : r.level ≡ level_of w
  pub entries : C.entries_of r ≡ entries_of w
  pub len : length (C.entries_of r) ≡ r.len
  pub room : r.len ≤ 16

-- a node of the code that shows a view, with its length on flash
pub record ShowsRead (w : View) (size : ℕ) (r : NodeRead) : Type 0 where
  pub node : ShowsView w r.node
  pub length : r.pages ≡ size
  pub few : r.pages ≤ 4

-- what the way from node n of level l answers for key k; f are the lengths of the nodes on flash
pub record Finds (f : ℕ → ℕ) (l n k : ℕ) (t : Table) (r : Looked) : Type 0 where
  pub found : hit_of r.hit ≡ find_at l n k t
  pub pages : r.pages ≡ pages_read f (path_at l n k t)
  pub few : r.pages ≤ 4 * (l + 1)

-- what the way from the root answers
pub record Answers (f : ℕ → ℕ) (k : ℕ) (t : Table) (r : Looked) : Type 0 where
  pub found : hit_of r.hit ≡ find k t
  pub pages : r.pages ≡ pages_read f (path k t)
  pub few : r.pages ≤ 16
