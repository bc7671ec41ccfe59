-- How the code of leaves.rt gathers the records of a tree: leaf after leaf, each behind those before it in two arrays.
use Rattle.std.specs.Prelude.{◌≡◌, List, ◌++◌, ℕ, ◌+◌, ◌≤◌, length}
use Rattle.views.specs.Nodes.{Entry}
use Rattle.views.specs.NodeCode.{entries_in}
use Rattle.tree.specs.Tree.{Table, records}

-- the entries es put behind the first n of the arrays ks and vs, where 4,096 places hold them; then there are r, in the arrays ms and ws
pub record Gathers (es : List Entry) (n : ℕ) (ks vs : List ℕ) (r : ℕ) (ms ws : List ℕ) : Type 0 where
  pub few : r ≤ 4096
  pub keys : length ms ≡ length ks
  pub values : length ws ≡ length vs
  pub count : n + length es ≤ 4096 → r ≡ n + length es
  pub is : n + length es ≤ 4096 → entries_in r ms ws ≡ entries_in n ks vs ++ es

-- the records of table t, r of them, in front of the arrays ks and vs
pub record GathersRecords (t : Table) (r : ℕ) (ks vs : List ℕ) : Type 0 where
  pub few : r ≤ 4096
  pub keys : length ks ≡ 4096
  pub values : length vs ≡ 4096
  pub count : length (records t) ≤ 4096 → r ≡ length (records t)
  pub is : length (records t) ≤ 4096 → entries_in r ks vs ≡ records t
