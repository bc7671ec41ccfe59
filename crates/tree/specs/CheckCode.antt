-- What the code of step 6 answers: the rules of one node by themselves, and what a walk over nodes says with the counts that it leaves.
use Rattle.std.specs.Prelude.{◌≡◌, ◌⊎◌, Bool, true, false, ◌&&◌, List, [], ◌∷◌, map, ℕ, zero, suc, ◌+◌, ◌≤◌, leb, eqb, length, get_or, Option, Some, None, is_some, IfSome}
use Rattle.lists.specs.Lists.{flat}
use Rattle.chip.specs.Geometry.{Geometry}
use Rattle.chip.specs.Chip.{pages_of}
use Rattle.numbers.specs.NumberSet.{uncounted}
use Rattle.views.specs.Nodes.{Entry, View}
use Rattle.tree.specs.Tree.{entries_of, there, Table, at, first_key}
use Rattle.tree.specs.Step6.{is_level, keys_in, reached, times, step6}
use Rattle.tree.specs.Free.{is_open}
use Rattle.tree.specs.Shown.{shown}
use Rattle.tree.specs.Thick.{thin}
use Rattle.tree.specs.declared.check.Growth.{Growth}
use Rattle.tree.specs.declared.check.Growth.TheVariants.{NoTree, Thin, Thick}

-- the table that the pages alone show
abbrev pub pages_table : Geometry → List ℕ → List ℕ → List ℕ → ℕ → Table
pages_table g image lens slots limit = shown g limit (pages_of g image) lens slots 0 []

-- above the leaves: 1 to 16 entries, the first at lo
abbrev pub starts_at : ℕ → List Entry → Bool
starts_at lo es = leb 1 (length es) && (leb (length es) 16 && eqb (first_key 0 es) lo)

-- what the entries of a node of level l obey by themselves
abbrev pub obeys_at : ℕ → ℕ → ℕ → List Entry → Bool
obeys_at zero lo hi es = keys_in lo hi es
obeys_at (suc l) lo hi es = starts_at lo es && keys_in lo hi es

-- a node of level l that obeys the rules of one node
abbrev pub own_at : ℕ → View → ℕ → ℕ → Bool
own_at l w lo hi = is_level l w && obeys_at l lo hi (entries_of w)

-- the numbers reached from these entries of a node above level l
abbrev pub under : ℕ → Table → List Entry → List ℕ
under l t es = flat (λ (e : Entry). reached l t e.value) es

-- a node that the counts and the numbers have twice
pub record Twice (t : Table) (counts ns : List ℕ) : Type 0 where
  pub number : ℕ
  pub real : there (at t number) ≡ 1
  pub twice : 2 ≤ get_or counts number 0 + times number ns

-- a walk over the numbers ns: where it passes, the test ok passes, and each number is counted;
-- where it stops, the test fails or a node has come twice
pub record Walks (t : Table) (ok : Bool) (ns before after : List ℕ) (r : Bool) : Type 0 where
  pub passes : r ≡ true → ok ≡ true
  pub counts : r ≡ true → (j : ℕ) → get_or after j 0 ≡ get_or before j 0 + times j ns
  pub stops : r ≡ false → ok ≡ true → Twice t before ns

-- a number put among the counts: a new one below size
pub record MarksNumber (size n : ℕ) (before after : List ℕ) (r : Bool) : Type 0 where
  pub new : r ≡ true → (j : ℕ) → get_or after j 0 ≡ get_or before j 0 + times j (n ∷ [])
  pub old : r ≡ false → (size ≤ n) ⊎ (1 ≤ get_or before n 0)

-- each node is counted once, and nothing else; the first view is that of number n
abbrev pub counts_from : ℕ → Table → List ℕ → Bool
counts_from n [] counts = true
counts_from n (w ∷ t) counts = eqb (get_or counts n 0) (there w) && counts_from (suc n) t counts

-- the same, and whether some node is thin where all are counted so
pub record CountsNodes (t : Table) (counts : List ℕ) (r : Option Bool) : Type 0 where
  pub once : is_some r ≡ counts_from 0 t counts
  pub thin : IfSome r (λ (b : Bool). b ≡ thin t)

-- all are counted so, and some node is thin
abbrev pub is_some_true : Option Bool → Bool
is_some_true None = false
is_some_true (Some b) = b

-- what is found, as tests: step 6 passes, and the tree is thin
abbrev pub is_grown : Growth → Bool
is_grown NoTree = false
is_grown Thin = true
is_grown Thick = true

abbrev pub is_found_thin : Growth → Bool
is_found_thin NoTree = false
is_found_thin Thin = true
is_found_thin Thick = false

-- step 6 of a table, and where it passes whether the tree is thin, and the numbers that no node has by their counts
pub record ChecksTree (t : Table) (counts : List ℕ) (r : Growth) : Type 0 where
  pub is : is_grown r ≡ step6 t
  pub thin : is_grown r ≡ true → is_found_thin r ≡ thin t
  pub counted : is_grown r ≡ true → map is_open t ≡ uncounted (length t) counts
