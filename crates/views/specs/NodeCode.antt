-- How a node of the code shows a view's level and entries: the first len keys, each with its value.
use Rattle.std.specs.Prelude.{◌≡◌, cond, List, [], ◌∷◌, ℕ, zero, suc, ◌+◌, ◌-◌, ◌≤◌, ltb, length, take}
use Rattle.views.specs.declared.node.Node.{Node}
use Rattle.views.specs.Nodes.{Entry, entry}

-- two lists, key by value
abbrev pub pairs : List ℕ → List ℕ → List Entry
pairs [] vs = []
pairs (k ∷ ks) [] = []
pairs (k ∷ ks) (v ∷ vs) = entry k v ∷ pairs ks vs

-- the entries of the first n keys and values
abbrev pub entries_in : ℕ → List ℕ → List ℕ → List Entry
entries_in n ks vs = pairs (take n ks) (take n vs)

-- the entries of a node
abbrev pub entries_of : Node → List Entry
entries_of n = entries_in n.len n.keys n.values

-- the first index whose key is not below k, or the length
abbrev pub rank : ℕ → List ℕ → ℕ
rank k [] = 0
rank k (x ∷ xs) = cond (ltb x k) (suc (rank k xs)) 0

-- a at index i, what stood from there on one place further; past the end a is last
abbrev pub insert_index : {A : Type 0} → ℕ → A → List A → List A
insert_index zero a xs = a ∷ xs
insert_index (suc i) a [] = a ∷ []
insert_index (suc i) a (x ∷ xs) = x ∷ insert_index i a xs

-- without the element at index i
abbrev pub remove_index : {A : Type 0} → ℕ → List A → List A
remove_index i [] = []
remove_index zero (x ∷ xs) = xs
remove_index (suc i) (x ∷ xs) = x ∷ remove_index i xs

-- what a function that returns a node ensures: its level, its entries, how many they are, and that the arrays hold them
pub record Shows (r : Node) (level : ℕ) (es : List Entry) : Type 0 where
  pub same : r.level ≡ level
  pub is : entries_of r ≡ es
  pub len : length es ≡ r.len
  pub room : r.len ≤ 17

-- what a function that changes the entries in two lent arrays ensures: the entries, how many they are, and the arrays' lengths
pub record HoldsEntries (n : ℕ) (ks vs : List ℕ) (es : List Entry) : Type 0 where
  pub is : entries_in n ks vs ≡ es
  pub len : length es ≡ n
  pub keys : length ks ≡ 17
  pub values : length vs ≡ 17
  pub room : n ≤ 17

-- an array ys whose first n + 1 places hold the first n of xs with a at i
pub record Pushed (n i a : ℕ) (xs ys : List ℕ) : Type 0 where
  pub is : take (n + 1) ys ≡ insert_index i a (take n xs)
  pub size : length ys ≡ length xs

-- an array ys whose first n - 1 places hold the first n of xs without that at i
pub record Pulled (n i : ℕ) (xs ys : List ℕ) : Type 0 where
  pub is : take (n - 1) ys ≡ remove_index i (take n xs)
  pub size : length ys ≡ length xs
