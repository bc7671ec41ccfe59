-- The numbers that no node of a table has, free or unused, as a set in four words.
use Rattle.std.specs.Prelude.{Bool, List, map, ℕ, eqb}
use Rattle.numbers.specs.NumberSet.{words_of}
use Rattle.views.specs.Nodes.{View}
use Rattle.tree.specs.Tree.{there, Table}

-- no node has the number
abbrev pub is_open : View → Bool
is_open w = eqb (there w) 0

unfoldable pub free_numbers : Table → List ℕ
free_numbers t = words_of (map is_open t)
