-- The set of 1, 64 and 255: its words, how many members, the least one, and the set without it.
use mathlib.Core.Path.{◌≡◌, refl}
use mathlib.Core.Bool.{Bool, true, false}
use mathlib.Core.List.{List, [], ◌∷◌}
use Prim.Native.Nat.{◌^◌}
use lib.ListN.{set, replicate}
use Rattle.lists.specs.Lists.{count, first}
use Rattle.chip.specs.SetCode.{set_of}
use Rattle.numbers.specs.NumberSet.{is_in, words_of, uncounted}

-- 256 numbers, no one in
abbrev none : List Bool
none = replicate 256 false

-- 1, 64 and 255 in
abbrev three : List Bool
three = set (set (set none 1 true) 64 true) 255 true

the_words : words_of three ≡ 2 ∷ 1 ∷ 0 ∷ 2 ^ 63 ∷ []
unfolding words_of set_of
the_words = refl

the_count : count is_in three ≡ 3
the_count = refl

the_least : first is_in three ≡ 1
the_least = refl

-- without 1
without_one : words_of (set three 1 false) ≡ 0 ∷ 1 ∷ 0 ∷ 2 ^ 63 ∷ []
unfolding words_of set_of
without_one = refl

next_least : first is_in (set three 1 false) ≡ 64
next_least = refl

-- no member
empty_words : words_of none ≡ 0 ∷ 0 ∷ 0 ∷ 0 ∷ []
unfolding words_of set_of
empty_words = refl

empty_count : count is_in none ≡ 0
empty_count = refl

-- of the counts 3, 0, 1, 0, 0 below limit 4 those of 1 and 3
gathered : words_of (uncounted 4 (3 ∷ 0 ∷ 1 ∷ 0 ∷ 0 ∷ [])) ≡ 10 ∷ 0 ∷ 0 ∷ 0 ∷ []
unfolding words_of set_of
gathered = refl
