-- A page: data area, then spare area with three marks; free, live; what an operation makes of a page.
use Rattle.std.specs.Prelude.{ℕ, zero, suc, ◌+◌, Bool, not, ◌&&◌, List, ◌++◌, map, take, drop, replicate, ◌==◌, nat_eq, slice_index_or, slice_set}
use Rattle.lists.specs.Lists.{all}
use Rattle.chip.specs.declared.page.Mark.{Mark}
use Rattle.chip.specs.declared.page.Mark.TheVariants.{Used, Valid, Obsolete}
use Rattle.chip.specs.Geometry.{Geometry}

abbrev pub Page : Type 0
Page = List ℕ

-- the spare byte that is the mark
abbrev pub spare_byte : Mark → ℕ
spare_byte Used = 0
spare_byte Valid = 1
spare_byte Obsolete = 2

-- a mark is set when it is 0
unfoldable pub is_set : Geometry → Mark → Page → Bool
is_set g m x = slice_index_or x (g.area + spare_byte m) 255 == 0

-- live: valid mark set, obsolete mark not
abbrev pub is_live : Geometry → Page → Bool
is_live g x = is_set g Valid x && not (is_set g Obsolete x)

-- free: all bytes 255
unfoldable pub is_free : Page → Bool
is_free x = all (λ (b : ℕ). nat_eq b 255) x

-- an erased page
unfoldable pub blank : Geometry → Page
blank g = replicate g.area 255 ++ replicate g.spare 255

-- a mark made v
abbrev pub marked : Geometry → Mark → ℕ → Page → Page
marked g m v x = slice_set x (g.area + spare_byte m) v

-- the data area programmed
abbrev pub programmed : Geometry → List ℕ → Page → Page
programmed g bytes x = bytes ++ drop g.area x

-- a spare byte of a torn erase: 255 in place of 0
abbrev pub mend : ℕ → ℕ
mend zero = 255
mend (suc n) = suc n

-- a page of a block whose erase was torn: the torn bytes, with 255 in place of each 0 in its spare part
unfoldable pub torn_page : Geometry → List ℕ → Page
torn_page g torn = take g.area torn ++ map mend (drop g.area torn)
