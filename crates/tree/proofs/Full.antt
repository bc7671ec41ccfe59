-- Nodes that are not thin. Assumes nothing.
use mathlib.Core.Logic.{◌⊎◌}
use Prim.Native.Nat.{ℕ, zero, suc, ◌≤◌}
use native.Mathlib.Omega.{arith}
use lib.ListN.{length, length-map, length-append}
use mathlib.Core.Path.{◌≡◌, refl}
use Rattle.lists.specs.Lists.{All}
use Rattle.lists.proofs.Alls.{All-append, All-take, All-drop}
use Rattle.tree.specs.Tree.{Table}
use Rattle.tree.specs.Thick.{least_of}
use Rattle.tree.proofs.Shape.{Kid, Shape, entry_of, tops, Inner}
use Rattle.tree.proofs.Parts.{join_s, lower_s, upper_s, starts_some}

-- every node below the top has at least 8 entries, a leaf at least c
abbrev pub Full : ℕ → (l : ℕ) → Shape l → Type 0
Full c zero s = Unit {0}
Full c (suc l) s = All (λ (x : Kid (Shape l)). (least_of c l ≤ length (tops l x.sub)) × Full c l x.sub) s.kids

abbrev pub Strong : ℕ → (l : ℕ) → Kid (Shape l) → Type 0
Strong c l x = (least_of c l ≤ length (tops l x.sub)) × Full c l x.sub

-- node 0 above level 0 has two entries or more
abbrev pub Wide : (l : ℕ) → Shape l → Type 0
Wide zero s = Unit {0}
Wide (suc l) s = 2 ≤ length s.kids

-- an only kid of the top may be thin
abbrev pub Nearly : ℕ → (l : ℕ) → Shape l → Type 0
Nearly c zero s = Unit {0}
Nearly c (suc l) s = Full c (suc l) s ⊎ ((length s.kids ≡ 1) × All (λ (x : Kid (Shape l)). Full c l x.sub) s.kids)

pub wide_strong : (c l : ℕ) (s : Shape l) → least_of c l ≤ length (tops l s) → Wide l s
wide_strong c zero s h = tt
wide_strong c (suc l) s h = omega (arith, length-map s.kids (entry_of l))

pub wide_join : (t : Table) (l lo mid hi : ℕ) (x y : Shape l) → Inner t l lo mid x → Inner t l mid hi y → Wide l (join_s l x y)
wide_join t zero lo mid hi x y g h = tt
wide_join t (suc l) lo mid hi x y g h = omega (arith, length-append x.kids y.kids, starts_some lo x.kids g.0, starts_some mid y.kids h.0)

pub least_8 : (l : ℕ) → least_of 8 l ≡ 8
least_8 zero = refl
least_8 (suc l) = refl

pub least_most : (c l : ℕ) → c ≤ 8 → least_of c l ≤ 8
least_most c zero h = h
least_most c (suc l) h = omega arith

pub full_join : (c l : ℕ) (x y : Shape l) → Full c l x → Full c l y → Full c l (join_s l x y)
full_join c zero x y g h = tt
full_join c (suc l) x y g h = All-append g h

pub full_lower : (c l m n : ℕ) (s : Shape l) → Full c l s → Full c l (lower_s l m n s)
full_lower c zero m n s h = tt
full_lower c (suc l) m n s h = All-take m h

pub full_upper : (c l m n : ℕ) (s : Shape l) → Full c l s → Full c l (upper_s l m n s)
full_upper c zero m n s h = tt
full_upper c (suc l) m n s h = All-drop m h
