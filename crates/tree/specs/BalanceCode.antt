-- What the functions ensure that push the units of two neighbours, of a leaf and of node 0: on any arrays.
use Rattle.std.specs.Prelude.{◌≡◌, Bool, true, false, cond, List, [], ◌∷◌, ◌++◌, map, ℕ, ◌+◌, ◌-◌, ◌<◌, ◌≤◌, leb, length, take, drop, get_or, Option, IfSome, IfNone, is_none}
use Rattle.pages.specs.declared.unit.Unit as U
use Rattle.pages.specs.declared.unit.Update.TheVariants.{Reset}
use Rattle.views.specs.Groups.{unit_for}
use Rattle.views.specs.Nodes.{Entry, entry, anew}
use Rattle.numbers.specs.NumberSet.{Changes}
use Rattle.tree.specs.declared.balance.Fall.{Fall}
use Rattle.tree.specs.declared.balance.Pair.{Pair}
use Rattle.tree.specs.Tree.{Found, is_absent}
use Rattle.tree.specs.Delete.{two, neighbours}
use Rattle.tree.specs.DeleteUnits.{first_of, join_units, share_units}
use Rattle.tree.specs.UpdateCode.{UnitsPushed, FrontKept}

-- ---- two neighbours: the entries that the parent has for them; the left one's key does not matter
abbrev pub left_of : Pair → Entry
left_of p = entry 0 p.left

abbrev pub right_of : Pair → Entry
right_of p = entry p.key p.right

-- the last of a node's entries
abbrev pub last_of : List Entry → Entry
last_of es = first_of (drop (length es - 1) es)

-- the numbers of the three nodes fit their field
pub record NumbersFit (p : Pair) : Type 0 where
  pub parent : p.parent < 65536
  pub left : p.left < 65536
  pub right : p.right < 65536

-- whether `more` units of them fit behind count units
pub record HasRoom (count more : ℕ) (p : Pair) (r : Bool) : Type 0 where
  pub fits : r ≡ true → (count + more ≤ 960) × NumbersFit p
  pub full : r ≡ false → count + more ≤ 960 → NumbersFit p → ⊥

-- ---- the answer of a node that keeps its entries
pub record Keeps (n c : ℕ) (r : Fall) : Type 0 where
  pub lost : r.lost ≡ false
  pub len : r.len ≡ n
  pub count : r.count ≡ c

-- ---- neighbours with the entries xs and ys
-- an entry moves over; the parent has len entries, before and after
pub record Shares (p : Pair) (len : ℕ) (xs ys : List Entry) (count : ℕ) (old new : List ℕ) (r : Fall) : Type 0 where
  pub keeps : FrontKept count old r.count new
  pub stays : (r.lost ≡ false) × (r.len ≡ len)
  pub pushed : NumbersFit p → count + 4 ≤ 960 → UnitsPushed (share_units p.parent (left_of p) (right_of p) xs ys) count old new r.count

-- the units of both: together 16 or fewer they join, otherwise an entry moves over
abbrev pub pair_units : Pair → List Entry → List Entry → List U.Unit
pair_units p xs ys =
    cond (leb (length xs + length ys) 16)
    (join_units p.parent (left_of p) (right_of p) ys)
    (share_units p.parent (left_of p) (right_of p) xs ys)

-- what a function that does this ensures; the parent had len entries
pub record Balances (p : Pair) (len : ℕ) (xs ys : List Entry) (count : ℕ) (old free new after : List ℕ) (r : Fall) : Type 0 where
  pub keeps : FrontKept count old r.count new
  pub pushed : NumbersFit p → count + length (pair_units p xs ys) ≤ 960 → UnitsPushed (pair_units p xs ys) count old new r.count
  pub joins : leb (length xs + length ys) 16 ≡ true → NumbersFit p → count + length (pair_units p xs ys) ≤ 960 → (r.lost ≡ true) × (r.len ≡ len - 1) × Changes true p.right free after
  pub shares : leb (length xs + length ys) 16 ≡ false → (r.lost ≡ false) × (r.len ≡ len) × (after ≡ free)

-- ---- a leaf with the entries es loses that of k, if it has one, or answers None; hit is what it holds for k
pub record Loses (n k : ℕ) (es : List Entry) (hit : Found) (count : ℕ) (old new : List ℕ) (us : List U.Unit) (left : ℕ) (r : Option Fall) : Type 0 where
  pub keeps : IfSome r (λ (f : Fall). FrontKept count old f.count new)
  pub absent : is_none r ≡ is_absent hit
  pub stays : IfNone r (new ≡ old)
  pub gone : IfSome r (λ (f : Fall). n < 65536 → count < 960 → UnitsPushed us count old new f.count × (f.lost ≡ true) × (f.len ≡ left))

-- ---- index i is that of the left one of the two neighbours on the way to k
pub record IsLeft (k : ℕ) (es : List Entry) (i : ℕ) : Type 0 where
  pub low : i + 2 ≤ length es
  pub is : neighbours k es ≡ two (take i es) (get_or es i (entry 0 0)) (get_or es (i + 1) (entry 0 0)) (drop (i + 2) es)

-- ---- node 0 written anew with the level and the entries of child c, which is freed
abbrev pub take_over_units : ℕ → ℕ → List Entry → List U.Unit
take_over_units l c es = map (unit_for 0) (anew l es) ++ (unit_for c (Reset 255) ∷ [])

-- with those of both children, which are freed
pub record Merges (l : ℕ) (p : Pair) (xs ys : List Entry) (count : ℕ) (old free new after : List ℕ) (used : ℕ) : Type 0 where
  pub pushed : UnitsPushed (map (unit_for 0) (anew l (xs ++ ys)) ++ (unit_for p.left (Reset 255) ∷ unit_for p.right (Reset 255) ∷ [])) count old new used
  pub between : List ℕ
  pub first : Changes true p.left free between
  pub second : Changes true p.right between after
