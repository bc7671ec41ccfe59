-- The height of a tree that is not thin: with 256 numbers node 0 is at level 3 at most, and at level 3 it never splits. Document 02, note 7: '16 entries of at least 8 entries of
-- at least 8 leaves are 1,024 nodes, and a chip has 256 at most.' Assumes nothing.
use mathlib.Core.Path.{◌≡◌, refl, sym, ap, ◌∙◌, subst}
use mathlib.Core.Logic.{⊎_elim}
use mathlib.Core.Bool.{Bool, true, false, ◌&&◌}
use mathlib.Core.List.{List, [], ◌∷◌}
use Prim.Native.Nat.{ℕ, zero, suc, ◌+◌, ◌<◌, ◌≤◌}
use native.Mathlib.Omega.{arith}
use lib.Dec.{ltb}
use lib.ListN.{length, length-append, length-map}
use borrow.Author.Tests.{le-ltb}
use Rattle.lists.specs.Lists.{bit, All, more}
use Rattle.lists.proofs.Tests.{below_or_not}
use Rattle.views.specs.Nodes.{Entry}
use Rattle.tree.specs.Tree.{Table, entries_of, entries_at, root_level, child, nodes}
use Rattle.tree.specs.Step6.{top, Tree}
use Rattle.tree.specs.Insert.{inserted, spills}
use Rattle.tree.specs.Thick.{least_of, Thick}
use Rattle.tree.proofs.Shape.{Kid, Shape, entry_of, tops, nums, nums_of}
use Rattle.tree.proofs.Shaped.{top_at, level_at}
use Rattle.tree.proofs.Step6.{shape_of}
use Rattle.tree.proofs.Full.{Full, Strong}
use Rattle.tree.proofs.ThickLaws.{at_wide, thick_wide, filled_full}
use Rattle.tree.proofs.InsertNumbers.{inserted_takes}
use Rattle.tree.proofs.NodeCount.{nodes_shape}

-- ---- a node that is not thin has many below it
abbrev mul : ℕ → ℕ → ℕ
mul zero b = 0
mul (suc n) b = b + mul n b

mul_mono : (m n b : ℕ) → m ≤ n → mul m b ≤ mul n b
mul_mono zero n b h = omega arith
mul_mono (suc m) zero b h = absurd (omega arith)
mul_mono (suc m) (suc n) b h = omega (arith, mul_mono m n b (omega arith))

-- the fewest nodes of a tree of level l that is not thin
abbrev bushy : ℕ → ℕ
bushy zero = 1
bushy (suc l) = suc (mul 8 (bushy l))

kids_many : (l b : ℕ) → ((s : Shape l) → least_of 0 l ≤ length (tops l s) → Full 0 l s → b ≤ length (nums l s))
    → (xs : List (Kid (Shape l))) → All (Strong 0 l) xs → mul (length xs) b ≤ length (nums_of l xs)
kids_many l b f [] a = omega arith
kids_many l b f (x ∷ xs) (more p ps) =
    omega (arith, f x.sub p.0 p.1, kids_many l b f xs ps, length-append (nums l x.sub) (nums_of l xs))

many : (l : ℕ) (s : Shape l) → least_of 0 l ≤ length (tops l s) → Full 0 l s → bushy l ≤ length (nums l s)
many zero s h f = omega arith
many (suc l) s h f =
    omega (arith, kids_many l (bushy l) (λ x p q. many l x p q) s.kids f, mul_mono 8 (length s.kids) (bushy l) (omega (arith, length-map s.kids (entry_of l))))

-- the fewest nodes grow with the level
bushy_some : (l : ℕ) → 1 ≤ bushy l
bushy_some zero = omega arith
bushy_some (suc l) = omega arith

bushy_mono : (m l : ℕ) → m ≤ l → bushy m ≤ bushy l
bushy_mono zero l h = bushy_some l
bushy_mono (suc m) zero h = absurd (omega arith)
bushy_mono (suc m) (suc l) h = omega (arith, bushy_mono m l (omega arith))

-- ---- node 0, with such a tree below each of its entries
root_many : (l : ℕ) (s : Shape (suc l)) → Full 0 (suc l) s → suc (mul (length (tops (suc l) s)) (bushy l)) ≤ length (nums (suc l) s)
root_many l s f =
    omega (arith, kids_many l (bushy l) (λ x p q. many l x p q) s.kids f, ap (λ (n : ℕ). mul n (bushy l)) (length-map s.kids (entry_of l)))

-- at level 3 it has 3 entries at most
root_few : (l : ℕ) (s : Shape l) → l ≡ 3 → Full 0 l s → length (nums l s) ≤ 256 → length (tops l s) ≤ 3
root_few zero s e f h = absurd (omega arith)
root_few (suc l) s e f h =
    ⊎_elim
    (λ (q : 3 < length (tops (suc l) s)).
    let b : bushy l ≡ 73 = ap bushy (let z : l ≡ 2 = omega arith in z) in
    absurd (omega (arith, root_many l s f, mul_mono 4 (length (tops (suc l) s)) (bushy l) q)))
    (λ (q : length (tops (suc l) s) ≤ 3). q)
    (below_or_not 3 (length (tops (suc l) s)))

-- and above level 3, with 2 entries or more, there would be more than 256 nodes
level_few : (l : ℕ) (s : Shape l) → (0 < l → 2 ≤ length (tops l s)) → Full 0 l s → length (nums l s) ≤ 256 → l ≤ 3
level_few zero s w f h = omega arith
level_few (suc l) s w f h =
    ⊎_elim
    (λ (q : 2 < l).
    let b : bushy 3 ≡ 585 = refl in
    absurd (omega (arith, root_many l s f, mul_mono 2 (length (tops (suc l) s)) (bushy l) (w (omega arith)), bushy_mono 3 l q)))
    (λ (q : l ≤ 2). omega arith)
    (below_or_not 2 l)

module _ (t : Table) (g : Tree t) (p : Thick 0 t) (few : nodes t ≤ 256) where
  pub thick_level : root_level t ≤ 3
  thick_level =
      let T = shape_of t g in
      omega (arith, level_at t T, level_few T.level T.shape (at_wide T.level T.shape (thick_wide 0 t T p)) (filled_full 0 t T p.nodes) (omega (arith, nodes_shape t T)))

  pub root_entries_lem : root_level t ≡ 3 → length (entries_at t 0) ≤ 3
  root_entries_lem e =
      let T = shape_of t g in
      subst (λ (es : List Entry). length es ≤ 3) (sym (ap entries_of (top_at t T)))
      (root_few T.level T.shape (sym (level_at t T) ∙ e) (filled_full 0 t T p.nodes) (omega (arith, nodes_shape t T)))

-- ---- an insert
and_false : (a b : Bool) → b ≡ false → (a && b) ≡ false
and_false true b e = e
and_false false b e = refl

spills_not : (l k v : ℕ) (t : Table) → l ≡ 3 → length (entries_at t 0) ≤ 3 → spills l 0 k v t ≡ false
spills_not zero k v t e h = absurd (omega arith)
spills_not (suc l) k v t e h =
    and_false (spills l (child t 0 k) k v t) (ltb 16 (suc (length (entries_at t 0)))) (le-ltb 16 (suc (length (entries_at t 0))) (omega arith))

bit_most : (b : Bool) → bit b ≤ 1
bit_most true = omega arith
bit_most false = omega arith

-- whatever is inserted, and whether there are numbers for it or not, node 0 stays at level 3 at most
pub inserted_level : (k v : ℕ) (t : Table) → Tree t → k < top → Thick 0 t → nodes t ≤ 256 → root_level (inserted k v t) ≤ 3
inserted_level k v t g h p few =
    let e = (inserted_takes 0 k v t g h).level in
    ⊎_elim
    (λ (q : root_level t < 3). omega (arith, bit_most (spills (root_level t) 0 k v t)))
    (λ (q : 3 ≤ root_level t).
    let z : root_level t ≡ 3 = omega (arith, thick_level t g p few) in
    omega (arith, ap bit (spills_not (root_level t) k v t z (root_entries_lem t g p few z))))
    (below_or_not (root_level t) 3)
