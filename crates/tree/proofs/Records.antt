-- The records of a tree: they are in key order, and to find is to look up among them; what an update keeps; the tree that format leaves. Assumes nothing.
use mathlib.Core.Path.{◌≡◌, refl, sym, ap, ◌∙◌}
use mathlib.Core.List.{List, [], ◌∷◌}
use Prim.Native.Nat.{ℕ, zero, suc, ◌<◌}
use native.Mathlib.Omega.{arith}
use lib.ListN.{replicate}
use Rattle.views.specs.Nodes.{Entry, untouched, view}
use Rattle.tree.specs.Tree.{there, Table, at, lookup, find_at, find, records_at, records}
use Rattle.tree.specs.Step6.{top, times, Tree}
use Rattle.tree.proofs.Entries.{Between}
use Rattle.tree.proofs.Shape.{recs, hit_same, hit_other, sub_between}
use Rattle.tree.proofs.Shaped.{Shaped, level_at, find_records}
use Rattle.tree.proofs.Step6.{tree_of, shape_of, records_is}

-- the records of a table with a shape are those of the shape
pub records_of : (t : Table) (T : Shaped t) → records t ≡ recs T.level T.shape
unfolding records
records_of t T = rw (level_at t T) (ap (records_at T.level t) (sym T.root) ∙ records_is 16 t T.level 0 top T.shape T.sub)

-- u passes step 6 as well, its views are at most 16 rising entries, and its records are as f says
pub record Kept (f : List Entry → List Entry) (t u : Table) : Type 0 where
  pub tree : Tree u
  pub records : records u ≡ f (records t)

-- the records are in key order, and to find is to look up among them
pub records_between : (t : Table) → Tree t → Between 0 top (records t)
records_between t g = let T = shape_of t g in rw (records_of t T) (sub_between 16 t T.level 0 top T.shape T.sub)

pub find_is : (k : ℕ) (t : Table) → Tree t → k < top → find k t ≡ lookup k (records t)
unfolding find
find_is k t g h =
    let T = shape_of t g in
    rw (records_of t T, level_at t T) (ap (λ (n : ℕ). find_at T.level n k t) (sym T.root) ∙ find_records t T.level 0 top k T.shape T.sub (omega arith) h)

-- the tree that format leaves: one empty leaf
none_there : (m j : ℕ) → there (at (replicate m untouched) j) ≡ 0
none_there zero j = refl
none_there (suc m) zero = refl
none_there (suc m) (suc j) = none_there m j

first_once : (m j : ℕ) → times j (0 ∷ []) ≡ there (at (view 0 [] ∷ replicate m untouched) j)
first_once m zero = omega (arith, hit_same 0 0 refl)
first_once m (suc j) = omega (arith, hit_other 0 (suc j) (λ e. omega arith), none_there m j)

pub first_tree : (m : ℕ) → Tree (view 0 [] ∷ replicate m untouched)
first_tree m =
    tree_of (view 0 [] ∷ replicate m untouched)
    (record {
      level = 0;
      shape = record { number = 0; entries = [] };
      root = refl;
      sub = (record { is = refl; keys = omega arith; size = omega arith }, tt);
      once = first_once m;
    })
