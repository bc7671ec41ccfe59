-- The table that a rebuild starts from: node 0 an empty leaf, and no other node. Assumes nothing.
use mathlib.Core.Path.{◌≡◌, refl, ap, ◌∙◌}
use mathlib.Core.List.{List, [], ◌∷◌, map}
use Prim.Native.Nat.{ℕ, zero, suc, ◌<◌, ◌≤◌}
use native.Mathlib.Omega.{arith}
use lib.ListN.{length, length-map}
use Rattle.lists.specs.Lists.{none}
use Rattle.views.specs.Nodes.{Entry, View, untouched, freed, broken, view}
use Rattle.tree.specs.Tree.{level_of, entries_of, there, Table, at, next}
use Rattle.tree.specs.Step6.{top, times}
use Rattle.tree.specs.Thick.{Filled}
use Rattle.tree.specs.Rebuild.{freed_from, vacated}
use Rattle.tree.proofs.Entries.{Between}
use Rattle.tree.proofs.Tables.{at_same, at_other, next_put, put_ext}
use Rattle.tree.proofs.Shape.{hit_same, hit_other}
use Rattle.tree.proofs.Validity.{Smalls}
use Rattle.tree.proofs.LayerFacts.{Dense}
use Rattle.tree.proofs.Layers.{NearTree}
use Rattle.tree.proofs.LayerNodes.{Levels}

-- ---- what is at a number
at_map : (t : Table) (n : ℕ) → at (map freed_from t) n ≡ freed_from (at t n)
at_map [] n = refl
at_map (w ∷ t) zero = refl
at_map (w ∷ t) (suc n) = at_map t n

pub vacated_root : (t : Table) → at (vacated t) 0 ≡ view 0 []
unfolding vacated
vacated_root t = at_same 0 (view 0 []) (map freed_from t)

pub vacated_other : (t : Table) (n : ℕ) → 0 < n → at (vacated t) n ≡ freed_from (at t n)
unfolding vacated
vacated_other t n h = at_other 0 n (view 0 []) (map freed_from t) (λ e. omega arith) ∙ at_map t n

-- a freed view is no node, and has no level and no entries
pub freed_there : (w : View) → there (freed_from w) ≡ 0
freed_there untouched = refl
freed_there freed = refl
freed_there broken = refl
freed_there (view l es) = refl

freed_level : (w : View) → level_of (freed_from w) ≡ 0
freed_level untouched = refl
freed_level freed = refl
freed_level broken = refl
freed_level (view l es) = refl

freed_entries : (w : View) → entries_of (freed_from w) ≡ []
freed_entries untouched = refl
freed_entries freed = refl
freed_entries broken = refl
freed_entries (view l es) = refl

-- ---- its numbers
none_next : (t : Table) → next (map freed_from t) ≡ 0
none_next [] = refl
none_next (w ∷ t) = rw (none_next t) (freed_there w)

pub vacated_next : (t : Table) → next (vacated t) ≡ 1
unfolding vacated
vacated_next t = omega (arith, next_put 0 0 [] (map freed_from t), none_next t)

pub vacated_length : (t : Table) → 1 ≤ length t → length (vacated t) ≡ length t
unfolding vacated
vacated_length t h = omega (arith, (put_ext 0 0 [] (map freed_from t)).2, length-map t freed_from)

pub vacated_dense : (t : Table) → Dense 1 (vacated t)
vacated_dense t zero h = ap there (vacated_root t)
vacated_dense t (suc j) h = absurd (omega arith)

-- ---- its nodes
pub vacated_filled : (c : ℕ) (t : Table) → Filled c (vacated t)
vacated_filled c t n l es p e =
    absurd (omega (arith, freed_there (at t n), ap there (vacated_other t n p), ap there e))

pub vacated_levels : (m : ℕ) (t : Table) → Levels m (vacated t)
vacated_levels m t zero = rw (vacated_root t) (omega arith)
vacated_levels m t (suc n) = omega (arith, ap level_of (vacated_other t (suc n) (omega arith)), freed_level (at t (suc n)))

pub vacated_small : (t : Table) → Smalls (vacated t)
vacated_small t zero = rw (vacated_root t) none
vacated_small t (suc n) = rw (vacated_other t (suc n) (omega arith), freed_entries (at t (suc n))) none

vacated_once : (t : Table) (j : ℕ) → times j (0 ∷ []) ≡ there (at (vacated t) j)
vacated_once t zero = omega (arith, hit_same 0 0 refl, ap there (vacated_root t))
vacated_once t (suc j) =
    omega (arith, hit_other 0 (suc j) (λ e. omega arith), ap there (vacated_other t (suc j) (omega arith)), freed_there (at t (suc j)))

-- the entries rs can go into node 0
pub vacated_near : (t : Table) (rs : List Entry) → Between 0 top rs → NearTree (vacated t) 0 1 (record { number = 0; entries = rs })
vacated_near t rs b = record {
  root = refl;
  over = record { stands = ap there (vacated_root t); out = refl; inner = tt; keys = b; proper = omega arith };
  once = vacated_once t;
  numbers = vacated_next t;
}
