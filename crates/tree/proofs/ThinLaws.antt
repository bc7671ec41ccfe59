-- A table is thin exactly where it is not thick, leaves aside. Assumes nothing.
use mathlib.Core.Path.{◌≡◌, refl, ap, ◌∙◌, subst}
use mathlib.Core.Bool.{false}
use mathlib.Core.List.{List, [], ◌∷◌}
use Prim.Native.Nat.{ℕ, zero, suc, ◌+◌, ◌<◌, ◌≤◌}
use native.Mathlib.Omega.{arith}
use lib.ListN.{length, replicate}
use borrow.Author.Tests.{ltb-false, le-ltb}
use Rattle.lists.proofs.Tests.{neither_left, neither_right}
use Rattle.views.specs.Nodes.{Entry, View, untouched, freed, broken, view}
use Rattle.tree.specs.Tree.{level_of, entries_of, Table, at}
use Rattle.tree.specs.Thick.{least_of, Thick, is_thin, thin_from, thin}
use Rattle.tree.proofs.ThickLaws.{first_thick}

-- ---- no node is thin, one by one
none_from : (m : ℕ) (t : Table) → thin_from m t ≡ false → (n : ℕ) → is_thin (m + n) (at t n) ≡ false
none_from m [] h n = refl
none_from m (w ∷ t) h zero = ap (λ (i : ℕ). is_thin i w) (omega arith) ∙ neither_left (is_thin m w) (thin_from (suc m) t) h
none_from m (w ∷ t) h (suc n) = ap (λ (i : ℕ). is_thin i (at t n)) (omega arith) ∙ none_from (suc m) t (neither_right (is_thin m w) (thin_from (suc m) t) h) n

from_none : (m : ℕ) (t : Table) → ((n : ℕ) → is_thin (m + n) (at t n) ≡ false) → thin_from m t ≡ false
from_none m [] f = refl
from_none m (w ∷ t) f =
    let a : is_thin m w ≡ false = ap (λ (i : ℕ). is_thin i w) (omega arith) ∙ f 0 in
    rw a (from_none (suc m) t (λ n. ap (λ (i : ℕ). is_thin i (at t n)) (omega arith) ∙ f (suc n)))

thin_at : (t : Table) → thin t ≡ false → (n : ℕ) → is_thin n (at t n) ≡ false
unfolding thin
thin_at t h n = ap (λ (i : ℕ). is_thin i (at t n)) (omega arith) ∙ none_from 0 t h n

at_thin : (t : Table) → ((n : ℕ) → is_thin n (at t n) ≡ false) → thin t ≡ false
unfolding thin
at_thin t f = from_none 0 t (λ n. ap (λ (i : ℕ). is_thin i (at t n)) (omega arith) ∙ f n)

-- ---- what that says of a node
node_least : (n l : ℕ) (es : List Entry) → 0 < n → is_thin n (view l es) ≡ false → least_of 0 l ≤ length es
node_least zero l es p h = absurd (omega arith)
node_least (suc n) zero es p h = omega arith
node_least (suc n) (suc l) es p h = ltb-false (length es) 8 h

root_least : (w : View) → is_thin 0 w ≡ false → 0 < level_of w → 2 ≤ length (entries_of w)
root_least untouched h p = absurd (omega arith)
root_least freed h p = absurd (omega arith)
root_least broken h p = absurd (omega arith)
root_least (view zero es) h p = absurd (omega arith)
root_least (view (suc l) es) h p = ltb-false (length es) 2 h

least_root : (w : View) → (0 < level_of w → 2 ≤ length (entries_of w)) → is_thin 0 w ≡ false
least_root untouched f = refl
least_root freed f = refl
least_root broken f = refl
least_root (view zero es) f = refl
least_root (view (suc l) es) f = le-ltb (length es) 2 (f (omega arith))

least_node : (n : ℕ) (w : View) → ((l : ℕ) (es : List Entry) → w ≡ view l es → least_of 0 l ≤ length es) → is_thin (suc n) w ≡ false
least_node n untouched f = refl
least_node n freed f = refl
least_node n broken f = refl
least_node n (view zero es) f = refl
least_node n (view (suc l) es) f = le-ltb (length es) 8 (f (suc l) es refl)

-- ---- the table
pub thin_thick : (t : Table) → thin t ≡ false → Thick 0 t
thin_thick t h = record {
  nodes = λ n l es p e. node_least n l es p (subst (λ (w : View). is_thin n w ≡ false) e (thin_at t h n));
  root = root_least (at t 0) (thin_at t h 0);
}

pub thick_thin : (t : Table) → Thick 0 t → thin t ≡ false
thick_thin t k = at_thin t none_thin
  where
    none_thin : (n : ℕ) → is_thin n (at t n) ≡ false
    none_thin zero = least_root (at t 0) k.root
    none_thin (suc n) = least_node n (at t (suc n)) (λ l es e. k.nodes (suc n) l es (omega arith) e)

-- leaves of c entries or more do as well
least_zero : (c l : ℕ) → least_of 0 l ≤ least_of c l
least_zero c zero = omega arith
least_zero c (suc l) = omega arith

pub thick_zero : (c : ℕ) (t : Table) → Thick c t → Thick 0 t
thick_zero c t k = record {
  nodes = λ n l es p e. omega (arith, least_zero c l, k.nodes n l es p e);
  root = k.root;
}

-- the tree that format leaves
pub first_not_thin : (m : ℕ) → thin (view 0 [] ∷ replicate m untouched) ≡ false
first_not_thin m = thick_thin (view 0 [] ∷ replicate m untouched) (first_thick 0 m)
