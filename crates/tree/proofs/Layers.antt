-- The levels of a rebuilt tree, one above the other: step 6 holds, and the records are the given ones. Assumes nothing.
use mathlib.Core.Path.{◌≡◌, refl, sym, ap, ◌∙◌, subst}
use mathlib.Core.Logic.{⊎_elim}
use mathlib.Core.List.{List, [], ◌∷◌, map}
use Prim.Native.Nat.{ℕ, zero, suc, ◌+◌, ◌<◌, ◌≤◌}
use native.Mathlib.Omega.{arith}
use lib.ListN.{length}
use Rattle.lists.proofs.Tests.{below_or_not}
use Rattle.views.specs.Nodes.{Entry, view}
use Rattle.tree.specs.Tree.{there, Table, at, put, next}
use Rattle.tree.specs.Step6.{top, times}
use Rattle.tree.specs.Rebuild.{nodes_for, put_nodes, entries_above, layers}
use Rattle.tree.proofs.Tables.{hit, there_below, there_old}
use Rattle.tree.proofs.Shape.{Shape, number, entry_of, tops, rest, nums, recs, Starts, Sub}
use Rattle.tree.proofs.Children.{Over, holds_sub}
use Rattle.tree.proofs.Shaped.{Shaped}
use Rattle.tree.proofs.EvenParts.{even_sixteens, even_length}
use Rattle.tree.proofs.LayerFacts.{parts_for, layers_above, layers_zero, layers_few, layers_many, above_length, level_next}
use Rattle.tree.proofs.Layer.{kids_from, kids_above, inner_lower, NodesPut, nodes_put}

-- table t is a tree once node 0 holds the entries of s; x is its next number
pub record NearTree (t : Table) (l x : ℕ) (s : Shape l) : Type 0 where
  pub root : number l s ≡ 0
  pub over : Over t l 0 top s
  pub once : (j : ℕ) → times j (nums l s) ≡ there (at t j)
  pub numbers : next t ≡ x

-- a table with a shape that has these records
pub record Rooted (t : Table) (rs : List Entry) : Type 0 where
  pub tree : Shaped t
  pub is : recs tree.level tree.shape ≡ rs

root_near : (t : Table) (l x : ℕ) (s : Shape l) → NearTree t l x s → length (tops l s) ≤ 16 → Rooted (put 0 (view l (tops l s)) t) (recs l s)
root_near t l x s r h = record {
  tree = record {
    level = l;
    shape = s;
    root = r.root;
    sub = subst (λ (n : ℕ). Sub 16 (put n (view l (tops l s)) t) l 0 top s) r.root (holds_sub t l 0 top s r.over h);
    once = λ j. r.once j ∙ sym (there_old 0 j l (tops l s) t (ap (λ (n : ℕ). there (at t n)) (sym r.root) ∙ r.over.stands));
  };
  is = refl;
}

kids_starts : (l lo x : ℕ) (qs : List ℕ) (s : Shape l) → 0 < length qs → Starts lo (kids_from l lo x qs s)
kids_starts l lo x [] s h = absurd (omega arith)
kids_starts l lo x (q ∷ qs) s h = refl

-- ---- one level more
module _ (t : Table) (l x : ℕ) (s : Shape l) (r : NearTree t l x s) (h : 16 < length (tops l s)) where
  abbrev above : Shape (suc l)
  above = record { number = 0; kids = kids_from l 0 x (parts_for (tops l s)) s }

  abbrev u : Table
  u = put_nodes l x (parts_for (tops l s)) (tops l s) t

  level_put : NodesPut t u l 0 x (parts_for (tops l s)) s
  level_put =
      nodes_put l 0 x (parts_for (tops l s)) s t (even_sixteens (length (tops l s)) h)
      (omega (arith, r.numbers)) (inner_lower t l 0 top s r.over.inner) r.over.keys

  zero_there : there (at t 0) ≡ 1
  zero_there = ap (λ (n : ℕ). there (at t n)) (sym r.root) ∙ r.over.stands

  kept_there : there (at u 0) ≡ 1
  kept_there = ap there (level_put.frame 0 (omega (arith, r.numbers, there_below t 0 zero_there))) ∙ zero_there

  level_near : NearTree u (suc l) (x + nodes_for (length (tops l s))) above
  level_near =
      let L = level_put in
      let n = even_length (nodes_for (length (tops l s))) (length (tops l s)) in
      record {
        root = refl;
        over = record {
          stands = kept_there;
          out = omega (arith, L.counts 0, kept_there, zero_there, r.over.out, ap (λ (i : ℕ). times i (rest l s)) r.root);
          inner = (kids_starts l 0 x (parts_for (tops l s)) s (omega arith), L.kids);
          keys = L.keys;
          proper = omega arith;
        };
        once = λ j. omega (arith, L.counts j, r.once j, ap (λ (i : ℕ). hit i j) r.root);
        numbers = level_next l x (tops l s) t r.numbers;
      }

-- ---- all levels
-- so many entries need no more than f levels above
abbrev pub Fit : ℕ → ℕ → Type 0
Fit zero n = n ≤ 16
Fit (suc f) n = Fit f (nodes_for n)

-- the law for f levels
abbrev LevelsRooted : ℕ → Type 0
LevelsRooted f = (l x : ℕ) (s : Shape l) (t : Table) → NearTree t l x s → Fit f (length (tops l s)) → Rooted (layers f l x (tops l s) t) (recs l s)

higher : (f l x : ℕ) (s : Shape l) (t : Table) → LevelsRooted f → NearTree t l x s → Fit (suc f) (length (tops l s)) → 16 < length (tops l s)
    → Rooted (layers_above f l x (tops l s) t) (recs l s)
higher f l x s t ih r h g =
    let es = tops l s in
    let y = x + nodes_for (length es) in
    let ks = kids_from l 0 x (parts_for es) s in
    let w = put_nodes l x (parts_for es) es t in
    let e : map (entry_of l) ks ≡ entries_above 0 x (parts_for es) es = kids_above l 0 x (parts_for es) s in
    let c : length (map (entry_of l) ks) ≡ nodes_for (length es) = ap length e ∙ above_length x es in
    subst (λ (ds : List Entry). Rooted (layers f (suc l) y ds w) (recs l s)) e
    (subst (λ (rs : List Entry). Rooted (layers f (suc l) y (map (entry_of l) ks) w) rs) (level_put t l x s r g).records
    (ih (suc l) y (above t l x s r g) w (level_near t l x s r g) (subst (Fit f) (sym c) h)))

pub layers_rooted : (f : ℕ) → LevelsRooted f
layers_rooted zero l x s t r h = rw (layers_zero l x (tops l s) t) (root_near t l x s r h)
layers_rooted (suc f) l x s t r h =
    ⊎_elim
    (λ (g : 16 < length (tops l s)). rw (layers_many f l x (tops l s) t g) (higher f l x s t (layers_rooted f) r h g))
    (λ (g : length (tops l s) ≤ 16). rw (layers_few f l x (tops l s) t g) (root_near t l x s r g))
    (below_or_not 16 (length (tops l s)))
