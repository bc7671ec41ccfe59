-- No tree with the same records has fewer nodes than the rebuilt one. Assumes nothing.
use mathlib.Core.Logic.{⊎_elim}
use Prim.Native.Nat.{ℕ, zero, suc, ◌+◌, ◌<◌, ◌≤◌}
use native.Mathlib.Omega.{arith}
use lib.ListN.{length}
use Rattle.lists.proofs.Tests.{below_or_not}
use Rattle.tree.specs.Tree.{Table, nodes, records}
use Rattle.tree.specs.Step6.{top, Tree}
use Rattle.tree.specs.Rebuild.{nodes_for}
use Rattle.tree.proofs.Shape.{Shape, nums, recs, Sub}
use Rattle.tree.proofs.Step6.{shape_of}
use Rattle.tree.proofs.Records.{records_of}
use Rattle.tree.proofs.NodeCount.{nodes_shape, records_leaves, leaves_parents, kids_both, both_nodes}
use Rattle.tree.proofs.LayerFacts.{nodes_beside, beside_few, beside_many}

-- ---- the nodes beside node 0, two levels higher at most
beside_two : (r : ℕ) → nodes_beside 2 r ≤ nodes_for r + nodes_for (nodes_for r)
beside_two r =
    ⊎_elim
    (λ (h : 16 < r).
    ⊎_elim
    (λ (g : 16 < nodes_for r). omega (arith, beside_many 1 r h, beside_many 0 (nodes_for r) g))
    (λ (g : nodes_for r ≤ 16). omega (arith, beside_many 1 r h, beside_few 0 (nodes_for r) g))
    (below_or_not 16 (nodes_for r)))
    (λ (h : r ≤ 16). omega (arith, beside_few 1 r h))
    (below_or_not 16 r)

beside_one : (r : ℕ) → nodes_for r ≤ 16 → nodes_beside 2 r ≤ nodes_for r
beside_one r g =
    ⊎_elim
    (λ (h : 16 < r). omega (arith, beside_many 1 r h, beside_few 0 (nodes_for r) g))
    (λ (h : r ≤ 16). omega (arith, beside_few 1 r h))
    (below_or_not 16 r)

-- ---- a shape has as many, by its level
fewest_shape : (t : Table) (l lo hi : ℕ) (s : Shape l) → Sub 16 t l lo hi s → suc (nodes_beside 2 (length (recs l s))) ≤ length (nums l s)
fewest_shape t zero lo hi s h = omega (arith, beside_few 1 (length s.entries) h.0.size)
fewest_shape t (suc zero) lo hi s h =
    let r = length (recs 1 s) in
    let a = records_leaves t 1 lo hi s h in
    let b = leaves_parents t 0 lo hi s h in
    omega (arith, beside_one r (omega arith), both_nodes 1 s)
fewest_shape t (suc (suc l)) lo hi s h =
    let r = length (recs (suc (suc l)) s) in
    let a = records_leaves t (suc (suc l)) lo hi s h in
    let b = leaves_parents t (suc l) lo hi s h in
    let c = kids_both (suc l) (both_nodes (suc l)) s.kids in
    omega (arith, beside_two r)

pub fewest_nodes : (t : Table) → Tree t → suc (nodes_beside 2 (length (records t))) ≤ nodes t
fewest_nodes t g =
    let T = shape_of t g in
    rw (records_of t T, nodes_shape t T) (fewest_shape t T.level 0 top T.shape T.sub)
