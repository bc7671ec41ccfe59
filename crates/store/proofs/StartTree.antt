-- Where a list starts, K is a tree of the chip: the state is good, so P is one, and with nothing pending P is K. Assumes nothing.
use mathlib.Core.Path.{◌≡◌, ap, subst}
use mathlib.Core.List.{List}
use Prim.Native.Nat.{ℕ, ◌≤◌}
use native.Mathlib.Omega.{arith}
use lib.ListN.{length}
use Rattle.lists.proofs.Flats.{length_tab}
use Rattle.chip.specs.Geometry.{Geometry, blocks_of, Nand, geometry_of}
use Rattle.chip.proofs.Sizes.{chip_size}
use Rattle.tree.specs.Tree.{Table, next}
use Rattle.tree.specs.Shown.{shown}
use Rattle.tree.proofs.Laws.{next_length, thin_thick}
use Rattle.promise.specs.Plain.{Plain, resting}
use Rattle.promise.specs.Calls.{state_of}
use Rattle.promise.specs.Steps.{Mounted}
use Rattle.promise.specs.History.{TreeOf}
use Rattle.promise.specs.Height.{Low}
use Rattle.promise.proofs.Trees.{tree_low}
use Rattle.store.specs.declared.state.State.{State}
use Rattle.store.specs.State.{geometry_in, limit_of, present_of, Good}
use Rattle.store.specs.Ensured.{index}

pub present_size : (g : Geometry) (s : State) (i : List ℕ) → length (present_of g s i) ≡ limit_of s
unfolding present_of shown
present_size g s i = simp length_tab

-- every number of a node is below the limit
pub present_next : (g : Geometry) (s : State) (i : List ℕ) → next (present_of g s i) ≤ limit_of s
present_next g s i = omega (arith, next_length (present_of g s i), present_size g s i)

-- a chip has 32 blocks at most, so there are 256 numbers at most
pub good_blocks : (g : Geometry) (s : State) (i : List ℕ) → Good g s i → s.blocks ≤ 32
good_blocks g s i ok = (chip_size g (length i) s.blocks ok.blocks (λ z. omega (arith, ok.chip))).most

pub good_tree : (g : Geometry) (s : State) (i : List ℕ) → Good g s i → TreeOf 0 s.blocks (present_of g s i)
good_tree g s i ok =
    record { tree = ok.tree; size = present_size g s i; blocks = good_blocks g s i ok; thick = thin_thick (present_of g s i) ok.thick }

-- P has a root of level 3 at most, and keeps it, whatever is inserted
pub good_low : (g : Geometry) (s : State) (i : List ℕ) → Good g s i → Low s.blocks (present_of g s i)
good_low g s i ok = tree_low 0 s.blocks (present_of g s i) (good_tree g s i ok)

pub mounted_tree : (n : Nand) (K : Table) (G : ℕ) (s : State) (i : List ℕ) → Mounted index n K G s i → TreeOf 0 (blocks_of (geometry_of n) (length i)) K
unfolding state_of resting
mounted_tree n K G s i m =
    let g = geometry_in s in
    let p : present_of g s i ≡ K = ap (λ (q : Plain). q.present) m.is in
    let b : s.blocks ≡ blocks_of (geometry_of n) (length i) = ap (λ (q : Plain). q.blocks) m.is in
    subst (λ (t : Table). TreeOf 0 (blocks_of (geometry_of n) (length i)) t) p (subst (λ (B : ℕ). TreeOf 0 B (present_of g s i)) b (good_tree g s i m.good))
