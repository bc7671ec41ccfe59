-- The way down to a leaf: on a tree it leads through nodes that are there, of falling level. Assumes nothing.
use mathlib.Core.Path.{◌≡◌, refl, ap, subst}
use mathlib.Core.Bool.{true}
use Prim.Native.Nat.{ℕ, zero, suc, ◌<◌, ◌≤◌}
use native.Mathlib.Omega.{arith}
use borrow.Author.Tests.{eq-eqb}
use Rattle.lists.specs.Lists.{All, none, more}
use Rattle.views.specs.Nodes.{View}
use Rattle.tree.specs.Tree.{there, Table, at, root_level, child, path_at, path}
use Rattle.tree.specs.Step6.{top, is_level, Leads, Tree}
use Rattle.tree.proofs.Shape.{Shape, number, start_of, Sub}
use Rattle.tree.proofs.Children.{Under, under, under_sub}
use Rattle.tree.proofs.Shaped.{level_at}
use Rattle.tree.proofs.Step6.{shape_of, is_node}

leads_sub : (k : ℕ) (t : Table) (l lo hi : ℕ) (s : Shape l) → Sub 16 t l lo hi s → lo ≤ k → k < hi → Leads l (number l s) k t
leads_sub k t zero lo hi s h low high = rw h.0.is
leads_sub k t (suc l) lo hi s h low high =
    (rw h.0.is (eq-eqb (suc l) (suc l) refl), step (under t l lo hi s.number k s.kids h low high) (λ a b x. leads_sub k t l a b x))
  where
    step : (w : Under t l lo hi s.number k s.kids) → ((a b : ℕ) (x : Shape l) → Sub 16 t l a b x → a ≤ k → k < b → Leads l (number l x) k t) → Leads l (child t s.number k) k t
    step w ih = rw w.child (ih w.kid.key (start_of hi w.after) w.kid.sub (under_sub t l lo hi s.number k s.kids w) w.low w.high)

pub leads : (k : ℕ) (t : Table) → Tree t → k < top → Leads (root_level t) 0 k t
leads k t g h =
    let T = shape_of t g in
    rw (level_at t T) (subst (λ (n : ℕ). Leads T.level n k t) T.root (leads_sub k t T.level 0 top T.shape T.sub (omega arith) h))

pub level_there : (l : ℕ) (w : View) → is_level l w ≡ true → there w ≡ 1
level_there l w h = ap there (is_node l w h)

-- each node of the way is there
path_at_there : (l n k : ℕ) (t : Table) → Leads l n k t → All (λ (m : ℕ). there (at t m) ≡ 1) (path_at l n k t)
path_at_there zero n k t h = more (level_there 0 (at t n) h) none
path_at_there (suc l) n k t h = more (level_there (suc l) (at t n) h.0) (path_at_there l (child t n k) k t h.1)

pub path_there : (k : ℕ) (t : Table) → Tree t → k < top → All (λ (m : ℕ). there (at t m) ≡ 1) (path k t)
unfolding path
path_there k t g h = path_at_there (root_level t) 0 k t (leads k t g h)
