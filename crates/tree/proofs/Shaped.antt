-- A table with a shape: its root, the child of node 0 that a key is under, and to find is to look up among the records. Assumes nothing.
use mathlib.Core.Path.{◌≡◌, sym, ap, ◌∙◌, subst}
use mathlib.Core.List.{List, [], ◌∷◌, append-nil}
use Prim.Native.Nat.{ℕ, zero, suc, ◌<◌, ◌≤◌}
use native.Mathlib.Omega.{arith}
use Rattle.views.specs.Nodes.{view}
use Rattle.tree.specs.Tree.{there, Table, at, child, root_level, lookup, find_at}
use Rattle.tree.specs.Step6.{top, times}
use Rattle.tree.proofs.Entries.{between_up, lookup_local}
use Rattle.tree.proofs.Shape.{Kid, Shape, number, tops, nums, recs, recs_of, start_of, Sub, kids_left, kids_right, kids_between, sub_between}
use Rattle.tree.proofs.Children.{Under, under, under_sub, recs_of_three, starts_before}

-- table t has a shape from node 0 on, and each node is in it once
pub record Shaped (t : Table) : Type 0 where
  pub level : ℕ
  pub shape : Shape level
  pub root : number level shape ≡ 0
  pub sub : Sub 16 t level 0 top shape
  pub once : (j : ℕ) → times j (nums level shape) ≡ there (at t j)

pub top_at : (t : Table) (T : Shaped t) → at t 0 ≡ view T.level (tops T.level T.shape)
top_at t T = rw T.root at T.sub.0.is

pub level_at : (t : Table) (T : Shaped t) → root_level t ≡ T.level
level_at t T = rw (top_at t T)

module _ (k : ℕ) (t : Table) (high : k < top) where
  pub at_root : (l : ℕ) (s : Shape (suc l)) → Sub 16 t (suc l) 0 top s → s.number ≡ 0 → Under t l 0 top 0 k s.kids
  at_root l s h root = under t l 0 top 0 k s.kids (subst (λ (n : ℕ). Sub 16 t (suc l) 0 top (record { number = n; kids = s.kids })) root h) (omega arith) high

-- to find is to look up among the records
find_branch : (t : Table) (l lo hi n k : ℕ) (ks : List (Kid (Shape l))) (w : Under t l lo hi n k ks)
    → find_at l (number l w.kid.sub) k t ≡ lookup k (recs l w.kid.sub) → find_at l (child t n k) k t ≡ lookup k (recs_of l ks)
find_branch t l lo hi n k ks w e =
    let a = w.before in
    let d = w.after in
    let P : ℕ → ℕ → Shape l → Type 0 = Sub 16 t l in
    ap (λ (i : ℕ). find_at l i k t) w.child
    ∙ e
    ∙ sym
    (ap (λ (xs : List (Kid (Shape l))). lookup k (recs_of l xs)) w.is
    ∙ ap (lookup k) (recs_of_three l a (w.kid ∷ []) d)
    ∙ rw append-nil
    (lookup_local k lo hi (recs_of l a) (recs l w.kid.sub) (recs_of l d)
    (between_up lo w.kid.key k (recs_of l a) w.low
    (kids_between t l (sub_between 16 t l) lo w.kid.key a (omega (arith, starts_before lo w.kid a d w.whole.1.0)) (kids_left P hi a (w.kid ∷ d) w.whole.1.1)))
    (kids_between t l (sub_between 16 t l) (suc k) hi d w.high (kids_right P hi a (w.kid ∷ d) w.whole.1.1).1)))

pub find_records : (t : Table) (l lo hi k : ℕ) (s : Shape l) → Sub 16 t l lo hi s → lo ≤ k → k < hi → find_at l (number l s) k t ≡ lookup k (recs l s)
find_records t zero lo hi k s h low high = rw h.0.is
find_records t (suc l) lo hi k s h low high = step (under t l lo hi s.number k s.kids h low high) (λ a b x. find_records t l a b k x)
  where
    step : (w : Under t l lo hi s.number k s.kids) → ((a b : ℕ) (x : Shape l) → Sub 16 t l a b x → a ≤ k → k < b → find_at l (number l x) k t ≡ lookup k (recs l x))
        → find_at l (child t s.number k) k t ≡ lookup k (recs_of l s.kids)
    step w ih =
        find_branch t l lo hi s.number k s.kids w
        (ih w.kid.key (start_of hi w.after) w.kid.sub (under_sub t l lo hi s.number k s.kids w) w.low w.high)
