-- The levels of a rebuilt tree, one step at a time: the equations of `layers`, the numbers it takes, the numbers it leaves alone. Assumes nothing.
use mathlib.Core.Path.{◌≡◌, refl, sym, ap, ◌∙◌, subst}
use mathlib.Core.Logic.{⊎_elim}
use mathlib.Core.Bool.{cond}
use mathlib.Core.List.{List, [], ◌∷◌}
use Prim.Native.Nat.{ℕ, zero, suc, ◌+◌, ◌<◌, ◌≤◌}
use native.Mathlib.Omega.{arith}
use lib.Dec.{leb}
use lib.ListN.{length, take, drop}
use borrow.Author.Tests.{le-leb, lt-leb}
use Rattle.lists.proofs.Tests.{below_or_not, same_or_not}
use Rattle.views.specs.Nodes.{Entry, view}
use Rattle.tree.specs.Tree.{there, Table, at, put, next}
use Rattle.tree.specs.Rebuild.{nodes_for, even_parts, put_nodes, entries_above, layers}
use Rattle.tree.proofs.Tables.{at_same, at_other, there_old, next_put, put_ext}
use Rattle.tree.proofs.EvenParts.{even_length}

-- ---- one step of layers
pub layers_zero : (l x : ℕ) (es : List Entry) (t : Table) → layers zero l x es t ≡ put 0 (view l es) t
unfolding layers
layers_zero l x es t = refl

-- up to 16 entries are node 0
pub layers_few : (m l x : ℕ) (es : List Entry) (t : Table) → length es ≤ 16 → layers (suc m) l x es t ≡ put 0 (view l es) t
unfolding layers
layers_few m l x es t h = rw (le-leb (length es) 16 h)

-- the parts that so many entries are cut into
abbrev pub parts_for : List Entry → List ℕ
parts_for es = even_parts (nodes_for (length es)) (length es)

-- more are one level of nodes, and node 0 goes above these
abbrev pub layers_above : ℕ → ℕ → ℕ → List Entry → Table → Table
layers_above m l x es t = layers m (suc l) (x + nodes_for (length es)) (entries_above 0 x (parts_for es) es) (put_nodes l x (parts_for es) es t)

pub layers_many : (m l x : ℕ) (es : List Entry) (t : Table) → 16 < length es → layers (suc m) l x es t ≡ layers_above m l x es t
unfolding layers
layers_many m l x es t h = rw (lt-leb (length es) 16 h)

-- what holds of node 0 alone, and with one level more, holds of all levels; f counts the levels left
pub layers_by : (P : ℕ → ℕ → ℕ → List Entry → Table → Table → Type 0)
    → ((l x : ℕ) (es : List Entry) (t : Table) → P zero l x es t (put 0 (view l es) t))
    → ((f l x : ℕ) (es : List Entry) (t : Table) → length es ≤ 16 → P (suc f) l x es t (put 0 (view l es) t))
    → ((f l x : ℕ) (es : List Entry) (t u : Table) → 16 < length es
    → P f (suc l) (x + nodes_for (length es)) (entries_above 0 x (parts_for es) es) (put_nodes l x (parts_for es) es t) u → P (suc f) l x es t u)
    → (f l x : ℕ) (es : List Entry) (t : Table) → P f l x es t (layers f l x es t)
layers_by P none few many zero l x es t = subst (P zero l x es t) (sym (layers_zero l x es t)) (none l x es t)
layers_by P none few many (suc f) l x es t =
    ⊎_elim
    (λ (h : 16 < length es).
    subst (P (suc f) l x es t) (sym (layers_many f l x es t h))
    (many f l x es t (layers_above f l x es t) h
    (layers_by P none few many f (suc l) (x + nodes_for (length es)) (entries_above 0 x (parts_for es) es) (put_nodes l x (parts_for es) es t))))
    (λ (h : length es ≤ 16). subst (P (suc f) l x es t) (sym (layers_few f l x es t h)) (few f l x es t h))
    (below_or_not 16 (length es))

-- ---- the entries one level higher
pub length_above : (lo x : ℕ) (qs : List ℕ) (es : List Entry) → length (entries_above lo x qs es) ≡ length qs
length_above lo x [] es = refl
length_above lo x (q ∷ qs) es = ap suc (length_above _ (suc x) qs (drop q es))

pub above_length : (x : ℕ) (es : List Entry) → length (entries_above 0 x (parts_for es) es) ≡ nodes_for (length es)
above_length x es = length_above 0 x (parts_for es) es ∙ even_length (nodes_for (length es)) (length es)

-- ---- the numbers beside node 0 that n entries take, f levels higher at most
abbrev pub nodes_beside : ℕ → ℕ → ℕ
nodes_beside zero n = 0
nodes_beside (suc f) n = cond (leb n 16) 0 (nodes_for n + nodes_beside f (nodes_for n))

pub beside_few : (f n : ℕ) → n ≤ 16 → nodes_beside (suc f) n ≡ 0
beside_few f n h = rw (le-leb n 16 h)

pub beside_many : (f n : ℕ) → 16 < n → nodes_beside (suc f) n ≡ nodes_for n + nodes_beside f (nodes_for n)
beside_many f n h = rw (lt-leb n 16 h)

-- the numbers of the levels above
pub beside_above : (f x : ℕ) (es : List Entry) → 16 < length es
    → nodes_beside (suc f) (length es) ≡ nodes_for (length es) + nodes_beside f (length (entries_above 0 x (parts_for es) es))
beside_above f x es h = beside_many f (length es) h ∙ ap (λ (i : ℕ). nodes_for (length es) + nodes_beside f i) (sym (above_length x es))

pub put_nodes_next : (l x : ℕ) (qs : List ℕ) (es : List Entry) (t : Table) → next t ≡ x → next (put_nodes l x qs es t) ≡ x + length qs
put_nodes_next l x [] es t h = omega arith
put_nodes_next l x (q ∷ qs) es t h =
    omega (arith, put_nodes_next l (suc x) qs (drop q es) (put x (view l (take q es)) t) (omega (arith, next_put x l (take q es) t)))

pub level_next : (l x : ℕ) (es : List Entry) (t : Table) → next t ≡ x → next (put_nodes l x (parts_for es) es t) ≡ x + nodes_for (length es)
level_next l x es t h = put_nodes_next l x (parts_for es) es t h ∙ ap (λ (i : ℕ). x + i) (even_length (nodes_for (length es)) (length es))

root_next : (l x : ℕ) (es : List Entry) (t : Table) → next t ≡ x → 1 ≤ x → next (put 0 (view l es) t) ≡ x
root_next l x es t h g = omega (arith, next_put 0 l es t)

pub layers_next : (f l x : ℕ) (es : List Entry) (t : Table) → next t ≡ x → 1 ≤ x → next (layers f l x es t) ≡ x + nodes_beside f (length es)
layers_next =
    layers_by (λ f l x es t u. next t ≡ x → 1 ≤ x → next u ≡ x + nodes_beside f (length es))
    (λ l x es t h g. omega (arith, root_next l x es t h g))
    (λ f l x es t few h g. omega (arith, root_next l x es t h g, beside_few f (length es) few))
    (λ f l x es t u many r h g. omega (arith, r (level_next l x es t h) (omega arith), beside_above f x es many))

-- ---- the table keeps its length where they fit
put_length : (x l : ℕ) (es : List Entry) (t : Table) → x < length t → length (put x (view l es) t) ≡ length t
put_length x l es t h = omega (arith, (put_ext x l es t).2)

pub put_nodes_length : (l x : ℕ) (qs : List ℕ) (es : List Entry) (t : Table) → x + length qs ≤ length t → length (put_nodes l x qs es t) ≡ length t
put_nodes_length l x [] es t h = refl
put_nodes_length l x (q ∷ qs) es t h =
    let a = put_length x l (take q es) t (omega arith) in
    put_nodes_length l (suc x) qs (drop q es) (put x (view l (take q es)) t) (omega arith) ∙ a

pub layers_length : (f l x : ℕ) (es : List Entry) (t : Table) → 1 ≤ x → x + nodes_beside f (length es) ≤ length t → length (layers f l x es t) ≡ length t
layers_length =
    layers_by (λ f l x es t u. 1 ≤ x → x + nodes_beside f (length es) ≤ length t → length u ≡ length t)
    (λ l x es t g h. put_length 0 l es t (omega arith))
    (λ f l x es t few g h. put_length 0 l es t (omega arith))
    (λ f l x es t u many r g h.
    let b = beside_above f x es many in
    let a = put_nodes_length l x (parts_for es) es t (omega (arith, even_length (nodes_for (length es)) (length es))) in
    r (omega arith) (omega arith) ∙ a)

-- ---- the numbers below the next one have nodes, and those from it on are left as they are
pub put_nodes_beyond : (l x j : ℕ) (qs : List ℕ) (es : List Entry) (t : Table) → x + length qs ≤ j → at (put_nodes l x qs es t) j ≡ at t j
put_nodes_beyond l x j [] es t h = refl
put_nodes_beyond l x j (q ∷ qs) es t h =
    put_nodes_beyond l (suc x) j qs (drop q es) (put x (view l (take q es)) t) (omega arith) ∙ at_other x j (view l (take q es)) t (λ e. omega arith)

pub layers_beyond : (f l x : ℕ) (es : List Entry) (t : Table) (j : ℕ) → 1 ≤ x → x + nodes_beside f (length es) ≤ j → at (layers f l x es t) j ≡ at t j
layers_beyond f l x es t j =
    layers_by (λ f l x es t u. 1 ≤ x → x + nodes_beside f (length es) ≤ j → at u j ≡ at t j)
    (λ l x es t g h. at_other 0 j (view l es) t (λ e. omega arith))
    (λ f l x es t few g h. at_other 0 j (view l es) t (λ e. omega arith))
    (λ f l x es t u many r g h.
    let b = beside_above f x es many in
    r (omega arith) (omega arith) ∙ put_nodes_beyond l x j (parts_for es) es t (omega (arith, even_length (nodes_for (length es)) (length es))))
    f l x es t

-- each number below x has a node
abbrev pub Dense : ℕ → Table → Type 0
Dense x t = (j : ℕ) → j < x → there (at t j) ≡ 1

dense_put : (x l : ℕ) (es : List Entry) (t : Table) → Dense x t → Dense (suc x) (put x (view l es) t)
dense_put x l es t d j h =
    ⊎_elim
    (λ (q : x ≡ j). rw (← q, at_same x (view l es) t))
    (λ (q : x ≡ j → ⊥). rw (at_other x j (view l es) t q) (d j (omega arith)))
    (same_or_not x j)

dense_root : (x l : ℕ) (es : List Entry) (t : Table) → 1 ≤ x → Dense x t → Dense x (put 0 (view l es) t)
dense_root x l es t g d j h = there_old 0 j l es t (d 0 g) ∙ d j h

put_nodes_dense : (l x : ℕ) (qs : List ℕ) (es : List Entry) (t : Table) → Dense x t → Dense (x + length qs) (put_nodes l x qs es t)
put_nodes_dense l x [] es t d j h = d j (omega arith)
put_nodes_dense l x (q ∷ qs) es t d j h =
    put_nodes_dense l (suc x) qs (drop q es) (put x (view l (take q es)) t) (dense_put x l (take q es) t d) j (omega arith)

pub layers_dense : (f l x : ℕ) (es : List Entry) (t : Table) → 1 ≤ x → Dense x t → Dense (x + nodes_beside f (length es)) (layers f l x es t)
layers_dense =
    layers_by (λ f l x es t u. 1 ≤ x → Dense x t → Dense (x + nodes_beside f (length es)) u)
    (λ l x es t g d j h. dense_root x l es t g d j (omega arith))
    (λ f l x es t few g d j h. dense_root x l es t g d j (omega (arith, beside_few f (length es) few)))
    (λ f l x es t u many r g d j h.
    let e = even_length (nodes_for (length es)) (length es) in
    r (omega arith) (λ i p. put_nodes_dense l x (parts_for es) es t d i (omega arith)) j (omega (arith, beside_above f x es many)))
