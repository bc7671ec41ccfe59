-- The least number that is free or unused, and how many nodes there are. Assumes nothing.
use mathlib.Core.Path.{◌≡◌, refl, ap}
use mathlib.Core.List.{List, [], ◌∷◌}
use mathlib.Core.Logic.{⊎_elim}
use Prim.Native.Nat.{ℕ, zero, suc, ◌+◌, ◌-◌, ◌<◌, ◌≤◌, max}
use native.Mathlib.Omega.{arith}
use lib.ListN.{length}
use Rattle.views.specs.Nodes.{Entry, View, untouched, freed, broken, view}
use Rattle.tree.specs.Tree.{there, Table, at, put, next, next_over, least_over, least, least2, nodes}
use Rattle.tree.proofs.Tables.{hit, next_put, there_below, there_new}
use Rattle.lists.proofs.Tests.{below_or_not}
use Rattle.tree.proofs.Shape.{there_le}

pub least_free : (t : Table) → there (at t (least t)) ≡ 0
least_free [] = refl
least_free (untouched ∷ t) = refl
least_free (broken ∷ t) = refl
least_free (freed ∷ t) = refl
least_free (view l es ∷ t) = least_free t

-- every smaller number has a node
pub least_least : (t : Table) (j : ℕ) → j < least t → there (at t j) ≡ 1
least_least [] j h = absurd (omega arith)
least_least (untouched ∷ t) j h = absurd (omega arith)
least_least (broken ∷ t) j h = absurd (omega arith)
least_least (freed ∷ t) j h = absurd (omega arith)
least_least (view l es ∷ t) zero h = refl
least_least (view l es ∷ t) (suc j) h = least_least t j (omega arith)

-- the second least is another one, free too, and no other free number is smaller
pub least2_free : (t : Table) → (there (at t (least2 t)) ≡ 0) × (hit (least t) (least2 t) ≡ 0)
least2_free t =
    let a = there_new (least t) (least2 t) 0 [] t (least_free t) in
    let b = least_free (put (least t) (view 0 []) t) in
    (omega arith, omega arith)

pub least2_least : (t : Table) (j : ℕ) → j < least2 t → hit (least t) j ≡ 0 → there (at t j) ≡ 1
least2_least t j h z = omega (arith, least_least (put (least t) (view 0 []) t) j h, there_new (least t) j 0 [] t (least_free t))

-- a node that is written, or a new one
pub nodes_old : (n l : ℕ) (es : List Entry) (t : Table) → there (at t n) ≡ 1 → nodes (put n (view l es) t) ≡ nodes t
nodes_old n l es [] h = absurd (omega arith)
nodes_old zero l es (w ∷ t) h = omega arith
nodes_old (suc n) l es (w ∷ t) h = omega (arith, nodes_old n l es t h)

pub nodes_new : (n l : ℕ) (es : List Entry) (t : Table) → there (at t n) ≡ 0 → nodes (put n (view l es) t) ≡ suc (nodes t)
nodes_new zero l es [] h = refl
nodes_new zero l es (w ∷ t) h = omega arith
nodes_new (suc n) l es [] h = omega (arith, nodes_new n l es [] refl)
nodes_new (suc n) l es (w ∷ t) h = omega (arith, nodes_new n l es t h)

pub nodes_gone : (n : ℕ) (t : Table) → there (at t n) ≡ 1 → nodes (put n freed t) + 1 ≡ nodes t
nodes_gone n [] h = absurd (omega arith)
nodes_gone zero (w ∷ t) h = omega arith
nodes_gone (suc n) (w ∷ t) h = omega (arith, nodes_gone n t h)

pub least_nodes : (t : Table) → least t ≤ nodes t
least_nodes [] = omega arith
least_nodes (untouched ∷ t) = omega arith
least_nodes (broken ∷ t) = omega arith
least_nodes (freed ∷ t) = omega arith
least_nodes (view l es ∷ t) = omega (arith, least_nodes t)

over_nodes : (m p : ℕ) (w : View) → p ≤ m → there w + p ≤ next_over m w
over_nodes zero p untouched h = omega arith
over_nodes zero p broken h = omega arith
over_nodes zero p freed h = omega arith
over_nodes zero p (view l es) h = omega arith
over_nodes (suc m) p untouched h = omega arith
over_nodes (suc m) p broken h = omega arith
over_nodes (suc m) p freed h = omega arith
over_nodes (suc m) p (view l es) h = omega arith

-- there are not more nodes than numbers
pub nodes_next : (t : Table) → nodes t ≤ next t
nodes_next [] = omega arith
nodes_next (w ∷ t) = over_nodes (next t) (nodes t) w (nodes_next t)

-- numbers go beyond the limit only where there are more nodes than that
abbrev pub Packed : ℕ → Table → Type 0
Packed limit t = next t ≤ max limit (nodes t)

pub packed_old : (limit n l : ℕ) (es : List Entry) (t : Table) → there (at t n) ≡ 1 → Packed limit t → Packed limit (put n (view l es) t)
packed_old limit n l es t h p = omega (arith, nodes_old n l es t h, next_put n l es t, there_below t n h)

pub packed_new : (limit l : ℕ) (es : List Entry) (t : Table) → Packed limit t → Packed limit (put (least t) (view l es) t)
packed_new limit l es t p = omega (arith, nodes_new (least t) l es t (least_free t), next_put (least t) l es t, least_nodes t)

-- what is put does not matter
pub least_put : (n l l' : ℕ) (es es' : List Entry) (t : Table) → least (put n (view l es) t) ≡ least (put n (view l' es') t)
least_put zero l l' es es' [] = refl
least_put zero l l' es es' (w ∷ t) = refl
least_put (suc n) l l' es es' [] = refl
least_put (suc n) l l' es es' (w ∷ t) = ap (λ (m : ℕ). least_over m w) (least_put n l l' es es' t)

-- a node that is written again changes no least number
pub least_kept : (n l : ℕ) (es : List Entry) (t : Table) → there (at t n) ≡ 1 → least (put n (view l es) t) ≡ least t
least_kept n l es [] h = absurd (omega arith)
least_kept zero l es (untouched ∷ t) h = absurd (omega arith)
least_kept zero l es (broken ∷ t) h = absurd (omega arith)
least_kept zero l es (freed ∷ t) h = absurd (omega arith)
least_kept zero l es (view i ds ∷ t) h = refl
least_kept (suc n) l es (w ∷ t) h = ap (λ (m : ℕ). least_over m w) (least_kept n l es t h)

-- ---- where no number is new, the greatest is not greater
over_last : (p m : ℕ) (x : View) (u : Table) → next u ≡ p → next_over p x ≡ suc m → ((q : ℕ) → next u ≡ suc q → there (at u q) ≡ 1) → there (at (x ∷ u) m) ≡ 1
over_last zero zero x u e h f = h
over_last zero (suc m) x u e h f = absurd (omega (arith, there_le x))
over_last (suc p) zero x u e h f = absurd (omega arith)
over_last (suc p) (suc m) x u e h f = f m (omega arith)

next_last : (u : Table) (m : ℕ) → next u ≡ suc m → there (at u m) ≡ 1
next_last [] m e = absurd (omega arith)
next_last (x ∷ u) m e = over_last (next u) m x u refl e (λ q h. next_last u q h)

pub next_fewer : (t u : Table) → ((j : ℕ) → there (at u j) ≡ 1 → there (at t j) ≡ 1) → next u ≤ next t
next_fewer t u f =
    ⊎_elim
    (λ (q : next t < next u). let b = there_below t (next u - 1) (f (next u - 1) (next_last u (next u - 1) (omega arith))) in absurd (omega arith))
    (λ (q : next u ≤ next t). q)
    (below_or_not (next t) (next u))

pub there_length : (t : Table) (n : ℕ) → there (at t n) ≡ 1 → n < length t
there_length [] n h = absurd (omega arith)
there_length (x ∷ t) zero h = omega arith
there_length (x ∷ t) (suc n) h = omega (arith, there_length t n h)

pub put_length : (n : ℕ) (w : View) (t : Table) → n < length t → length (put n w t) ≡ length t
put_length n w [] h = absurd (omega arith)
put_length zero w (x ∷ t) h = refl
put_length (suc n) w (x ∷ t) h = ap suc (put_length n w t (omega arith))
