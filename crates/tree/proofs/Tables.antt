-- Laws of tables: reading after writing, the next number, the length. Assumes nothing.
use mathlib.Core.Path.{◌≡◌, refl, ap, ◌∙◌}
use mathlib.Core.Logic.{⊎_elim}
use mathlib.Core.List.{List, [], ◌∷◌}
use Prim.Native.Nat.{ℕ, zero, suc, ◌+◌, ◌<◌, ◌≤◌, max}
use native.Mathlib.Omega.{arith}
use lib.Dec.{eqb}
use lib.ListN.{length}
use borrow.Author.Tests.{eq-eqb, ne_eqb}
use Rattle.lists.specs.Lists.{bit}
use Rattle.views.specs.Nodes.{Entry, View, untouched, freed, broken, view}
use Rattle.tree.specs.Tree.{there, Table, at, put, next, next_over}
use Rattle.lists.proofs.Tests.{same_or_not, below_or_not}

-- 1 where the numbers are equal
abbrev pub hit : ℕ → ℕ → ℕ
hit n m = bit (eqb n m)

pub at_same : (n : ℕ) (s : View) (t : Table) → at (put n s t) n ≡ s
at_same zero s [] = refl
at_same zero s (x ∷ t) = refl
at_same (suc n) s [] = at_same n s []
at_same (suc n) s (x ∷ t) = at_same n s t

pub at_other : (n j : ℕ) (s : View) (t : Table) → (n ≡ j → ⊥) → at (put n s t) j ≡ at t j
at_other zero zero s t h = absurd (h refl)
at_other zero (suc j) s [] h = refl
at_other zero (suc j) s (x ∷ t) h = refl
at_other (suc n) zero s [] h = refl
at_other (suc n) zero s (x ∷ t) h = refl
at_other (suc n) (suc j) s [] h = at_other n j s [] (λ e. h (ap suc e))
at_other (suc n) (suc j) s (x ∷ t) h = at_other n j s t (λ e. h (ap suc e))

over_rest : (m j : ℕ) (s : View) → next_over m s ≤ suc j → m ≤ j
over_rest zero j s h = omega arith
over_rest (suc m) j s h = omega arith

over_zero : (m : ℕ) (s : View) → next_over m s ≤ 0 → there s ≡ 0
over_zero zero s h = omega arith
over_zero (suc m) s h = absurd (omega arith)

-- from the next number on there is no node
pub at_beyond : (t : Table) (j : ℕ) → next t ≤ j → there (at t j) ≡ 0
at_beyond [] j h = refl
at_beyond (x ∷ t) zero h = over_zero (next t) x h
at_beyond (x ∷ t) (suc j) h = at_beyond t j (over_rest (next t) j x h)

-- what is there after a write of a node
pub there_new : (n j l : ℕ) (es : List Entry) (t : Table) → there (at t n) ≡ 0 → there (at (put n (view l es) t) j) ≡ there (at t j) + hit n j
there_new n j l es t h =
    ⊎_elim
    (λ (e : n ≡ j). rw (← e, at_same, eq-eqb n n refl) (omega arith))
    (λ (e : n ≡ j → ⊥). rw (at_other n j (view l es) t e, ne_eqb n j e) (omega arith))
    (same_or_not n j)

pub there_old : (n j l : ℕ) (es : List Entry) (t : Table) → there (at t n) ≡ 1 → there (at (put n (view l es) t) j) ≡ there (at t j)
there_old n j l es t h =
    ⊎_elim
    (λ (e : n ≡ j). rw (← e, at_same) (omega arith))
    (λ (e : n ≡ j → ⊥). rw (at_other n j (view l es) t e))
    (same_or_not n j)

-- a table grows only as far as its numbers ask
over_mono : (m n : ℕ) (s : View) → m ≤ n → next_over m s ≤ next_over n s
over_mono zero zero s h = omega arith
over_mono zero (suc n) untouched h = omega arith
over_mono zero (suc n) broken h = omega arith
over_mono zero (suc n) freed h = omega arith
over_mono zero (suc n) (view l es) h = omega arith
over_mono (suc m) zero s h = absurd (omega arith)
over_mono (suc m) (suc n) s h = omega arith

over_node : (m l : ℕ) (s : View) (es : List Entry) → (next_over m s ≤ next_over m (view l es)) × (1 ≤ next_over m (view l es))
over_node zero l untouched es = (omega arith, omega arith)
over_node zero l broken es = (omega arith, omega arith)
over_node zero l freed es = (omega arith, omega arith)
over_node zero l (view k ds) es = (omega arith, omega arith)
over_node (suc m) l s es = (omega arith, omega arith)

over_big : (m i : ℕ) (s : View) → suc i ≤ m → suc (suc i) ≤ next_over m s
over_big zero i s h = absurd (omega arith)
over_big (suc m) i s h = omega arith

pub record Ext (t u : Table) : Type 0 where
  pub long : length t ≤ length u
  pub short : length u ≤ max (length t) (next u)
  pub more : next t ≤ next u

pub put_ext : (n l : ℕ) (es : List Entry) (t : Table) → (suc n ≤ next (put n (view l es) t)) × (next t ≤ next (put n (view l es) t)) × (length (put n (view l es) t) ≡ max (length t) (suc n))
put_ext zero l es [] = (omega arith, omega arith, refl)
put_ext zero l es (x ∷ t) = ((over_node (next t) l x es).1, (over_node (next t) l x es).0, omega arith)
put_ext (suc n) l es [] = let r = put_ext n l es [] in (over_big (next (put n (view l es) [])) n untouched r.0, omega arith, omega (arith, r.2))
put_ext (suc n) l es (x ∷ t) =
    let r = put_ext n l es t in
    (over_big (next (put n (view l es) t)) n x r.0, over_mono (next t) (next (put n (view l es) t)) x r.1, omega (arith, r.2))

pub ext_put : (n l : ℕ) (es : List Entry) (t u : Table) → Ext t u → Ext t (put n (view l es) u)
ext_put n l es t u e =
    let r = put_ext n l es u in
    record { long = omega (arith, r.2, e.long); short = omega (arith, r.0, r.1, r.2, e.short); more = omega (arith, r.1, e.more) }

pub ext_same : (t : Table) → Ext t t
ext_same t = record { long = omega arith; short = omega arith; more = omega arith }

over_pos : (m : ℕ) (s : View) → 1 ≤ m → next_over m s ≡ suc m
over_pos zero s h = absurd (omega arith)
over_pos (suc m) s h = refl

over_le : (m : ℕ) (s : View) → next_over m s ≤ suc m
over_le zero untouched = omega arith
over_le zero broken = omega arith
over_le zero freed = omega arith
over_le zero (view l es) = omega arith
over_le (suc m) s = omega arith

pub next_length : (t : Table) → next t ≤ length t
next_length [] = omega arith
next_length (x ∷ t) = omega (arith, over_le (next t) x, next_length t)

over_max : (m l : ℕ) (s : View) (es : List Entry) → next_over m (view l es) ≡ max (next_over m s) 1
over_max zero l untouched es = refl
over_max zero l broken es = refl
over_max zero l freed es = refl
over_max zero l (view k ds) es = refl
over_max (suc m) l s es = omega arith

pub next_put : (n l : ℕ) (es : List Entry) (t : Table) → next (put n (view l es) t) ≡ max (next t) (suc n)
next_put zero l es [] = refl
next_put zero l es (x ∷ t) = over_max (next t) l x es
next_put (suc n) l es [] = let r = next_put n l es [] in over_pos (next (put n (view l es) [])) untouched (omega (arith, r)) ∙ omega (arith, r)
next_put (suc n) l es (x ∷ t) =
    let r = next_put n l es t in
    over_pos (next (put n (view l es) t)) x (omega (arith, r))
    ∙ ⊎_elim
    (λ (q : 0 < next t). omega (arith, r, over_pos (next t) x q))
    (λ (q : next t ≤ 0). omega (arith, r, over_le (next t) x))
    (below_or_not 0 (next t))

pub put_there : (n : ℕ) (s : View) (t : Table) → there (at t n) ≡ 1 → length (put n s t) ≡ length t
put_there n s [] h = absurd (omega arith)
put_there zero s (x ∷ t) h = refl
put_there (suc n) s (x ∷ t) h = ap suc (put_there n s t h)

pub there_below : (t : Table) (n : ℕ) → there (at t n) ≡ 1 → n < next t
there_below t n h =
    ⊎_elim
    (λ (q : n < next t). q)
    (λ (q : next t ≤ n). let z = at_beyond t n q in absurd (omega arith))
    (below_or_not n (next t))

pub put_put : (n : ℕ) (a b : View) (t : Table) → put n a (put n b t) ≡ put n a t
put_put zero a b [] = refl
put_put zero a b (x ∷ t) = refl
put_put (suc n) a b [] = rw (put_put n a b [])
put_put (suc n) a b (x ∷ t) = rw (put_put n a b t)
