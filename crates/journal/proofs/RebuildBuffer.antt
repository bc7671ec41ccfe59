-- A rebuild as a commit of a buffer: every node's units anew, which show each node as it is to be. Assumes nothing.
use mathlib.Core.Path.{◌≡◌, refl, ap, ap₂, ◌∙◌}
use mathlib.Core.List.{List, [], ◌∷◌, ◌++◌, append-nil, foldl, map}
use Prim.Native.Nat.{ℕ, zero, suc, ◌+◌, ◌≤◌, ◌<◌}
use native.Mathlib.Omega.{arith}
use lib.Dec.{eqb}
use borrow.Author.Tests.{eq-eqb, eqb-false, eqb-true, ne_eqb}
use Rattle.lists.specs.Lists.{All, flat}
use Rattle.lists.proofs.Alls.{All-map}
use Rattle.lists.proofs.Flats.{All-flat}
use Rattle.lists.proofs.Sets.{All-push}
use Rattle.lists.proofs.Tests.{cases}
use Rattle.pages.specs.declared.unit.Unit as U
use Rattle.pages.specs.declared.unit.Update.{Update}
use Rattle.pages.specs.Units.{Valid, ValidUpdate}
use Rattle.views.specs.Nodes.{View, apply, untouched}
use Rattle.views.specs.Groups.{own, present, unit_for}
use Rattle.views.proofs.Entries.{rebuilt}
use Rattle.views.proofs.Groups.{own_append}
use Rattle.journal.specs.Plan.{count_from, rewrite}
use Rattle.journal.proofs.ContentsLaws.{below_all}
use Rattle.journal.proofs.PlanNodes.{Fair, nothing, released, some, valid_rewrite}

-- ---- the units of one node
own_units : (n : ℕ) (us : List Update) → own n (map (unit_for n) us) ≡ us
own_units n [] = refl
own_units n (u ∷ us) = rw (eq-eqb n n refl) (ap (λ (vs : List Update). u ∷ vs) (own_units n us))

own_none : (k n : ℕ) (us : List Update) → (k ≡ n → ⊥) → own n (map (unit_for k) us) ≡ []
own_none k n [] d = refl
own_none k n (u ∷ us) d = rw (ne_eqb k n d) (own_none k n us d)

-- a fair view anew, from any view; of one that is untouched nothing is written
pub shown : {x : View} (v : View) → Fair x → (x ≡ untouched → v ≡ untouched) → foldl apply v (rewrite x) ≡ x
shown v nothing h = h refl
shown v (released a) h = refl
shown v (some {l = l} {es = es} a b c d) h = rebuilt v l es (λ e. omega arith) b c

module _ (w : ℕ → View) where
  abbrev units_anew : ℕ → List U.Unit
  units_anew n = map (unit_for n) (rewrite (w n))

  -- the units of the nodes below limit, each node anew
  abbrev pub buffer_anew : ℕ → List U.Unit
  buffer_anew limit = flat units_anew (count_from 0 limit)

  own_before : (k m n : ℕ) → n < k → own n (flat units_anew (count_from k m)) ≡ []
  own_before k zero n l = refl
  own_before k (suc m) n l =
      own_append n (units_anew k) (flat units_anew (count_from (suc k) m))
      ∙ ap₂ ◌++◌ (own_none k n (rewrite (w k)) (λ e. omega arith)) (own_before (suc k) m n (omega arith))

  own_at : (k m n : ℕ) → k ≡ n → own n (flat units_anew (count_from k (suc m))) ≡ rewrite (w n)
  own_at k m n e =
      let s : own n (units_anew k) ≡ rewrite (w n) = rw e (own_units n (rewrite (w n))) in
      own_append n (units_anew k) (flat units_anew (count_from (suc k) m))
      ∙ ap₂ ◌++◌ s (own_before (suc k) m n (omega arith)) ∙ append-nil (rewrite (w n))

  own_from : (k m n : ℕ) → k ≤ n → n < k + m → own n (flat units_anew (count_from k m)) ≡ rewrite (w n)
  own_from k zero n a b = absurd (omega arith)
  own_from k (suc m) n a b =
      cases (eqb k n) (λ t. own_at k m n (eqb-true k n t))
      (λ t. let d = eqb-false k n t in
      own_append n (units_anew k) (flat units_anew (count_from (suc k) m))
      ∙ ap₂ ◌++◌ (own_none k n (rewrite (w k)) d) (own_from (suc k) m n (omega arith) (omega arith)))

  -- node n's own units are the node anew, and after the buffer it is as w has it
  pub own_anew : (limit n : ℕ) → n < limit → own n (buffer_anew limit) ≡ rewrite (w n)
  own_anew limit n l = own_from 0 limit n (omega arith) (omega arith)

  pub present_anew : (limit n : ℕ) (v : View) → n < limit → Fair (w n) → (w n ≡ untouched → v ≡ untouched) → present n v (buffer_anew limit) ≡ w n
  present_anew limit n v l f h = ap (foldl apply v) (own_anew limit n l) ∙ shown v f h

  -- all its units obey the layout
  pub valid_anew : (limit : ℕ) → ((n : ℕ) → n < limit → Fair (w n)) → All (Valid limit) (buffer_anew limit)
  valid_anew limit f = All-flat units_anew (All-map (λ n l. one n l (valid_rewrite (f n l))) (below_all limit))
    where
      one : (n : ℕ) → n < limit → All ValidUpdate (rewrite (w n)) → All (Valid limit) (units_anew n)
      one n l h = All-push (unit_for n) (rewrite (w n)) (All-map (λ u v. record { node = l; update = v }) h)
