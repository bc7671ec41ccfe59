-- Units that are pushed to the buffer do to the table that a state shows what units do to a table. Assumes nothing.
use mathlib.Core.Path.{◌≡◌, refl, sym, ap, ◌∙◌}
use mathlib.Core.Bool.{cond}
use mathlib.Core.List.{List, ◌∷◌, ◌++◌, map, foldl}
use Prim.Native.Nat.{ℕ, zero, suc, ◌+◌, ◌<◌, ◌≤◌}
use native.Mathlib.Omega.{arith}
use lib.Dec.{eqb}
use lib.ListN.{length}
use borrow.Author.Tests.{eq-eqb, ne_eqb}
use Rattle.lists.specs.Lists.{All, none, more, tab}
use Rattle.lists.proofs.Tests.{cases}
use Rattle.lists.proofs.Alls.{All-map}
use Rattle.lists.proofs.Flats.{tab_same}
use Rattle.chip.specs.Geometry.{Geometry}
use Rattle.chip.specs.Page.{Page}
use Rattle.pages.specs.declared.unit.Unit as U
use Rattle.std.proofs.Common.{Some}
use Rattle.pages.specs.Units.{decodes, Valid}
use Rattle.views.specs.Nodes.{View, apply}
use Rattle.views.specs.Groups.{present}
use Rattle.views.specs.Stored.{stored_list, list_view, node_view}
use Rattle.views.specs.PassCode.{pushed}
use Rattle.views.proofs.Groups.{present_append}
use Rattle.views.proofs.BufferLaws.{pushed_read}
use Rattle.views.proofs.NodeViews.{buffer_good}
use Rattle.tree.specs.Tree.{Table, at, put}
use Rattle.tree.specs.Units.{touch_view, after_units}
use Rattle.tree.specs.Shown.{shown}

-- ---- units on a table that is made node by node
-- one unit, at each node
abbrev turned : U.Unit → (ℕ → View) → ℕ → View
turned u f n = cond (eqb u.node n) (apply (f n) u.update) (f n)

-- nodes above the unit's
beyond : (u : U.Unit) (f : ℕ → View) (k m : ℕ) → u.node < k → tab k m f ≡ tab k m (turned u f)
beyond u f k zero h = refl
beyond u f k (suc m) h = rw (ne_eqb u.node k (λ z. omega arith), beyond u f (suc k) m (omega arith))

touch_at : (u : U.Unit) (f : ℕ → View) (k m i : ℕ) → u.node ≡ k + i → i < m
    → put i (apply (at (tab k m f) i) u.update) (tab k m f) ≡ tab k m (turned u f)
touch_at u f k zero i e h = absurd (omega arith)
touch_at u f k (suc m) zero e h = rw (eq-eqb u.node k (omega arith), beyond u f (suc k) m (omega arith))
touch_at u f k (suc m) (suc i) e h = rw (ne_eqb u.node k (λ z. omega arith), touch_at u f (suc k) m i (omega arith) (omega arith))

turned_present : (u : U.Unit) (f : ℕ → View) (us : List U.Unit) (n : ℕ) → present n (turned u f n) us ≡ present n (f n) (u ∷ us)
turned_present u f us n = cases (eqb u.node n) (λ t. rw t) (λ t. rw t)

pub after_tab : (limit : ℕ) (f : ℕ → View) {us : List U.Unit} → All (λ (u : U.Unit). u.node < limit) us
    → after_units us (tab 0 limit f) ≡ tab 0 limit (λ n. present n (f n) us)
unfolding after_units
after_tab limit f none = refl
after_tab limit f (more {x = u} {xs = us} h hs) =
    ap (λ (t : Table). foldl touch_view t us) (touch_at u f 0 limit u.node (omega arith) h)
    ∙ after_tab limit (turned u f) hs
    ∙ tab_same (λ n. present n (turned u f n) us) (λ n. present n (f n) (u ∷ us)) 0 limit (λ n _. turned_present u f us n)

-- ---- the table that a state shows
module _ (g : Geometry) (limit : ℕ) (pages : List Page) (lens slots : List ℕ) where
  -- a node's view from its pages
  abbrev stored : ℕ → View
  stored n = list_view g limit pages n (stored_list lens slots n)

  shown_good : (count : ℕ) (bytes : List ℕ) (us : List U.Unit) → count ≤ 960 → decodes limit count bytes ≡ map Some us
      → shown g limit pages lens slots count bytes ≡ tab 0 limit (λ n. present n (stored n) us)
  unfolding shown
  shown_good count bytes us h e =
      tab_same (node_view g limit pages lens slots count bytes) (λ n. present n (stored n) us) 0 limit
      (λ n _. buffer_good limit n count bytes (stored n) us h e)

  -- the law of pushing: the table after the units vs behind the units us
  pub shown_pushed : (count : ℕ) (bytes : List ℕ) (us vs : List U.Unit) → decodes limit count bytes ≡ map Some us → All (Valid limit) vs
      → count + length vs ≤ 960 → length bytes ≡ 11520
      → shown g limit pages lens slots (count + length vs) (pushed bytes count vs) ≡ after_units vs (shown g limit pages lens slots count bytes)
  shown_pushed count bytes us vs e v h l =
      let low : All (λ (u : U.Unit). u.node < limit) vs = All-map (λ u q. q.node) v in
      shown_good (count + length vs) (pushed bytes count vs) (us ++ vs) h (pushed_read limit count bytes us (omega arith) e vs v)
      ∙ tab_same (λ n. present n (stored n) (us ++ vs)) (λ n. present n (present n (stored n) us) vs) 0 limit (λ n _. present_append n (stored n) us vs)
      ∙ sym (after_tab limit (λ n. present n (stored n) us) low)
      ∙ ap (after_units vs) (sym (shown_good count bytes us (omega arith) e))

  -- and the buffer is one of units again
  pub pushed_good : (count : ℕ) (bytes : List ℕ) (us vs : List U.Unit) → decodes limit count bytes ≡ map Some us → All (Valid limit) vs
      → count + length vs ≤ 960 → length bytes ≡ 11520 → decodes limit (count + length vs) (pushed bytes count vs) ≡ map Some (us ++ vs)
  pushed_good count bytes us vs e v h l = pushed_read limit count bytes us (omega arith) e vs v
