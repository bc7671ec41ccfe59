-- A node's view after a buffer of units, and what it keeps that every update of the layout keeps. Assumes nothing.
use mathlib.Core.Path.{◌≡◌, refl, ap, ◌∙◌}
use mathlib.Core.Bool.{true, cond}
use mathlib.Core.List.{List, [], ◌∷◌, map, foldl}
use Prim.Native.Nat.{ℕ, zero, suc, ◌<◌, ◌≤◌}
use native.Mathlib.Omega.{arith}
use lib.Dec.{leb, eqb}
use lib.ListN.{take, drop, get_or}
use borrow.Author.Tests.{le-leb, eqb-true}
use Rattle.lists.specs.Lists.{all}
use Rattle.lists.proofs.Tests.{cases}
use Rattle.chip.specs.Geometry.{Geometry}
use Rattle.chip.specs.Page.{Page}
use Rattle.pages.specs.declared.unit.Update.{Update}
use Rattle.pages.specs.declared.unit.Update.TheVariants.{Insert, Delete, Reset}
use Rattle.pages.specs.declared.unit.Unit as U
use Rattle.std.proofs.Common.{Option, Some, None}
use Rattle.pages.specs.Units.{is_reset_value, decode, decodes}
use Rattle.pages.specs.Data.{head_of}
use Rattle.pages.proofs.UnitLaws.{ValidReset, told}
use Rattle.views.specs.Nodes.{View, untouched, freed, broken, view, apply}
use Rattle.views.specs.Groups.{own, present}
use Rattle.views.specs.Table.{is_good}
use Rattle.views.specs.Stored.{turn_view, view_after, stored_list, view_over, page_view, list_view, buffer_view, node_view}
use Rattle.views.proofs.Entries.{by_valid}
use Rattle.views.proofs.ViewLaws.{updates_of, view_is}

-- ---- a buffer of units
all_good : (us : List U.Unit) → all is_good (map Some us) ≡ true
all_good [] = refl
all_good (u ∷ us) = all_good us

updates_good : (n : ℕ) (us : List U.Unit) → updates_of n (map Some us) ≡ own n us
updates_good n [] = refl
updates_good n (u ∷ us) = ap (λ (vs : List Update). cond (eqb u.node n) (u.update ∷ vs) vs) (updates_good n us)

-- the view of a node after a buffer of units
pub buffer_good : (limit n count : ℕ) (bytes : List ℕ) (w : View) (us : List U.Unit) → count ≤ 960 → decodes limit count bytes ≡ map Some us
    → buffer_view limit n count bytes w ≡ present n w us
unfolding buffer_view
buffer_good limit n count bytes w us h e =
    rw (le-leb count 960 h, e, all_good us) (view_is n (map Some us) w ∙ ap (foldl apply w) (updates_good n us))

-- ---- what holds of no node, and what every update of a node below limit keeps, holds of a node's view
module _ (limit n : ℕ) (P : View → Type 0) (first : P untouched) (bad : P broken)
    (inserts : (w : View) (k v : ℕ) → n < limit → P w → P (apply w (Insert k v)))
    (deletes : (w : View) (k : ℕ) → n < limit → P w → P (apply w (Delete k)))
    (resets : (l : ℕ) → n < limit → l ≤ 3 → P (view l []))
    (frees : n < limit → is_reset_value 255 ≡ true → P freed) where
  -- an update of the node
  update_kept : (w : View) (u : Update) → n < limit → ValidReset u → P w → P (apply w u)
  update_kept w (Insert k v) q r h = inserts w k v q h
  update_kept w (Delete k) q r h = deletes w k q h
  update_kept w (Reset l) q r h = by_valid P w l r (frees q) (resets l q)

  -- 12 bytes, a unit or not
  turn_kept : (w : View) (b : List ℕ) (d : Option U.Unit) → decode limit b ≡ d → P w → P (turn_view n w d)
  turn_kept w b (Some u) e h =
      let t = told limit b u e in
      cases (eqb u.node n)
      (λ s. rw s (update_kept w u.update (omega (arith, t.below, eqb-true u.node n s)) t.reset h)) (λ s. rw s h)
  turn_kept w b None e h = h

  after_kept : (count : ℕ) (b : List ℕ) (w : View) → P w → P (view_after n w (decodes limit count b))
  after_kept zero b w h = h
  after_kept (suc m) b w h = after_kept m (drop 12 b) (turn_view n w (decode limit b)) (turn_kept w b (decode limit b) refl h)

  over_kept : (count : ℕ) (b : List ℕ) (w : View) → P w → P (view_over n w (decodes limit count b))
  over_kept count b w h = cases (all is_good (decodes limit count b)) (λ e. rw e (after_kept count b w h)) (λ e. rw e bad)

  -- a page, and pages
  page_kept : (g : Geometry) (x : Page) (w : View) → P w → P (page_view g limit n w x)
  unfolding page_view
  page_kept g x w h =
      cases (leb (head_of (take g.area x)).units g.units)
      (λ e. rw e (over_kept (head_of (take g.area x)).units (drop 8 (take g.area x)) w h)) (λ e. rw e bad)

  pages_kept : (g : Geometry) (pages : List Page) (ps : List ℕ) (w : View) → P w
      → P (foldl (λ (v : View) (p : ℕ). page_view g limit n v (get_or pages p [])) w ps)
  pages_kept g pages [] w h = h
  pages_kept g pages (p ∷ ps) w h = pages_kept g pages ps (page_view g limit n w (get_or pages p [])) (page_kept g (get_or pages p []) w h)

  -- the buffer
  buffer_kept : (count : ℕ) (bytes : List ℕ) (w : View) → P w → P (buffer_view limit n count bytes w)
  unfolding buffer_view
  buffer_kept count bytes w h = cases (leb count 960) (λ e. rw e (over_kept count bytes w h)) (λ e. rw e bad)

  pub view_keeps : (g : Geometry) (pages : List Page) (lens slots : List ℕ) (count : ℕ) (bytes : List ℕ) → P (node_view g limit pages lens slots count bytes n)
  view_keeps g pages lens slots count bytes =
      buffer_kept count bytes (list_view g limit pages n (stored_list lens slots n)) (pages_kept g pages (stored_list lens slots n) untouched first)
