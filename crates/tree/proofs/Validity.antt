-- Keys and values of 32 bits, and units that obey the layout: an update that does keeps the entries so. Assumes nothing.
use mathlib.Core.Path.{◌≡◌, subst}
use mathlib.Core.Logic.{⊎_elim}
use mathlib.Core.List.{List, [], ◌∷◌, map, foldl}
use Prim.Native.Nat.{ℕ, ◌-◌, ◌<◌, ◌≤◌}
use native.Mathlib.Omega.{arith}
use lib.Dec.{leb, ltb, eqb}
use lib.ListN.{length}
use borrow.Author.Tests.{lt-ltb, le-ltb, eq-eqb, ne_eqb}
use Rattle.lists.specs.Lists.{All, none, more}
use Rattle.lists.proofs.Alls.{All-zip, All-append, All-drop}
use Rattle.lists.proofs.Tests.{three, cases, same_or_not}
use Rattle.pages.specs.declared.unit.Update.{Update}
use Rattle.pages.specs.declared.unit.Update.TheVariants.{Insert, Delete, Reset}
use Rattle.pages.specs.declared.unit.Unit as U
use Rattle.pages.proofs.UnitLaws.{level_value, freed_value}
use Rattle.views.specs.Nodes.{Entry, View, untouched, freed, broken, view, inserted, anew, insert_entry, delete_entry, apply}
use Rattle.views.specs.Groups.{unit_for}
use Rattle.pages.specs.Units.{ValidUpdate, Valid}
use Rattle.tree.specs.Tree.{entries_of, Table, at, put, entries_at, first_key}
use Rattle.tree.specs.Step6.{top}
use Rattle.tree.specs.Units.{touch_view, after_units}
use Rattle.tree.specs.DeleteUnits.{first_of, three_units, join_units, to_left, to_right, share_units, over_units}
use Rattle.tree.proofs.Tables.{at_same, at_other}

-- keys and values of 32 bits
abbrev pub Small : List Entry → Type 0
Small es = All (λ (e : Entry). (e.key < top) × (e.value < top)) es

abbrev pub Smalls : Table → Type 0
Smalls t = (n : ℕ) → Small (entries_at t n)

-- units whose updates obey the layout
abbrev pub ValidUpdates : List U.Unit → Type 0
ValidUpdates us = All (λ (x : U.Unit). ValidUpdate x.update) us

-- the units obey the layout, and so do the entries of the table that they leave
pub record Valids (limit : ℕ) (us : List U.Unit) (u : Table) : Type 0 where
  pub units : All (Valid limit) us
  pub small : Smalls u

-- they do where their nodes are below the limit too
pub valid_below : (m limit : ℕ) {us : List U.Unit} → m ≤ limit → All (λ (x : U.Unit). x.node < m) us → ValidUpdates us → All (Valid limit) us
valid_below m limit h ns vs = All-zip (λ x p q. record { node = omega arith; update = q }) ns vs

-- ---- an update keeps keys and values small
pub small_insert : (k v : ℕ) {es : List Entry} → k < top → v < top → Small es → Small (insert_entry k v es)
small_insert k v hk hv none = more (hk, hv) none
small_insert k v hk hv (more {x = e} h hs) =
    three e.key k
    (λ q. rw (lt-ltb e.key k q) (more h (small_insert k v hk hv hs)))
    (λ q. rw (le-ltb e.key k (omega arith), eq-eqb e.key k q) (more (hk, hv) hs))
    (λ q. rw (le-ltb e.key k (omega arith), ne_eqb e.key k (λ r. omega arith)) (more (hk, hv) (more h hs)))

pub small_delete : (k : ℕ) {es : List Entry} → Small es → Small (delete_entry k es)
small_delete k none = none
small_delete k (more {x = e} h hs) =
    three e.key k
    (λ q. rw (lt-ltb e.key k q) (more h (small_delete k hs)))
    (λ q. rw (le-ltb e.key k (omega arith), eq-eqb e.key k q) hs)
    (λ q. rw (le-ltb e.key k (omega arith), ne_eqb e.key k (λ r. omega arith)) (more h hs))

small_apply : (w : View) (u : Update) → ValidUpdate u → Small (entries_of w) → Small (entries_of (apply w u))
small_apply w (Reset l) p h = cases (eqb l 255) (λ e. rw e none) (λ e. rw e none)
small_apply untouched (Insert k v) p h = none
small_apply untouched (Delete k) p h = none
small_apply broken (Insert k v) p h = none
small_apply freed (Insert k v) p h = none
small_apply broken (Delete k) p h = none
small_apply freed (Delete k) p h = none
small_apply (view l es) (Insert k v) p h = cases (leb (length (insert_entry k v es)) 16) (λ e. rw e (small_insert k v p.0 p.1 h)) (λ e. rw e none)
small_apply (view l es) (Delete k) p h = small_delete k h

pub small_put : (n : ℕ) (w : View) (t : Table) → Small (entries_of w) → Smalls t → Smalls (put n w t)
small_put n w t h s j =
    ⊎_elim
    (λ (e : n ≡ j). rw (← e, at_same) h)
    (λ (e : n ≡ j → ⊥). rw (at_other n j w t e) (s j))
    (same_or_not n j)

small_fold : (us : List U.Unit) (t : Table) → ValidUpdates us → Smalls t → Smalls (foldl touch_view t us)
small_fold [] t none s = s
small_fold (x ∷ us) t (more h hs) s =
    small_fold us (touch_view t x) hs (small_put x.node (apply (at t x.node) x.update) t (small_apply (at t x.node) x.update h (s x.node)) s)

pub after_small : (us : List U.Unit) (t u : Table) → after_units us t ≡ u → ValidUpdates us → Smalls t → Smalls u
unfolding after_units
after_small us t u e h s = subst (λ (w : Table). Smalls w) e (small_fold us t h s)

-- ---- the units
pub valid_map : (n : ℕ) {us : List Update} → All ValidUpdate us → ValidUpdates (map (unit_for n) us)
valid_map n none = none
valid_map n (more h hs) = more h (valid_map n hs)

pub valid_inserted : {es : List Entry} → Small es → All ValidUpdate (map inserted es)
valid_inserted none = none
valid_inserted (more h hs) = more h (valid_inserted hs)

valid_three : (a b n : ℕ) {us vs ws : List Update} → All ValidUpdate us → All ValidUpdate vs → All ValidUpdate ws → ValidUpdates (three_units a b n us vs ws)
valid_three a b n p q r = All-append (valid_map a p) (All-append (valid_map b q) (valid_map n r))

pub valid_join : (n : ℕ) (a b : Entry) (ys : List Entry) → Small ys → b.key < top → ValidUpdates (join_units n a b ys)
unfolding join_units
valid_join n a b ys h p = valid_three a.value b.value n (valid_inserted h) (more freed_value none) (more p none)

small_first : {es : List Entry} → Small es → ((first_of es).key < top) × ((first_of es).value < top)
small_first none = (omega arith, omega arith)
small_first (more h hs) = h

pub small_key : {es : List Entry} → Small es → first_key 0 es < top
small_key none = omega arith
small_key (more h hs) = h.0

pub valid_share : (n : ℕ) (a b : Entry) (xs ys : List Entry) → Small xs → Small ys → b.key < top → b.value < top → ValidUpdates (share_units n a b xs ys)
unfolding share_units to_left to_right
valid_share n a b xs ys hx hy p q =
    let e = small_first hy in
    let f = small_first (All-drop (length xs - 1) hx) in
    cases (ltb (length xs) (length ys))
    (λ z. rw z (valid_three a.value b.value n (more e none) (more e.0 none) (more p (more (small_key (All-drop 1 hy), q) none))))
    (λ z. rw z (valid_three a.value b.value n (more f.0 none) (more f none) (more p (more (f.0, q) none))))

pub valid_over : (l c : ℕ) (t : Table) → l ≤ 3 → Smalls t → ValidUpdates (over_units l c t)
unfolding over_units
valid_over l c t h s = All-append (valid_map 0 {us = anew l (entries_at t c)} (more (level_value l h) (valid_inserted (s c)))) (more freed_value none)
