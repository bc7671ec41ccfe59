-- The views of an image of bytes are fair: what is decoded fits its fields. Assumes nothing.
use mathlib.Core.Path.{◌≡◌, refl}
use mathlib.Core.List.{List, foldl}
use Prim.Native.Nat.{ℕ, zero, suc, ◌<◌}
use lib.Dec.{eqb}
use lib.ListN.{drop}
use Rattle.lists.specs.Lists.{All, more, none}
use Rattle.lists.proofs.Alls.{All-drop, All-map, All-take}
use Rattle.lists.proofs.Flats.{All-flat}
use Rattle.lists.proofs.Sets.{All-push}
use Rattle.lists.proofs.Sorts.{All-sort}
use Rattle.lists.proofs.Tests.{cases}
use Rattle.chip.specs.Geometry.{Geometry}
use Rattle.chip.specs.Page.{Page, is_live}
use Rattle.std.proofs.Common.{Option, Some, None}
use Rattle.pages.specs.declared.unit.Unit as U
use Rattle.pages.specs.Units.{Valid, decode, decodes}
use Rattle.pages.specs.Data.{head_of}
use Rattle.pages.specs.Steps.{Live, before, live, live_from}
use Rattle.pages.proofs.UnitLaws.{told, told_valid}
use Rattle.views.specs.Table.{Event, Node, event_at, events, events_of, fresh, node_of, turn, turn_unit}
use Rattle.views.proofs.Folds.{node_few, node_rising}
use Rattle.views.proofs.Groups.{well_is}
use Rattle.views.proofs.Meanings.{Kept, in_order, kept_well, node_in}
use Rattle.journal.proofs.PlanNodes.{Fair, SmallView, small_apply, small_fair}

-- what is decoded from bytes below 256 fits the fields of a unit
abbrev pub ValidDecoded : ℕ → Option U.Unit → Type 0
ValidDecoded limit (Some u) = Valid limit u
ValidDecoded limit None = Unit {0}

abbrev pub Bytes : List ℕ → Type 0
Bytes b = All (λ (x : ℕ). x < 256) b

pub decode_valid : (limit : ℕ) {b : List ℕ} → Bytes b → ValidDecoded limit (decode limit b)
decode_valid limit {b} h = go (decode limit b) refl
  where
    go : (d : Option U.Unit) → decode limit b ≡ d → ValidDecoded limit d
    go (Some u) e = told_valid h (told limit b u e)
    go None e = tt

decodes_valid : (limit n : ℕ) {b : List ℕ} → Bytes b → All (ValidDecoded limit) (decodes limit n b)
decodes_valid limit zero h = none
decodes_valid limit (suc n) h = more (decode_valid limit h) (decodes_valid limit n (All-drop 12 h))

-- the units of pages
abbrev pub ValidEvent : ℕ → Event → Type 0
ValidEvent limit e = ValidDecoded limit e.unit

events_valid : (limit : ℕ) {xs : List Live} → All (λ (x : Live). Bytes x.bytes) xs → All (ValidEvent limit) (events limit xs)
unfolding events_of
events_valid limit h =
    All-flat (events_of limit)
    (All-map (λ x b. All-push (event_at x.place) (decodes limit (head_of x.bytes).units (drop 8 x.bytes)) (decodes_valid limit (head_of x.bytes).units (All-drop 8 b))) h)

-- levels and entries of a node fit their fields
turn_small : (limit n p : ℕ) (d : Option U.Unit) (s : Node) → ValidDecoded limit d → SmallView s.now → SmallView (turn_unit n p d s).now
turn_small limit n p (Some u) s w h = cases (eqb u.node n) (λ t. rw t (small_apply s.now u.update w.update h)) (λ t. rw t h)
turn_small limit n p None s w h = h

fold_small : (limit n : ℕ) {es : List Event} (s : Node) → All (ValidEvent limit) es → SmallView s.now → SmallView (foldl (turn n) s es).now
fold_small limit n s none h = h
fold_small limit n s (more {x = e} w ws) h = fold_small limit n (turn n s e) ws (turn_small limit n e.place e.unit s w h)

pub node_small : (limit n : ℕ) (es : List Event) → All (ValidEvent limit) es → SmallView (node_of n es).now
unfolding node_of
node_small limit n es w = fold_small limit n fresh w tt

-- the live pages of an image of bytes
live_valid : (g : Geometry) (i : ℕ) {ps : List Page} → All Bytes ps → All (λ (x : Live). Bytes x.bytes) (live_from g i ps)
live_valid g i none = none
live_valid g i (more {x = x} h hs) =
    let r = live_valid g (suc i) hs in
    cases (is_live g x) (λ t. rw t (more {x = live g i x} (All-take g.area h) r)) (λ t. rw t r)

-- every view that an image of bytes means is fair
pub fair_kept : (g : Geometry) (limit : ℕ) (ps : List Page) (tb : List Node) (c : ℕ) → Kept g limit ps tb c → All Bytes ps
    → (n : ℕ) → n < limit → Fair (node_in g limit ps n).now
unfolding node_in
fair_kept g limit ps tb c k b n l =
    let es : List Event = events limit (in_order g ps) in
    small_fair (node_of n es).now (node_rising n es) (node_few n es)
    (node_small limit n es (events_valid limit (All-sort before (live_valid g 0 b))))
    (well_is (node_of n es) (kept_well g limit ps tb c k n l)).0
