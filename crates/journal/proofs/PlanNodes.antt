-- A node written anew: views stay fair, at most 17 valid updates, and the reset first. Assumes nothing.
use mathlib.Core.Path.{◌≡◌, refl, ap}
use mathlib.Core.Bool.{Bool, true, false, cond}
use mathlib.Core.List.{List, [], ◌∷◌, map, foldl}
use Prim.Native.Nat.{ℕ, ◌^◌, ◌≤◌, ◌<◌}
use native.Mathlib.Omega.{arith}
use lib.Dec.{eqb, leb, ltb}
use lib.ListN.{length, length-map}
use borrow.Author.Tests.{eq-eqb}
use Rattle.lists.specs.Lists.{All, more, none}
use Rattle.lists.proofs.Tests.{cases, clash}
use Rattle.chip.specs.Geometry.{Geometry}
use Rattle.chip.specs.Page.{Page}
use Rattle.std.proofs.Common.{Option, Some, None}
use Rattle.pages.specs.declared.unit.Unit as U
use Rattle.pages.specs.declared.unit.Update.{Update}
use Rattle.pages.specs.declared.unit.Update.TheVariants.{Delete, Insert, Reset}
use Rattle.pages.specs.Units.{Valid, ValidUpdate, is_reset_value}
use Rattle.pages.proofs.UnitLaws.{level_value}
use Rattle.views.specs.Nodes.{Entry, Rising, View, apply, broken, delete_entry, freed, insert_entry, inserted, untouched, view}
use Rattle.views.specs.Table.{Event, Node, events, fresh, is_whole, node_of, turn, turn_unit}
use Rattle.views.specs.Groups.{own, present}
use Rattle.views.proofs.Entries.{FewView, RisingView, by_reset, by_valid, updates_few, updates_rising}
use Rattle.views.proofs.Meanings.{in_order, node_in}
use Rattle.journal.specs.Plan.{rewrite}

-- ---- lists
-- a list with an element is not empty, and one that is not empty has an element
pub cons_some : {A : Type 0} {Q : Type 0} (x : A) (xs : List A) → x ∷ xs ≡ [] → Q
cons_some x xs e = let y : ◌≡◌ {A = ℕ} 0 1 = cc in absurd (omega arith)

pub nil_short : {A : Type 0} (xs : List A) → (xs ≡ [] → ⊥) → 0 < length xs
nil_short [] h = absurd (h refl)
nil_short (x ∷ xs) h = omega arith

-- ---- fair views: the tree's invariant, and what fits the fields of a unit
abbrev pub Small : Entry → Type 0
Small e = (e.key < 2 ^ 32) × (e.value < 2 ^ 32)

pub data Fair : View → Type 0 where
  nothing : Fair untouched
  released : is_reset_value 255 ≡ true → Fair freed
  some : {l : ℕ} {es : List Entry} → l ≤ 3 → Rising es → length es ≤ 16 → All Small es → Fair (view l es)

pub fair_whole : {v : View} → Fair v → is_whole v ≡ true
fair_whole nothing = refl
fair_whole (released a) = refl
fair_whole (some a b c d) = refl

pub fair_rising : {v : View} → Fair v → RisingView v
fair_rising nothing = tt
fair_rising (released a) = tt
fair_rising (some a b c d) = b

pub fair_few : {v : View} → Fair v → FewView v
fair_few nothing = tt
fair_few (released a) = tt
fair_few (some a b c d) = c

-- level and entries fit their fields, and the reset of a freed node is one of the layout
abbrev pub SmallView : View → Type 0
SmallView untouched = Unit {0}
SmallView freed = is_reset_value 255 ≡ true
SmallView broken = Unit {0}
SmallView (view l es) = (l ≤ 3) × All Small es

fair_small : {v : View} → Fair v → SmallView v
fair_small nothing = tt
fair_small (released a) = a
fair_small (some a b c d) = (a, d)

pub small_fair : (v : View) → RisingView v → FewView v → SmallView v → is_whole v ≡ true → Fair v
small_fair untouched r f s u = nothing
small_fair freed r f s u = released s
small_fair broken r f s u = clash u refl
small_fair (view l es) r f s u = some s.0 r f s.1

small_delete : (k : ℕ) {es : List Entry} → All Small es → All Small (delete_entry k es)
small_delete k none = none
small_delete k (more {x = e} h hs) =
    cases (ltb e.key k)
    (λ t. rw t (more h (small_delete k hs)))
    (λ t. cases (eqb e.key k) (λ q. rw (t, q) hs) (λ q. rw (t, q) (more h hs)))

small_insert : (k v : ℕ) {es : List Entry} → k < 2 ^ 32 → v < 2 ^ 32 → All Small es → All Small (insert_entry k v es)
small_insert k v a b none = more (a, b) none
small_insert k v a b (more {x = e} h hs) =
    cases (ltb e.key k)
    (λ t. rw t (more h (small_insert k v a b hs)))
    (λ t. cases (eqb e.key k) (λ q. rw (t, q) (more (a, b) hs)) (λ q. rw (t, q) (more (a, b) (more h hs))))

pub small_apply : (v : View) (u : Update) → ValidUpdate u → SmallView v → SmallView (apply v u)
small_apply untouched (Insert k x) w h = tt
small_apply freed (Insert k x) w h = tt
small_apply broken (Insert k x) w h = tt
small_apply (view l es) (Insert k x) w h =
    cases (leb (length (insert_entry k x es)) 16) (λ t. rw t (h.0, small_insert k x w.0 w.1 h.1)) (λ t. rw t tt)
small_apply untouched (Delete k) w h = tt
small_apply freed (Delete k) w h = tt
small_apply broken (Delete k) w h = tt
small_apply (view l es) (Delete k) w h = (h.0, small_delete k h.1)
small_apply v (Reset l) w h = by_valid SmallView v l w (λ a. a) (λ a. (a, none))

small_updates : (v : View) {us : List Update} → All ValidUpdate us → SmallView v → SmallView (foldl apply v us)
small_updates v none h = h
small_updates v (more {x = u} w ws) h = small_updates (apply v u) ws (small_apply v u w h)

pub own_valid : (limit n : ℕ) {us : List U.Unit} → All (Valid limit) us → All ValidUpdate (own n us)
own_valid limit n none = none
own_valid limit n (more {x = u} h hs) =
    cases (eqb u.node n) (λ t. rw t (more h.update (own_valid limit n hs))) (λ t. rw t (own_valid limit n hs))

-- the view after a buffer of valid units is fair again, unless it is broken
pub fair_present : (limit n : ℕ) (v : View) (us : List U.Unit) → All (Valid limit) us → Fair v → is_whole (present n v us) ≡ true → Fair (present n v us)
fair_present limit n v us f h u =
    small_fair (present n v us) (updates_rising v (own n us) (fair_rising h)) (updates_few v (own n us) (fair_few h))
    (small_updates v (own_valid limit n f) (fair_small h)) u

-- ---- an update leaves no view untouched
abbrev pub touched : View → Bool
touched untouched = false
touched freed = true
touched broken = true
touched (view l es) = true

cond_touched : (b : Bool) (l : ℕ) (es : List Entry) → touched (cond b (view l es) broken) ≡ true
cond_touched true l es = refl
cond_touched false l es = refl

pub apply_touched : (w : View) (u : Update) → touched (apply w u) ≡ true
apply_touched untouched (Insert k v) = refl
apply_touched freed (Insert k v) = refl
apply_touched broken (Insert k v) = refl
apply_touched (view l es) (Insert k v) = cond_touched (leb (length (insert_entry k v es)) 16) l (insert_entry k v es)
apply_touched untouched (Delete k) = refl
apply_touched freed (Delete k) = refl
apply_touched broken (Delete k) = refl
apply_touched (view l es) (Delete k) = refl
apply_touched w (Reset l) = by_reset (λ (v : View). touched v ≡ true) w l (λ e. refl) (λ d. refl)

fold_touched : (us : List Update) (w : View) → touched w ≡ true → touched (foldl apply w us) ≡ true
fold_touched [] w h = h
fold_touched (u ∷ us) w h = fold_touched us (apply w u) (apply_touched w u)

some_touched : (u : Update) (us : List Update) (w : View) → touched (foldl apply w (u ∷ us)) ≡ true
some_touched u us w = fold_touched us (apply w u) (apply_touched w u)

pub untouched_own : (us : List Update) (w : View) → foldl apply w us ≡ untouched → us ≡ []
untouched_own [] w e = refl
untouched_own (u ∷ us) w e = clash (some_touched u us w) (ap touched e)

-- a unit is one of its node
pub some_own : (us : List U.Unit) (u : U.Unit) → own u.node (u ∷ us) ≡ [] → ⊥
some_own us u e = cons_some u.update (own u.node us) (rw (eq-eqb u.node u.node refl) at e)

-- a node that is untouched has no list
bare : (n : ℕ) (es : List Event) (s : Node) → (s.now ≡ untouched → s.pages ≡ []) → (foldl (turn n) s es).now ≡ untouched → (foldl (turn n) s es).pages ≡ []
bare n [] s h e = h e
bare n (x ∷ es) s h e = bare n es (turn n s x) (one x.unit) e
  where
    one : (d : Option U.Unit) → (turn_unit n x.place d s).now ≡ untouched → (turn_unit n x.place d s).pages ≡ []
    one None k = h k
    one (Some u) k =
        cases (eqb u.node n)
        (λ t. let m : apply s.now u.update ≡ untouched = (rw t at k) in clash (apply_touched s.now u.update) (ap touched m))
        (λ t. let m : s.now ≡ untouched = (rw t at k) in rw t (h m))

pub bare_node : (g : Geometry) (limit : ℕ) (ps : List Page) (n : ℕ) → (node_in g limit ps n).now ≡ untouched → (node_in g limit ps n).pages ≡ []
unfolding node_in node_of
bare_node g limit ps n e = bare n (events limit (in_order g ps)) fresh (λ z. refl) e

-- ---- a node written anew
pub length_rewrite : {w : View} → Fair w → length (rewrite w) ≤ 17
length_rewrite nothing = omega arith
length_rewrite (released a) = omega arith
length_rewrite (some {es = es} a b c d) = omega (arith, length-map es inserted)

pub valid_rewrite : {w : View} → Fair w → All ValidUpdate (rewrite w)
valid_rewrite nothing = none
valid_rewrite (released a) = more a none
valid_rewrite (some {l = l} a b c d) = more (level_value l a) (go d)
  where
    go : {es : List Entry} → All Small es → All ValidUpdate (map inserted es)
    go none = none
    go (more h hs) = more h (go hs)

-- it begins with its reset, and of a node that was touched there is something to write
pub reset_first : {v : View} → Fair v → (us : List Update) → us ≡ rewrite v → 0 < length us → (l : ℕ) × (vs : List Update) × (us ≡ Reset l ∷ vs)
reset_first nothing us e h = absurd (omega (arith, ap length e))
reset_first (released a) us e h = (255, [], e)
reset_first (some {l = l} {es = es} a b c d) us e h = (l, map inserted es, e)

pub rewrite_none : {v : View} → Fair v → rewrite v ≡ [] → v ≡ untouched
rewrite_none nothing e = refl
rewrite_none (released a) e = cons_some (Reset 255) [] e
rewrite_none (some {l = l} {es = es} a b c d) e = cons_some (Reset l) (map inserted es) e
