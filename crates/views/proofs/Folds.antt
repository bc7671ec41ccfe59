-- Steps 4 and 5 when pages are added or taken away. Assumes nothing.
use mathlib.Core.Path.{◌≡◌, refl, sym, ap, ◌∙◌}
use mathlib.Core.Logic.{◌⊎◌, inl, inr, ⊎_elim}
use mathlib.Core.Bool.{Bool, true, false, not, or-true}
use mathlib.Core.List.{List, [], ◌∷◌, ◌++◌, map, foldl, foldl-append}
use Prim.Native.Nat.{ℕ, ◌^◌, ◌<◌}
use lib.Dec.{eqb}
use lib.ListN.{length, drop}
use borrow.Author.Tests.{eqb-true}
use Rattle.lists.specs.Lists.{filter, all, any, All, none, more, flat}
use Rattle.lists.proofs.Tests.{cases, clash}
use Rattle.lists.proofs.Alls.{All-map}
use Rattle.lists.proofs.Filters.{filter_append, filter_all, filter_none}
use Rattle.lists.proofs.Flats.{flat_append}
use Rattle.chip.specs.Geometry.{Geometry}
use Rattle.pages.specs.declared.unit.Update.{Update}
use Rattle.pages.specs.declared.unit.Update.TheVariants.{Insert, Delete, Reset}
use Rattle.std.proofs.Common.{Option, Some, None}
use Rattle.pages.specs.declared.header.Head.{Head}
use Rattle.pages.specs.declared.unit.Unit.{Unit}
use Rattle.pages.specs.Units.{decodes, encode, Valid}
use Rattle.pages.specs.Data.{head_of, data_of}
use Rattle.pages.specs.Steps.{Live}
use Rattle.pages.proofs.HeaderLaws.{laid_head, data_units}
use Rattle.views.specs.Nodes.{View, untouched, apply}
use Rattle.views.specs.Table.{Event, event_at, events_of, events, is_good, is_sound, Node, joins, listed, updated, turn_unit, turn, fresh, node_of}
use Rattle.views.proofs.Entries.{LevelView, RisingView, FewView, apply_level, apply_rising, apply_few}

-- ---- an event knows its page
mapped_at : (p : ℕ) (ds : List (Option Unit)) → All (λ (e : Event). e.place ≡ p) (map (event_at p) ds)
mapped_at p [] = none
mapped_at p (d ∷ ds) = more refl (mapped_at p ds)

pub events_at : (limit : ℕ) (x : Live) → All (λ (e : Event). e.place ≡ x.place) (events_of limit x)
unfolding events_of
events_at limit x = mapped_at x.place (decodes limit (head_of x.bytes).units (drop 8 x.bytes))

pub events_append : (limit : ℕ) (xs ys : List Live) → events limit (xs ++ ys) ≡ events limit xs ++ events limit ys
events_append limit xs ys = flat_append (events_of limit) xs ys

-- the events of the pages left are the events left
pub events_filter : (limit : ℕ) (hit : ℕ → Bool) (xs : List Live)
    → events limit (filter (λ (x : Live). not (hit x.place)) xs) ≡ filter (λ (e : Event). not (hit e.place)) (events limit xs)
events_filter limit hit [] = refl
events_filter limit hit (x ∷ xs) =
    let k : Event → Bool = λ (e : Event). not (hit e.place) in
    let r = events_filter limit hit xs in
    let a = filter_append k (events_of limit x) (events limit xs) in
    cases (hit x.place)
    (λ t. rw (t, r, a, filter_none k (All-map (λ e h. ap (λ (p : ℕ). not (hit p)) h ∙ rw t) (events_at limit x))))
    (λ t. rw (t, r, a, filter_all k (All-map (λ e h. ap (λ (p : ℕ). not (hit p)) h ∙ rw t) (events_at limit x))))

-- ---- events are sound where what is decoded is units
pub sound_events : (p : ℕ) (ds : List (Option Unit)) → all is_sound (map (event_at p) ds) ≡ all is_good ds
sound_events p [] = refl
sound_events p (d ∷ ds) = rw (sound_events p ds)

-- ---- the units of a page that is laid out with them
pub events_laid : (g : Geometry) (limit p c i n : ℕ) (us : List Unit) → c < 2 ^ 32 → All (Valid limit) us
    → events_of limit (record { place = p; bytes = data_of g c i n us }) ≡ map (event_at p) (map Some us)
unfolding events_of
events_laid g limit p c i n us l h =
    ap (map (event_at p))
    (ap (λ (x : Head). decodes limit x.units (drop 8 (data_of g c i n us))) (laid_head g c i n (length us) (flat encode us) l)
    ∙ data_units g limit c i n us h)

pub good_sound : (p : ℕ) (us : List Unit) → all is_sound (map (event_at p) (map Some us)) ≡ true
good_sound p [] = refl
good_sound p (u ∷ us) = good_sound p us

-- ---- units added at the end
pub node_append : (n : ℕ) (es fs : List Event) → node_of n (es ++ fs) ≡ foldl (turn n) (node_of n es) fs
unfolding node_of
node_append n es fs = foldl-append (turn n) fresh es fs

-- ---- what every update keeps holds of every node
module _ (P : View → Type 0) (first : P untouched) (keeps : (w : View) (u : Update) → P w → P (apply w u)) where
  turn_keeps : (n p : ℕ) (d : Option Unit) (s : Node) → P s.now → P (turn_unit n p d s).now
  turn_keeps n p (Some u) s h = cases (eqb u.node n) (λ t. rw t (keeps s.now u.update h)) (λ t. rw t h)
  turn_keeps n p None s h = h

  fold_keeps : (n : ℕ) (es : List Event) (s : Node) → P s.now → P (foldl (turn n) s es).now
  fold_keeps n [] s h = h
  fold_keeps n (e ∷ es) s h = fold_keeps n es (turn n s e) (turn_keeps n e.place e.unit s h)

  node_keeps : (n : ℕ) (es : List Event) → P (node_of n es).now
  unfolding node_of
  node_keeps n es = fold_keeps n es fresh first

-- no level is 255, the entries rise, and are at most 16
pub node_level : (n : ℕ) (es : List Event) → LevelView (node_of n es).now
node_level = node_keeps LevelView tt apply_level

pub node_rising : (n : ℕ) (es : List Event) → RisingView (node_of n es).now
node_rising = node_keeps RisingView tt apply_rising

pub node_few : (n : ℕ) (es : List Event) → FewView (node_of n es).now
node_few = node_keeps FewView tt apply_few

-- ---- pages that no list names
module _ (hit : ℕ → Bool) where
  joins_hit : (p : ℕ) (ps : List ℕ) → hit p ≡ true → any hit (joins p ps) ≡ true
  joins_hit p [] h = rw h
  joins_hit p (q ∷ qs) h = cases (eqb p q) (λ t. let k : hit q ≡ true = ap hit (sym (eqb-true p q t)) ∙ h in rw (t, k)) (λ t. rw (t, h))

  joins_keeps : (p : ℕ) (ps : List ℕ) → any hit ps ≡ true → any hit (joins p ps) ≡ true
  joins_keeps p [] h = clash h refl
  joins_keeps p (q ∷ qs) h = cases (eqb p q) (λ t. rw (t, h)) (λ t. rw (t, h) (or-true (hit p)))

  -- the page of an update is in the list after it
  pub listed_hit : (u : Update) (p : ℕ) (ps : List ℕ) → hit p ≡ true → any hit (listed u p ps) ≡ true
  listed_hit (Insert k v) p ps h = joins_hit p ps h
  listed_hit (Delete k) p ps h = joins_hit p ps h
  listed_hit (Reset l) p ps h = rw h

  -- the same, or the list still names what is taken away
  abbrev Near : Node → Node → Type 0
  Near s r = (s ≡ r) ⊎ (any hit s.pages ≡ true)

  updated_near : (u : Update) (p : ℕ) (s r : Node) → Near s r → Near (updated p u s) (updated p u r)
  updated_near u p s r (inl e) = inl (ap (updated p u) e)
  updated_near (Insert k v) p s r (inr h) = inr (joins_keeps p s.pages h)
  updated_near (Delete k) p s r (inr h) = inr (joins_keeps p s.pages h)
  updated_near (Reset l) p s r (inr h) = inl refl

  turn_near : (n p : ℕ) (d : Option Unit) (s r : Node) → Near s r → Near (turn_unit n p d s) (turn_unit n p d r)
  turn_near n p (Some u) s r h = cases (eqb u.node n) (λ t. rw t (updated_near u.update p s r h)) (λ t. rw t h)
  turn_near n p None s r h = h

  turn_hit : (n p : ℕ) (d : Option Unit) (s r : Node) → hit p ≡ true → Near s r → Near (turn_unit n p d s) r
  turn_hit n p (Some u) s r q h = cases (eqb u.node n) (λ t. rw t (inr (listed_hit u.update p s.pages q))) (λ t. rw t h)
  turn_hit n p None s r q h = h

  fold_near : (n : ℕ) (es : List Event) (s r : Node) → Near s r
      → Near (foldl (turn n) s es) (foldl (turn n) r (filter (λ (e : Event). not (hit e.place)) es))
  fold_near n [] s r h = h
  fold_near n (e ∷ es) s r h =
      cases (hit e.place)
      (λ q. rw q (fold_near n es (turn n s e) r (turn_hit n e.place e.unit s r q h)))
      (λ q. rw q (fold_near n es (turn n s e) (turn n r e) (turn_near n e.place e.unit s r h)))

  -- a node whose list names no page that is taken away keeps its view and its list
  pub node_kept : (limit n : ℕ) (xs : List Live) → any hit (node_of n (events limit xs)).pages ≡ false
      → node_of n (events limit (filter (λ (x : Live). not (hit x.place)) xs)) ≡ node_of n (events limit xs)
  unfolding node_of
  node_kept limit n xs h =
      let es : List Event = events limit xs in
      rw (events_filter limit hit xs)
      (sym
      (⊎_elim {C = foldl (turn n) fresh es ≡ foldl (turn n) fresh (filter (λ (e : Event). not (hit e.place)) es)}
      (λ e. e) (λ k. clash k h) (fold_near n es fresh fresh (inl refl))))
