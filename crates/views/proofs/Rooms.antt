-- Which blocks no list names after a commit: those that none named before and that got no page. Assumes nothing.
use mathlib.Core.Path.{◌≡◌, ap, ◌∙◌}
use mathlib.Core.Bool.{Bool, false}
use mathlib.Core.List.{List, [], ◌∷◌, foldl}
use Prim.Native.Nat.{ℕ, ◌<◌}
use lib.Dec.{eqb}
use Rattle.lists.specs.Lists.{any, All, none, more}
use Rattle.lists.proofs.Tests.{cases}
use Rattle.lists.proofs.Alls.{All-map}
use Rattle.lists.proofs.Flats.{All-flat}
use Rattle.chip.specs.Geometry.{Geometry}
use Rattle.chip.specs.Chip.{in_block}
use Rattle.pages.specs.declared.unit.Update.{Update}
use Rattle.pages.specs.declared.unit.Update.TheVariants.{Insert, Delete, Reset}
use Rattle.std.proofs.Common.{Option, Some, None}
use Rattle.pages.specs.declared.unit.Unit.{Unit}
use Rattle.pages.specs.Steps.{Live, commit}
use Rattle.views.specs.Table.{Event, events_of, events, joins, listed, Node, turn_unit, turn}
use Rattle.views.proofs.Folds.{events_at}

-- no list of a node names a page of block b
abbrev pub Unlisted : Geometry → ℕ → (ℕ → Node) → ℕ → Type 0
Unlisted g limit T b = (n : ℕ) → n < limit → any (in_block g b) (T n).pages ≡ false

-- no page of commit c stands in block b
abbrev pub Outside : Geometry → ℕ → List Live → ℕ → Type 0
Outside g c xs b = All (λ (x : Live). commit x ≡ c → in_block g b x.place ≡ false) xs

-- ---- pages that are not hit, in lists that name no page that is
module _ (hit : ℕ → Bool) where
  joins_miss : (p : ℕ) (ps : List ℕ) → hit p ≡ false → any hit ps ≡ false → any hit (joins p ps) ≡ false
  joins_miss p [] h k = rw h
  joins_miss p (q ∷ qs) h k = cases (eqb p q) (λ t. rw t k) (λ t. rw (t, h) k)

  listed_miss : (u : Update) (p : ℕ) (ps : List ℕ) → hit p ≡ false → any hit ps ≡ false → any hit (listed u p ps) ≡ false
  listed_miss (Insert k v) p ps h m = joins_miss p ps h m
  listed_miss (Delete k) p ps h m = joins_miss p ps h m
  listed_miss (Reset l) p ps h m = rw h

  turn_miss : (n p : ℕ) (d : Option Unit) (s : Node) → hit p ≡ false → any hit s.pages ≡ false → any hit (turn_unit n p d s).pages ≡ false
  turn_miss n p (Some u) s h m = cases (eqb u.node n) (λ t. rw t (listed_miss u.update p s.pages h m)) (λ t. rw t m)
  turn_miss n p None s h m = m

  fold_miss : (n : ℕ) {es : List Event} (s : Node) → All (λ (e : Event). hit e.place ≡ false) es → any hit s.pages ≡ false
      → any hit (foldl (turn n) s es).pages ≡ false
  fold_miss n s none m = m
  fold_miss n s (more {x = e} h hs) m = fold_miss n (turn n s e) hs (turn_miss n e.place e.unit s h m)

  places_miss : (limit : ℕ) {news : List Live} → All (λ (x : Live). hit x.place ≡ false) news
      → All (λ (e : Event). hit e.place ≡ false) (events limit news)
  places_miss limit h = All-flat (events_of limit) (All-map (λ x m. All-map (λ e k. ap hit k ∙ m) (events_at limit x)) h)

  -- a block that no list names and that gets no page stays so
  pub still_unlisted : (limit n : ℕ) (s : Node) (news : List Live) → All (λ (x : Live). hit x.place ≡ false) news
      → any hit s.pages ≡ false → any hit (foldl (turn n) s (events limit news)).pages ≡ false
  still_unlisted limit n s news h m = fold_miss n s (places_miss limit h) m
