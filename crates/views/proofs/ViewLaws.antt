-- A node's view is rebuilt from the pages of its list alone, the oldest first. Assumes nothing.
use mathlib.Core.Path.{◌≡◌, refl, sym, ap, ◌∙◌}
use mathlib.Core.Bool.{Bool, true, false, cond, ◌&&◌, not}
use mathlib.Core.List.{List, [], ◌∷◌, map, foldl, foldl-append, reverse, reverse_aux, reverse-cons, append-nil}
use Prim.Native.Nat.{ℕ, zero, suc, ◌+◌, ◌<◌, ◌≤◌}
use native.Mathlib.Omega.{arith}
use lib.Dec.{leb, eqb}
use lib.ListN.{take, drop, get_or}
use borrow.Author.Tests.{le-leb, ne_eqb, not-false}
use Rattle.lists.specs.Lists.{filter, all, any, All, none, more, insert, sort}
use Rattle.lists.proofs.Tests.{cases, clash, and_left, and_right, and_intro}
use Rattle.lists.proofs.Alls.{All-head, All-tail, All-map, All-zip, All-filter, all_All, All-all, any_false}
use Rattle.lists.proofs.Filters.{filter_all}
use Rattle.lists.proofs.Flats.{all_append}
use Rattle.lists.proofs.Sorts.{All-insert, All-sort, sort_All}
use Rattle.chip.specs.Geometry.{Geometry}
use Rattle.chip.specs.Page.{Page, is_live}
use Rattle.pages.specs.declared.unit.Update.{Update}
use Rattle.pages.specs.declared.unit.Update.TheVariants.{Insert, Delete, Reset}
use Rattle.std.proofs.Common.{Option, Some, None}
use Rattle.pages.specs.declared.unit.Unit as U
use Rattle.pages.specs.Units.{decodes}
use Rattle.pages.specs.Data.{head_of, obeys}
use Rattle.pages.specs.Steps.{Live, live, live_from, before, ordered, refused, stand, without, split_last, steps, last_from, full, of_commit, commit}
use Rattle.pages.proofs.Order.{chain}
use Rattle.pages.proofs.Pairs.{own, settle_ordered_lem, ordered_is, steps_ordered}
use Rattle.pages.proofs.HeaderLaws.{obeys_is}
use Rattle.pages.proofs.LivePages.{places}
use Rattle.views.specs.Nodes.{View, untouched, apply}
use Rattle.views.specs.Table.{event_at, events_of, events, is_good, is_sound, Node, joins, updated, turn, fresh, node_of}
use Rattle.views.specs.Groups.{is_reset}
use Rattle.views.specs.Stored.{turn_view, view_after, stored_list, Stores, page_view, list_view}
use Rattle.views.proofs.Groups.{updated_all, updates_now, list_more, list_reset, well_is}
use Rattle.views.proofs.Rooms.{still_unlisted}
use Rattle.views.proofs.Meanings.{in_order, Kept, node_in, opened, kept_well}
use Rattle.views.proofs.Folds.{sound_events}

-- ---- the units of one page for one node
-- the updates of node n among what is decoded, in order
abbrev pub mine : ℕ → Option U.Unit → List Update → List Update
mine n (Some u) us = cond (eqb u.node n) (u.update ∷ us) us
mine n None us = us

-- the same of a whole run
abbrev pub updates_of : ℕ → List (Option U.Unit) → List Update
updates_of n [] = []
updates_of n (d ∷ ds) = mine n d (updates_of n ds)

module _ (n : ℕ) where
  -- a page's turn is that of its updates
  pub turned_is : (p : ℕ) (ds : List (Option U.Unit)) (s : Node) → foldl (turn n) s (map (event_at p) ds) ≡ updated_all p s (updates_of n ds)
  turned_is p [] s = refl
  turned_is p (None ∷ ds) s = turned_is p ds s
  turned_is p (Some u ∷ ds) s =
      cases (eqb u.node n)
      (λ t. ap (λ (b : Bool). foldl (turn n) (cond b (updated p u.update s) s) (map (event_at p) ds)) t
      ∙ turned_is p ds (updated p u.update s)
      ∙ ap (λ (b : Bool). updated_all p s (cond b (u.update ∷ updates_of n ds) (updates_of n ds))) (sym t))
      (λ t. ap (λ (b : Bool). foldl (turn n) (cond b (updated p u.update s) s) (map (event_at p) ds)) t
      ∙ turned_is p ds s
      ∙ ap (λ (b : Bool). updated_all p s (cond b (u.update ∷ updates_of n ds) (updates_of n ds))) (sym t))

  -- the view after a run is that after its updates
  pub view_is : (ds : List (Option U.Unit)) (w : View) → view_after n w ds ≡ foldl apply w (updates_of n ds)
  view_is [] w = refl
  view_is (None ∷ ds) w = view_is ds w
  view_is (Some u ∷ ds) w =
      cases (eqb u.node n)
      (λ t. ap (λ (b : Bool). foldl (turn_view n) (cond b (apply w u.update) w) ds) t
      ∙ view_is ds (apply w u.update)
      ∙ ap (λ (b : Bool). foldl apply w (cond b (u.update ∷ updates_of n ds) (updates_of n ds))) (sym t))
      (λ t. ap (λ (b : Bool). foldl (turn_view n) (cond b (apply w u.update) w) ds) t
      ∙ view_is ds w
      ∙ ap (λ (b : Bool). foldl apply w (cond b (u.update ∷ updates_of n ds) (updates_of n ds))) (sym t))

-- after a reset the view before does not count
pub reset_same : (us : List Update) (w v : View) → any is_reset us ≡ true → foldl apply w us ≡ foldl apply v us
reset_same [] w v h = clash h refl
reset_same (Insert k x ∷ us) w v h = reset_same us (apply w (Insert k x)) (apply v (Insert k x)) h
reset_same (Delete k ∷ us) w v h = reset_same us (apply w (Delete k)) (apply v (Delete k)) h
reset_same (Reset l ∷ us) w v h = refl

-- a page that a list does not name is added in front
joins_new : (p : ℕ) (ps : List ℕ) → any (eqb p) ps ≡ false → joins p ps ≡ p ∷ ps
joins_new p [] h = refl
joins_new p (q ∷ qs) h = rw (All-head (any_false (eqb p) (q ∷ qs) h))

-- ---- the view from a list of pages, the newest first; f gives what stands on the page at a place
module _ (n : ℕ) (f : ℕ → List (Option U.Unit)) where
  -- the oldest page first
  abbrev pub again : List ℕ → View
  again ps = foldl (λ (w : View) (p : ℕ). view_after n w (f p)) untouched (reverse ps)

  -- a newer page comes last
  again_more : (p : ℕ) (ps : List ℕ) → again (p ∷ ps) ≡ view_after n (again ps) (f p)
  again_more p ps =
      ap (foldl (λ (w : View) (q : ℕ). view_after n w (f q)) untouched) (reverse-cons p ps)
      ∙ foldl-append (λ (w : View) (q : ℕ). view_after n w (f q)) untouched (reverse ps) (p ∷ [])

  -- a node's view is what the pages of its list give
  abbrev pub Rebuilt : Node → Type 0
  Rebuilt s = s.now ≡ again s.pages

  -- updates on a page that the list does not name yet, which are all that the page has for the node
  updates_rebuilt : (p : ℕ) (s : Node) (us : List Update) → updates_of n (f p) ≡ us → Rebuilt s → any (eqb p) s.pages ≡ false
      → Rebuilt (updated_all p s us)
  updates_rebuilt p s [] e h k = h
  updates_rebuilt p s (u ∷ us) e h k =
      let to : (w : View) → foldl apply w (u ∷ us) ≡ view_after n w (f p) = λ w. sym (view_is n (f p) w ∙ ap (foldl apply w) e) in
      cases (any is_reset (u ∷ us))
      (λ t. updates_now p s (u ∷ us) ∙ reset_same (u ∷ us) s.now untouched t ∙ to untouched ∙ ap again (sym (list_reset p s (u ∷ us) t)))
      (λ t. updates_now p s (u ∷ us) ∙ to s.now ∙ ap (λ (w : View). view_after n w (f p)) h ∙ sym (again_more p s.pages)
      ∙ ap again (sym (list_more p s u us (any_false is_reset (u ∷ us) t) ∙ joins_new p s.pages k)))

  -- the units of such a page
  pub page_rebuilt : (p : ℕ) (s : Node) → Rebuilt s → any (eqb p) s.pages ≡ false → Rebuilt (foldl (turn n) s (map (event_at p) (f p)))
  page_rebuilt p s h k = rw (turned_is n p (f p) s) (updates_rebuilt p s (updates_of n (f p)) refl h k)

-- ---- the places of the pages differ from each other
-- each place is another than those of all later pages
abbrev pub Apart : List Live → Type 0
Apart [] = Unit {0}
Apart (x ∷ xs) = All (λ (y : Live). y.place ≡ x.place → ⊥) xs × Apart xs

-- so are those of some of the pages
pub apart_filter : (k : Live → Bool) (xs : List Live) → Apart xs → Apart (filter k xs)
apart_filter k [] a = tt
apart_filter k (x ∷ xs) a = cases (k x) (λ t. rw t (All-filter k a.0, apart_filter k xs a.1)) (λ t. rw t (apart_filter k xs a.1))

-- and with one page more, put anywhere
apart_insert : (b : Live → Live → Bool) (x : Live) (xs : List Live) → All (λ (y : Live). y.place ≡ x.place → ⊥) xs → Apart xs → Apart (insert b x xs)
apart_insert b x [] h a = (none, tt)
apart_insert b x (y ∷ ys) h a =
    cases (b y x)
    (λ t. rw t (All-insert b x (λ e. All-head h (sym e)) a.0, apart_insert b x ys (All-tail h) a.1))
    (λ t. rw t (h, a))

-- and in another order
pub apart_sort : (b : Live → Live → Bool) (xs : List Live) → Apart xs → Apart (sort b xs)
apart_sort b [] a = tt
apart_sort b (x ∷ xs) a = apart_insert b x (sort b xs) (All-sort b a.0) (apart_sort b xs a.1)

-- and those of the live pages of an image
pub apart_live : (g : Geometry) (i : ℕ) (ps : List Page) → Apart (live_from g i ps)
apart_live g i [] = tt
apart_live g i (x ∷ xs) =
    cases (is_live g x)
    (λ t. rw t (All-map (λ y h e. omega arith) (places g (suc i) xs), apart_live g (suc i) xs))
    (λ t. rw t (apart_live g (suc i) xs))

-- ---- the view of every node from the pages of its list
module _ (limit : ℕ) (D : ℕ → List ℕ) where
  -- what is decoded of the page at a place
  abbrev pub units_at : ℕ → List (Option U.Unit)
  units_at p = decodes limit (head_of (D p)).units (drop 8 (D p))

  -- the events of a page are what is decoded at its place
  events_units : (x : Live) → x.bytes ≡ D x.place → events_of limit x ≡ map (event_at x.place) (units_at x.place)
  unfolding events_of
  events_units x e = rw e

  module _ (n : ℕ) where
    -- one page more
    turn_rebuilt : (x : Live) (s : Node) → x.bytes ≡ D x.place → Rebuilt n units_at s → any (eqb x.place) s.pages ≡ false
        → Rebuilt n units_at (foldl (turn n) s (events_of limit x))
    turn_rebuilt x s e h k = rw (events_units x e) (page_rebuilt n units_at x.place s h k)

    -- a page of another place is not named by what x adds
    still : (x y : Live) (s : Node) → (y.place ≡ x.place → ⊥) → any (eqb y.place) s.pages ≡ false
        → any (eqb y.place) (foldl (turn n) s (events_of limit x)).pages ≡ false
    still x y s d h =
        let r = still_unlisted (eqb y.place) limit n s (x ∷ []) (more (ne_eqb y.place x.place d) none) h in
        rw append-nil at r

    -- all pages
    fold_rebuilt : (xs : List Live) (s : Node) → Apart xs → All (λ (x : Live). x.bytes ≡ D x.place) xs
        → All (λ (x : Live). any (eqb x.place) s.pages ≡ false) xs → Rebuilt n units_at s → Rebuilt n units_at (foldl (turn n) s (events limit xs))
    fold_rebuilt [] s a e k h = h
    fold_rebuilt (x ∷ xs) s a e k h =
        rw (foldl-append (turn n) s (events_of limit x) (events limit xs))
        (fold_rebuilt xs (foldl (turn n) s (events_of limit x)) a.1 (All-tail e)
        (All-zip (λ y d m. still x y s d m) a.0 (All-tail k)) (turn_rebuilt x s (All-head e) h (All-head k)))

    -- a node's view is that of the pages of its list alone, the oldest first
    pub view_pages : (xs : List Live) → Apart xs → All (λ (x : Live). x.bytes ≡ D x.place) xs
        → (node_of n (events limit xs)).now
        ≡ foldl (λ (w : View) (p : ℕ). view_after n w (decodes limit (head_of (D p)).units (drop 8 (D p)))) untouched (reverse (node_of n (events limit xs)).pages)
    unfolding node_of
    view_pages xs a e = fold_rebuilt xs fresh a e (All-map (λ x h. refl) e) refl

-- ---- the standing pages of an image
-- they are some of the live pages in order, all of which obey their rules
pub record Chosen (g : Geometry) (s xs : List Live) : Type 0 where
  pub owns : all (own g) s ≡ true
  pub pick : Live → Bool
  pub is : xs ≡ filter pick s

-- what stands without the void pages is what is left
without_is : (w r v xs : List Live) → without w r ≡ stand v xs → xs ≡ r
without_is w [] v xs e = let u : ◌≡◌ {A = ℕ} 0 1 = cc in absurd (omega arith)
without_is w (x ∷ r) v xs e =
    cases (full (last_from x r) (x ∷ r))
    (λ t. let k : stand w (x ∷ r) ≡ stand v xs = (rw t at e) in cc)
    (λ t. let k : refused 8 ≡ stand v xs = (rw t at e) in let u : ◌≡◌ {A = ℕ} 0 1 = cc in absurd (omega arith))

-- by whether the greatest commit is whole
split_chosen : (g : Geometry) (s v xs : List Live) → all (own g) s ≡ true → split_last s ≡ stand v xs → Chosen g s xs
split_chosen g [] v xs h e = let u : ◌≡◌ {A = ℕ} 0 1 = cc in absurd (omega arith)
split_chosen g (x ∷ r) v xs h e =
    let z : Live = last_from x r in
    let old : Live → Bool = λ (y : Live). not (of_commit (commit z) y) in
    cases (full z (x ∷ r))
    (λ t. let k : stand [] (x ∷ r) ≡ stand v xs = (rw t at e) in
    let q : xs ≡ x ∷ r = cc in
    record { owns = h; pick = λ y. true; is = q ∙ sym (filter_all (λ (y : Live). true) (All-map (λ y m. refl) (all_All (own g) (x ∷ r) h))) })
    (λ t. let k : without (filter (of_commit (commit z)) (x ∷ r)) (filter old (x ∷ r)) ≡ stand v xs = (rw t at e) in
    record { owns = h; pick = old; is = without_is (filter (of_commit (commit z)) (x ∷ r)) (filter old (x ∷ r)) v xs k })

-- by whether the pages obey their rules
chosen : (g : Geometry) (s v xs : List Live) → settle_ordered_lem g s ≡ stand v xs → Chosen g s xs
chosen g s v xs e =
    let k : cond (all (own g) s && chain s) (split_last s) (refused 8) ≡ stand v xs = sym (ordered_is g s) ∙ e in
    cases (all (own g) s && chain s)
    (λ t. let l : split_last s ≡ stand v xs = (rw t at k) in split_chosen g s v xs (and_left (all (own g) s) (chain s) t) l)
    (λ t. let l : refused 8 ≡ stand v xs = (rw t at k) in let u : ◌≡◌ {A = ℕ} 0 1 = cc in absurd (omega arith))

-- a live page has the data of the page at its place
here : (g : Geometry) (i j : ℕ) (x : Page) (xs : List Page) → i ≡ i + j → take g.area x ≡ take g.area (get_or (x ∷ xs) j [])
here g i zero x xs e = refl
here g i (suc j) x xs e = absurd (omega arith)

-- a later one
further : (g : Geometry) (i j : ℕ) (x : Page) (xs : List Page) (y : Live) → suc i ≤ y.place
    → ((k : ℕ) → y.place ≡ suc i + k → y.bytes ≡ take g.area (get_or xs k [])) → y.place ≡ i + j → y.bytes ≡ take g.area (get_or (x ∷ xs) j [])
further g i zero x xs y h f e = absurd (omega arith)
further g i (suc j) x xs y h f e = f j (omega arith)

pub live_bytes : (g : Geometry) (i : ℕ) (ps : List Page)
    → All (λ (x : Live). (j : ℕ) → x.place ≡ i + j → x.bytes ≡ take g.area (get_or ps j [])) (live_from g i ps)
live_bytes g i [] = none
live_bytes g i (x ∷ xs) =
    let r : All (λ (y : Live). (j : ℕ) → y.place ≡ i + j → y.bytes ≡ take g.area (get_or (x ∷ xs) j [])) (live_from g (suc i) xs) =
    All-zip (λ y h f j e. further g i j x xs y h f e) (places g (suc i) xs) (live_bytes g (suc i) xs) in
    cases (is_live g x) (λ t. rw t (more {x = live g i x} (λ j e. here g i j x xs e) r)) (λ t. rw t r)

module _ (g : Geometry) (ps : List Page) (v xs : List Live) (st : steps g ps ≡ stand v xs) where
  -- which of the live pages stand
  pick_of : Chosen g (ordered (live_from g 0 ps)) xs
  pick_of = chosen g (ordered (live_from g 0 ps)) v xs (sym (steps_ordered g ps) ∙ st)

  -- what holds of every live page holds of every standing page
  pub standing_all : (P : Live → Type 0) → All P (live_from g 0 ps) → All P xs
  standing_all P h = let c = pick_of in let k = c.pick in let e = c.is in rw e (All-filter k (All-sort before h))

  -- their places differ
  pub standing_apart : Apart xs
  standing_apart =
      let c = pick_of in
      let k = c.pick in
      let e = c.is in
      rw e (apart_filter k (ordered (live_from g 0 ps)) (apart_sort before (live_from g 0 ps) (apart_live g 0 ps)))

  -- they obey their rules
  pub standing_obeys : All (λ (x : Live). obeys g x.bytes ≡ true) xs
  standing_obeys = standing_all (λ x. obeys g x.bytes ≡ true) (sort_All before (live_from g 0 ps) (all_All (own g) (ordered (live_from g 0 ps)) pick_of.owns))

  -- each has the data of the page at its place
  pub standing_bytes : All (λ (x : Live). x.bytes ≡ take g.area (get_or ps x.place [])) xs
  standing_bytes = standing_all (λ x. x.bytes ≡ take g.area (get_or ps x.place [])) (All-map (λ x f. f x.place (omega arith)) (live_bytes g 0 ps))

-- ---- the view of a node as it is read from the image
-- what holds of all elements holds of them in reverse
All-reversed : {A : Type 0} {P : A → Type 0} (xs ys : List A) → All P xs → All P ys → All P (reverse_aux xs ys)
All-reversed [] ys h k = k
All-reversed (x ∷ xs) ys h k = All-reversed xs (x ∷ ys) (All-tail h) (more (All-head h) k)

-- two folds whose steps are the same at every element
foldl_same : {A B : Type 0} (f h : B → A → B) (b : B) {xs : List A} → All (λ (x : A). (c : B) → f c x ≡ h c x) xs → foldl f b xs ≡ foldl h b xs
foldl_same f h b none = refl
foldl_same f h b (more {x = x} {xs = xs} e es) = ap (λ (c : _). foldl f c xs) (e b) ∙ foldl_same f h (h b x) es

-- all events are sound: those of each page are
sound_each : (limit : ℕ) (xs : List Live) → all is_sound (events limit xs) ≡ true → All (λ (x : Live). all is_sound (events_of limit x) ≡ true) xs
sound_each limit [] e = none
sound_each limit (x ∷ xs) e =
    let k = sym (all_append is_sound (events_of limit x) (events limit xs)) ∙ e in
    more (and_left (all is_sound (events_of limit x)) (all is_sound (events limit xs)) k)
    (sound_each limit xs (and_right (all is_sound (events_of limit x)) (all is_sound (events limit xs)) k))

module _ (g : Geometry) (limit : ℕ) (ps : List Page) where
  -- the data at a place
  abbrev data_at : ℕ → List ℕ
  data_at p = take g.area (get_or ps p [])

  -- the page there has no more units than a page holds, and all of them are units
  abbrev is_fine : ℕ → Bool
  is_fine p = leb (head_of (data_at p)).units g.units && all is_good (units_at limit data_at p)

  -- a fine page is read as it is decoded
  fine_view : (n p : ℕ) (w : View) → is_fine p ≡ true → view_after n w (units_at limit data_at p) ≡ page_view g limit n w (get_or ps p [])
  unfolding page_view
  fine_view n p w h =
      let a = and_left (leb (head_of (data_at p)).units g.units) (all is_good (units_at limit data_at p)) h in
      let b = and_right (leb (head_of (data_at p)).units g.units) (all is_good (units_at limit data_at p)) h in
      rw (a, b)

  -- a page that obeys its rules, with sound events, is fine
  fine_page : (x : Live) → obeys g x.bytes ≡ true → x.bytes ≡ data_at x.place → all is_sound (events_of limit x) ≡ true → is_fine x.place ≡ true
  unfolding events_of
  fine_page x o e s =
      let few = (obeys_is g x.bytes o).few in
      let good = sym (sound_events x.place (decodes limit (head_of x.bytes).units (drop 8 x.bytes))) ∙ s in
      and_intro (leb (head_of (data_at x.place)).units g.units) (all is_good (units_at limit data_at x.place))
      (rw (← e) (le-leb (head_of x.bytes).units g.units few)) (rw (← e) good)

  module _ (v xs : List Live) (st : steps g ps ≡ stand v xs) (sound : all is_sound (events limit xs) ≡ true) (n : ℕ) where
    -- every standing page is fine
    fine_all : All (λ (x : Live). not (is_fine x.place) ≡ false) xs
    fine_all =
        All-zip {R = λ (x : Live). not (is_fine x.place) ≡ false} (λ x o f. ap not (f o)) (standing_obeys g ps v xs st)
        (All-zip {R = λ (x : Live). obeys g x.bytes ≡ true → is_fine x.place ≡ true} (λ x e s o. fine_page x o e s)
        (standing_bytes g ps v xs st) (sound_each limit xs sound))

    -- every page that the list names is fine
    fine_list : All (λ (p : ℕ). is_fine p ≡ true) (node_of n (events limit xs)).pages
    unfolding node_of
    fine_list =
        All-map (λ p h. not-false (is_fine p) h)
        (any_false (λ (p : ℕ). not (is_fine p)) (foldl (turn n) fresh (events limit xs)).pages
        (still_unlisted (λ (p : ℕ). not (is_fine p)) limit n fresh xs fine_all refl))

    -- a node's view is read from the pages of its list, the oldest first
    pub view_listed : (node_of n (events limit xs)).now ≡ list_view g limit ps n (reverse (node_of n (events limit xs)).pages)
    view_listed =
        view_pages limit data_at n xs (standing_apart g ps v xs st) (standing_bytes g ps v xs st)
        ∙ foldl_same (λ (w : View) (p : ℕ). view_after n w (units_at limit data_at p)) (λ (w : View) (p : ℕ). page_view g limit n w (get_or ps p [])) untouched
        (All-reversed (node_of n (events limit xs)).pages [] (All-map (λ p h w. fine_view n p w h) fine_list) none)

-- ---- an image that keeps its meaning, with no void page
module _ (g : Geometry) (limit : ℕ) (ps : List Page) (tb : List Node) (c : ℕ) (k : Kept g limit ps tb c) (n : ℕ) where
  -- the view of a node of the image
  pub view_kept : (node_in g limit ps n).now ≡ list_view g limit ps n (reverse (node_in g limit ps n).pages)
  unfolding node_in
  view_kept =
      let o = opened g limit ps tb c k in
      let e = o.order in
      view_listed g limit ps [] (in_order g ps) k.clean (rw e (All-all is_sound o.good.sounds)) n

  -- with the list as it is stored
  pub view_stored : (lens slots : List ℕ) → n < limit → Stores lens slots n (node_in g limit ps n).pages
      → list_view g limit ps n (stored_list lens slots n) ≡ (node_in g limit ps n).now
  view_stored lens slots l s =
      ap (list_view g limit ps n) (s.pages (well_is (node_in g limit ps n) (kept_well g limit ps tb c k n l)).1) ∙ sym view_kept
