-- What the groups of a commit make of the nodes: views after the buffer, and lists of pages. Assumes nothing.
use mathlib.Core.Path.{◌≡◌, refl, sym, ap, ◌∙◌, subst}
use mathlib.Core.Bool.{true, false}
use mathlib.Core.List.{List, [], ◌∷◌, ◌++◌, map, foldl, foldl-append}
use Prim.Native.Nat.{ℕ, suc, ◌≤◌, ◌<◌}
use native.Mathlib.Omega.{arith}
use lib.Dec.{leb, eqb}
use lib.ListN.{length}
use borrow.Author.Tests.{le-leb, leb-true, eq-eqb, ne_eqb, eqb-true, eqb-false}
use Rattle.lists.specs.Lists.{all, any, All, none, more, tab}
use Rattle.lists.proofs.Tests.{cases, clash, and_left, and_right, and_intro}
use Rattle.lists.proofs.Alls.{All-head, All-tail, All-map}
use Rattle.lists.proofs.Flats.{all_tab}
use Rattle.pages.specs.declared.unit.Update.{Update}
use Rattle.pages.specs.declared.unit.Update.TheVariants.{Insert, Delete, Reset}
use Rattle.pages.specs.declared.unit.Unit as U
use Rattle.views.specs.Nodes.{Entry, Rising, View, freed, view, apply, anew}
use Rattle.views.specs.Table.{Event, Node, joins, listed, updated, turn, node_of, is_whole, is_well}
use Rattle.views.specs.Groups.{own, present, Group, event_in, events_in, is_reset, Without, Distinct}
use Rattle.views.proofs.Entries.{LevelView, RisingView, FewView, updates_level, updates_rising, updates_few, rebuilt}
use Rattle.views.proofs.Folds.{node_append, node_level, node_rising, node_few}

-- ---- the buffer, unit after unit
pub own_append : (n : ℕ) (us vs : List U.Unit) → own n (us ++ vs) ≡ own n us ++ own n vs
own_append n [] vs = refl
own_append n (u ∷ us) vs = cases (eqb u.node n) (λ t. rw (t, own_append n us vs)) (λ t. rw (t, own_append n us vs))

pub present_append : (n : ℕ) (w : View) (us vs : List U.Unit) → present n w (us ++ vs) ≡ present n (present n w us) vs
present_append n w us vs = ap (foldl apply w) (own_append n us vs) ∙ foldl-append apply w (own n us) (own n vs)

-- ---- a group's turn on its node, and on another
-- a node after updates that all stand on page p
abbrev pub updated_all : ℕ → Node → List Update → Node
updated_all p s [] = s
updated_all p s (u ∷ us) = updated_all p (updated p u s) us

pub group_node : (q : Group) (us : List Update) (s : Node) → foldl (turn q.node) s (map (event_in q) us) ≡ updated_all q.place s us
group_node q [] s = refl
group_node q (u ∷ us) s =
    let e : turn q.node s (event_in q u) ≡ updated q.place u s = rw (eq-eqb q.node q.node refl) in
    ap (λ (r : Node). foldl (turn q.node) r (map (event_in q) us)) e ∙ group_node q us (updated q.place u s)

pub group_other : (n : ℕ) (q : Group) → (q.node ≡ n → ⊥) → (us : List Update) (s : Node) → foldl (turn n) s (map (event_in q) us) ≡ s
group_other n q d [] s = refl
group_other n q d (u ∷ us) s =
    let e : turn n s (event_in q u) ≡ s = rw (ne_eqb q.node n d) in
    ap (λ (r : Node). foldl (turn n) r (map (event_in q) us)) e ∙ group_other n q d us s

pub updates_now : (p : ℕ) (s : Node) (us : List Update) → (updated_all p s us).now ≡ foldl apply s.now us
updates_now p s [] = refl
updates_now p s (u ∷ us) = updates_now p (updated p u s) us

-- ---- all groups, each node in one of them
pub groups_other : (n : ℕ) (qs : List Group) (s : Node) → Without n qs → foldl (turn n) s (events_in qs) ≡ s
groups_other n [] s h = refl
groups_other n (q ∷ qs) s h =
    foldl-append (turn n) s (map (event_in q) q.updates) (events_in qs)
    ∙ ap (λ (r : Node). foldl (turn n) r (events_in qs)) (group_other n q (All-head h) q.updates s) ∙ groups_other n qs s (All-tail h)

-- what holds of node n after all groups: by its own group, or as before where it has none
pub by_groups : (R : Node → Type 0) (n : ℕ) (qs : List Group) (s : Node) → Distinct qs
    → All (λ (q : Group). q.node ≡ n → R (updated_all q.place s q.updates)) qs → (Without n qs → R s) → R (foldl (turn n) s (events_in qs))
by_groups R n [] s d h k = k none
by_groups R n (q ∷ qs) s d h k =
    rw (foldl-append (turn n) s (map (event_in q) q.updates) (events_in qs))
    (cases (eqb q.node n)
    (λ t. let e = eqb-true q.node n t in
    let o : foldl (turn n) s (map (event_in q) q.updates) ≡ updated_all q.place s q.updates = rw (← e) (group_node q q.updates s) in
    rw (o, groups_other n qs (updated_all q.place s q.updates) (rw e at d.0)) (All-head h e))
    (λ t. let e = eqb-false q.node n t in
    rw (group_other n q e q.updates s) (by_groups R n qs s d.1 (All-tail h) (λ w. k (more e w)))))

-- ---- views: after the groups, the state after the buffer
pub present_groups : (n : ℕ) (qs : List Group) (s : Node) (us : List U.Unit) → Distinct qs
    → All (λ (q : Group). q.node ≡ n → foldl apply s.now q.updates ≡ present n s.now us) qs
    → (Without n qs → own n us ≡ [])
    → (foldl (turn n) s (events_in qs)).now ≡ present n s.now us
present_groups n qs s us d h k =
    by_groups (λ (r : Node). r.now ≡ present n s.now us) n qs s d
    (All-map (λ q f e. updates_now q.place s q.updates ∙ f e) h)
    (λ w. rw (k w))

-- a group's forms: the node's own buffered units, or a reset and the entries after the buffer, or the reset that frees it
pub own_group : (n : ℕ) (w : View) (us : List U.Unit) (vs : List Update) → vs ≡ own n us → foldl apply w vs ≡ present n w us
own_group n w us vs e = ap (foldl apply w) e

pub anew_group : (n : ℕ) (w : View) (us : List U.Unit) (l : ℕ) (es : List Entry) → LevelView w → RisingView w → FewView w → present n w us ≡ view l es
    → foldl apply w (anew l es) ≡ present n w us
anew_group n w us l es d r f e =
    let c : l ≡ 255 → ⊥ = subst LevelView e (updates_level w (own n us) d) in
    let a : Rising es = subst RisingView e (updates_rising w (own n us) r) in
    let b : length es ≤ 16 = subst FewView e (updates_few w (own n us) f) in
    rebuilt w l es c a b ∙ sym e

-- the form of a group for a node whose view was w before the buffer us
pub data Form (w : View) (us : List U.Unit) (q : Group) : Type 0 where
  buffered : q.updates ≡ own q.node us → Form w us q
  rewritten : (l : ℕ) (es : List Entry) → present q.node w us ≡ view l es → q.updates ≡ anew l es → Form w us q
  emptied : present q.node w us ≡ freed → q.updates ≡ anew 255 [] → Form w us q

form_now : (n : ℕ) (w : View) (us : List U.Unit) (q : Group) → LevelView w → RisingView w → FewView w → Form w us q → q.node ≡ n
    → foldl apply w q.updates ≡ present n w us
form_now n w us q d r f (buffered e) i = own_group n w us q.updates (e ∙ ap (λ (m : ℕ). own m us) i)
form_now n w us q d r f (rewritten l es e o) i =
    ap (foldl apply w) o ∙ anew_group n w us l es d r f (ap (λ (m : ℕ). present m w us) (sym i) ∙ e)
form_now n w us q d r f (emptied e o) i = ap (foldl apply w) o ∙ sym e ∙ ap (λ (m : ℕ). present m w us) i

-- the units of a further commit at the end, each node with buffered units in one group: each view is the one after the buffer
pub commit_now : (n : ℕ) (es : List Event) (qs : List Group) (us : List U.Unit) → Distinct qs
    → All (λ (q : Group). q.node ≡ n → Form (node_of n es).now us q) qs → (Without n qs → own n us ≡ [])
    → (node_of n (es ++ events_in qs)).now ≡ present n (node_of n es).now us
commit_now n es qs us d h k =
    rw (node_append n es (events_in qs))
    (present_groups n qs (node_of n es) us d
    (All-map (λ q f i. form_now n (node_of n es).now us q (node_level n es) (node_rising n es) (node_few n es) (f i) i) h) k)

-- ---- lists of pages
joins_again : (p : ℕ) (ps : List ℕ) → joins p (joins p ps) ≡ joins p ps
joins_again p [] = rw (eq-eqb p p refl)
joins_again p (q ∷ qs) = cases (eqb p q) (λ t. rw (t, t)) (λ t. rw (t, eq-eqb p p refl))

listed_more : (u : Update) (p : ℕ) (ps : List ℕ) → is_reset u ≡ false → listed u p ps ≡ joins p ps
listed_more (Insert k v) p ps h = refl
listed_more (Delete k) p ps h = refl
listed_more (Reset l) p ps h = clash refl h

-- no reset: the page joins, unless it is the newest already
pub list_more : (p : ℕ) (s : Node) (u : Update) (us : List Update) → All (λ (v : Update). is_reset v ≡ false) (u ∷ us)
    → (updated_all p s (u ∷ us)).pages ≡ joins p s.pages
list_more p s u [] h = listed_more u p s.pages (All-head h)
list_more p s u (v ∷ us) h =
    list_more p (updated p u s) v us (All-tail h) ∙ ap (joins p) (listed_more u p s.pages (All-head h)) ∙ joins_again p s.pages

one_page : (p : ℕ) (s : Node) (us : List Update) → s.pages ≡ p ∷ [] → (updated_all p s us).pages ≡ p ∷ []
one_page p s [] h = h
one_page p s (u ∷ us) h = one_page p (updated p u s) us (rw h (stays u))
  where
    stays : (u : Update) → listed u p (p ∷ []) ≡ p ∷ []
    stays (Insert k v) = rw (eq-eqb p p refl)
    stays (Delete k) = rw (eq-eqb p p refl)
    stays (Reset l) = refl

-- a reset first, and a reset anywhere in the group: the page alone
pub list_anew : (p : ℕ) (s : Node) (l : ℕ) (us : List Update) → (updated_all p s (Reset l ∷ us)).pages ≡ p ∷ []
list_anew p s l us = one_page p (updated p (Reset l) s) us refl

pub list_reset : (p : ℕ) (s : Node) (us : List Update) → any is_reset us ≡ true → (updated_all p s us).pages ≡ p ∷ []
list_reset p s [] h = clash h refl
list_reset p s (Insert k v ∷ us) h = list_reset p (updated p (Insert k v) s) us h
list_reset p s (Delete k ∷ us) h = list_reset p (updated p (Delete k) s) us h
list_reset p s (Reset l ∷ us) h = list_anew p s l us

-- ---- no view broken, no list above 4 pages
pub joins_most : (p : ℕ) (ps : List ℕ) → length (joins p ps) ≤ suc (length ps)
joins_most p [] = omega arith
joins_most p (q ∷ qs) = cases (eqb p q) (λ t. rw t (omega arith)) (λ t. rw t (omega arith))

-- a group without a reset joins a list of at most 3 pages; with a reset it leaves one page
pub data Short (s : Node) (q : Group) : Type 0 where
  joined : (u : Update) (us : List Update) → q.updates ≡ u ∷ us → All (λ (v : Update). is_reset v ≡ false) (u ∷ us)
      → length s.pages ≤ 3 → Short s q
  alone : any is_reset q.updates ≡ true → Short s q

short_group : (s : Node) (q : Group) → Short s q → length (updated_all q.place s q.updates).pages ≤ 4
short_group s q (joined u us e h l) = rw (e, list_more q.place s u us h) (omega (arith, joins_most q.place s.pages))
short_group s q (alone e) = rw (list_reset q.place s q.updates e) (omega arith)

pub short_groups : (n : ℕ) (qs : List Group) (s : Node) → Distinct qs → All (λ (q : Group). q.node ≡ n → Short s q) qs → length s.pages ≤ 4
    → length (foldl (turn n) s (events_in qs)).pages ≤ 4
short_groups n qs s d h l =
    by_groups (λ (r : Node). length r.pages ≤ 4) n qs s d (All-map (λ q k e. short_group s q (k e)) h) (λ w. l)

-- a node's two rules, and back
pub well_is : (s : Node) → is_well s ≡ true → (is_whole s.now ≡ true) × (length s.pages ≤ 4)
unfolding is_well
well_is s e =
    (and_left (is_whole s.now) _ e, leb-true (length s.pages) 4 (and_right (is_whole s.now) (leb (length s.pages) 4) e))

pub is_well_lem : (s : Node) → is_whole s.now ≡ true → length s.pages ≤ 4 → is_well s ≡ true
unfolding is_well
is_well_lem s h l = and_intro (is_whole s.now) (leb (length s.pages) 4) h (le-leb (length s.pages) 4 l)

-- the table after the groups is well where the views after the buffer are whole and the groups are short
pub well_groups : (limit : ℕ) (T : ℕ → Node) (qs : List Group) (us : List U.Unit) → Distinct qs
    → ((n : ℕ) → n < limit → All (λ (q : Group). q.node ≡ n → Short (T n) q) qs)
    → ((n : ℕ) → n < limit → length (T n).pages ≤ 4)
    → ((n : ℕ) → n < limit → (foldl (turn n) (T n) (events_in qs)).now ≡ present n (T n).now us)
    → ((n : ℕ) → n < limit → is_whole (present n (T n).now us) ≡ true)
    → all is_well (tab 0 limit (λ (n : ℕ). foldl (turn n) (T n) (events_in qs))) ≡ true
well_groups limit T qs us d h l v p =
    all_tab is_well (λ n. foldl (turn n) (T n) (events_in qs)) 0 limit
    (λ n b. let m : n < limit = omega arith in
    is_well_lem (foldl (turn n) (T n) (events_in qs)) (ap is_whole (v n m) ∙ p n m) (short_groups n qs (T n) d (h n m) (l n m)))
