-- What an image means as a whole: from its pages in order, and after an erase. Assumes nothing.
use mathlib.Core.Path.{◌≡◌, refl, sym, ap, ◌∙◌}
use mathlib.Core.Bool.{Bool, true, false, cond, ◌&&◌, not}
use mathlib.Core.List.{List, [], ◌∷◌, ◌++◌}
use Prim.Native.Nat.{ℕ, ◌+◌, ◌<◌}
use native.Mathlib.Omega.{arith}
use lib.ListN.{length, get_or}
use borrow.Author.Tests.{eq-eqb}
use Rattle.lists.specs.Lists.{filter, all, All, map_from, tab}
use Rattle.lists.proofs.Tests.{cases, and_left, and_right}
use Rattle.lists.proofs.Alls.{All-head, All-map, All-right, All-filter, all_All, All-all}
use Rattle.lists.proofs.Filters.{filter_append}
use Rattle.lists.proofs.Flats.{tab_same, length_tab, get_d_tab, tab_all}
use Rattle.lists.proofs.Ends.{End, nil, snoc, end_of, snoc_some}
use Rattle.chip.specs.Geometry.{Geometry}
use Rattle.chip.specs.Page.{Page, is_live}
use Rattle.chip.specs.Chip.{in_block, filled}
use Rattle.pages.specs.Steps.{Live, live_from, commit, ordered, last_from, full, of_commit, refused, stand, without, split, steps}
use Rattle.pages.proofs.Order.{chain}
use Rattle.pages.proofs.Pairs.{own, settle_ordered_lem, steps_ordered}
use Rattle.pages.proofs.Settle.{last_snoc, settle_snoc, Whole, stands, removed}
use Rattle.pages.proofs.LivePages.{outside, gone_ordered}
use Rattle.views.specs.Table.{Event, events, is_sound, Node, node_of, table, is_well, refusal, means, read, read_stood, meaning}
use Rattle.views.proofs.Folds.{events_filter, node_kept}
use Rattle.views.proofs.Rooms.{Unlisted, Outside}

-- the live pages of an image in order
abbrev pub in_order : Geometry → List Page → List Live
in_order g ps = ordered (live_from g 0 ps)

pub meaning_ordered : (g : Geometry) (limit : ℕ) (ps : List Page) → meaning g limit ps ≡ read_stood limit (settle_ordered_lem g (in_order g ps))
unfolding meaning
meaning_ordered g limit ps = ap (read_stood limit) (steps_ordered g ps)

-- ---- reading the pages that stand
pub stood : (limit : ℕ) (v s : List Live) (z : Live) → read_stood limit (stand v (s ++ (z ∷ []))) ≡ read limit (s ++ (z ∷ [])) (commit z)
stood limit v [] z = refl
stood limit v (x ∷ s) z = rw (last_snoc x s z)

-- void pages do not count
pub void_read : (limit : ℕ) (v w s : List Live) → read_stood limit (stand v s) ≡ read_stood limit (stand w s)
void_read limit v w [] = refl
void_read limit v w (x ∷ s) = refl

-- every unit obeys the layout, no view is broken, no list is long
pub read_is : (limit : ℕ) (xs : List Live) (c : ℕ) (tb : List Node) (m : ℕ) → read limit xs c ≡ means tb m
    → (all is_sound (events limit xs) ≡ true) × (all is_well (table limit (events limit xs)) ≡ true) × (table limit (events limit xs) ≡ tb) × (c ≡ m)
read_is limit xs c tb m e =
    let a : Bool = all is_sound (events limit xs) in
    let b : Bool = all is_well (table limit (events limit xs)) in
    cases (a && b)
    (λ t. let k : means (table limit (events limit xs)) c ≡ means tb m = (rw t at e) in (and_left a b t, and_right a b t, cc, cc))
    (λ t. let k : refusal 8 ≡ means tb m = (rw t at e) in let u : ◌≡◌ {A = ℕ} 0 1 = cc in absurd (omega arith))

-- ---- all live pages in order, s then z, stand: they mean the nodes T and the number c
pub record Standing (g : Geometry) (limit : ℕ) (T : ℕ → Node) (c : ℕ) (s : List Live) (z : Live) : Type 0 where
  pub is : Whole g s z
  pub sounds : All (λ (e : Event). is_sound e ≡ true) (events limit (s ++ (z ∷ [])))
  pub nodes : (n : ℕ) → n < limit → node_of n (events limit (s ++ (z ∷ []))) ≡ T n
  pub last : commit z ≡ c

module _ (g : Geometry) (limit : ℕ) (T : ℕ → Node) (c : ℕ) (s : List Live) (z : Live) (h : Standing g limit T c s z) where
  standing_table : table limit (events limit (s ++ (z ∷ []))) ≡ tab 0 limit T
  standing_table = tab_same (λ n. node_of n (events limit (s ++ (z ∷ [])))) T 0 limit (λ n l. h.nodes n (omega arith))

  -- what they read as, with any void pages v
  pub standing_read : all is_well (tab 0 limit T) ≡ true → (v : List Live) → read_stood limit (stand v (s ++ (z ∷ []))) ≡ means (tab 0 limit T) c
  standing_read well v = stood limit v s z ∙ rw (standing_table, All-all is_sound h.sounds, well, h.last)

  pub standing_means : all is_well (tab 0 limit T) ≡ true → (ps : List Page) → in_order g ps ≡ s ++ (z ∷ []) → meaning g limit ps ≡ means (tab 0 limit T) c
  standing_means well ps e = meaning_ordered g limit ps ∙ rw (e, stands g s z h.is) (standing_read well [])

  -- no page is void
  pub standing_clean : (ps : List Page) → in_order g ps ≡ s ++ (z ∷ []) → steps g ps ≡ stand [] (in_order g ps)
  standing_clean ps e = steps_ordered g ps ∙ rw e (stands g s z h.is)

  -- the pages of a block go that no list names and that holds no page of the greatest commit
  module _ (b : ℕ) (un : Unlisted g limit T b) (out : Outside g c (s ++ (z ∷ [])) b) where
    last_outside : outside g b z ≡ true
    last_outside = ap not (All-head (All-right s (z ∷ []) out) h.last)

    filter_outside : filter (outside g b) (s ++ (z ∷ [])) ≡ filter (outside g b) s ++ (z ∷ [])
    filter_outside = filter_append (outside g b) s (z ∷ []) ∙ rw last_outside

    pub erased : Standing g limit T c (filter (outside g b) s) z
    erased =
        record {
          is = removed g s z h.is (outside g b) (All-map (λ x m e. ap not (m (e ∙ h.last))) out) last_outside;
          sounds = rw (← filter_outside, events_filter limit (in_block g b) (s ++ (z ∷ [])))
              (All-filter (λ e. not (in_block g b e.place)) h.sounds);
          nodes = λ n l. rw (← filter_outside) (node_kept (in_block g b) limit n (s ++ (z ∷ [])) (rw (h.nodes n l) (un n l)) ∙ h.nodes n l);
          last = h.last;
        }

    -- pages y, not live, in place of the block's
    pub erased_ordered : (y : Page) (ps : List Page) → is_live g y ≡ false → in_order g ps ≡ s ++ (z ∷ [])
        → in_order g (map_from 0 (filled g b y) ps) ≡ filter (outside g b) s ++ (z ∷ [])
    erased_ordered y ps q o = gone_ordered g b y ps q ∙ ap (filter (outside g b)) o ∙ filter_outside

-- ---- from what an image means
-- with no void page there is an answer only if the greatest commit is whole
void_none : (v r s : List Live) → without v r ≡ stand [] s → v ≡ []
void_none v [] s e = let u : ◌≡◌ {A = ℕ} 0 1 = cc in absurd (omega arith)
void_none v (x ∷ r) s e =
    cases (full (last_from x r) (x ∷ r))
    (λ t. let k : stand v (x ∷ r) ≡ stand [] s = (rw t at e) in cc)
    (λ t. let k : refused 8 ≡ stand [] s = (rw t at e) in let u : ◌≡◌ {A = ℕ} 0 1 = cc in absurd (omega arith))

pub whole_of : (g : Geometry) (s : List Live) (z : Live) → settle_ordered_lem g (s ++ (z ∷ [])) ≡ stand [] (s ++ (z ∷ [])) → Whole g s z
whole_of g s z e =
    let xs : List Live = s ++ (z ∷ []) in
    let p : Live → Bool = of_commit (commit z) in
    let k : cond (all (own g) xs && chain xs) (split z xs) (refused 8) ≡ stand [] xs = sym (settle_snoc g s z) ∙ e in
    cases (all (own g) xs && chain xs)
    (λ t. let l : split z xs ≡ stand [] xs = (rw t at k) in
    record {
      owns = all_All (own g) xs (and_left (all (own g) xs) (chain xs) t);
      links = and_right (all (own g) xs) (chain xs) t;
      is = cases (full z xs) (λ q. q)
          (λ q. let m : without (filter p xs) (filter (λ (x : Live). not (p x)) xs) ≡ stand [] xs = (rw q at l) in
          absurd
          (snoc_some (filter p s) z
          (sym (filter_append p s (z ∷ []) ∙ rw (eq-eqb (commit z) (commit z) refl))
          ∙ void_none (filter p xs) (filter (λ (x : Live). not (p x)) xs) xs m)));
    })
    (λ t. let l : refused 8 ≡ stand [] xs = (rw t at k) in let u : ◌≡◌ {A = ℕ} 0 1 = cc in absurd (omega arith))

-- an image means the table tb and the number c, and no page is void
pub record Kept (g : Geometry) (limit : ℕ) (ps : List Page) (tb : List Node) (c : ℕ) : Type 0 where
  pub is : meaning g limit ps ≡ means tb c
  pub clean : steps g ps ≡ stand [] (in_order g ps)

-- node n of an image
unfoldable pub node_in : Geometry → ℕ → List Page → ℕ → Node
node_in g limit ps n = node_of n (events limit (in_order g ps))

-- such an image taken apart: its pages in order, and its table
pub record Opened (g : Geometry) (limit : ℕ) (ps : List Page) (tb : List Node) (c : ℕ) : Type 0 where
  pub s : List Live
  pub z : Live
  pub order : in_order g ps ≡ s ++ (z ∷ [])
  pub good : Standing g limit (node_in g limit ps) c s z
  pub tables : tb ≡ tab 0 limit (node_in g limit ps)
  pub well : all is_well (tab 0 limit (node_in g limit ps)) ≡ true

opened_at : (g : Geometry) (limit : ℕ) (ps : List Page) (tb : List Node) (c : ℕ) {xs : List Live} → End xs → in_order g ps ≡ xs
    → Kept g limit ps tb c → Opened g limit ps tb c
unfolding node_in
opened_at g limit ps tb c nil o k =
    let e : refusal 7 ≡ means tb c = sym (ap (λ (l : List Live). read_stood limit (settle_ordered_lem g l)) o) ∙ sym (meaning_ordered g limit ps) ∙ k.is in
    let u : ◌≡◌ {A = ℕ} 0 1 = cc in
    absurd (omega arith)
opened_at g limit ps tb c (snoc s z) o k =
    let xs : List Live = s ++ (z ∷ []) in
    let d : settle_ordered_lem g (in_order g ps) ≡ stand [] (in_order g ps) = sym (steps_ordered g ps) ∙ k.clean in
    let w : settle_ordered_lem g xs ≡ stand [] xs = (rw o at d) in
    let m : read_stood limit (settle_ordered_lem g (in_order g ps)) ≡ means tb c = sym (meaning_ordered g limit ps) ∙ k.is in
    let e : read_stood limit (stand [] xs) ≡ means tb c = (rw (o, w) at m) in
    let r = read_is limit xs (commit z) tb c (sym (stood limit [] s z) ∙ e) in
    let t : tab 0 limit (node_in g limit ps) ≡ table limit (events limit xs) = ap (λ (l : List Live). tab 0 limit (λ n. node_of n (events limit l))) o in
    record {
      s = s;
      z = z;
      order = o;
      good = record { is = whole_of g s z w; sounds = all_All is_sound (events limit xs) r.0; nodes = λ n l. rw o; last = r.3 };
      tables = sym (t ∙ r.2);
      well = rw t r.1;
    }

pub opened : (g : Geometry) (limit : ℕ) (ps : List Page) (tb : List Node) (c : ℕ) → Kept g limit ps tb c → Opened g limit ps tb c
opened g limit ps tb c k = opened_at g limit ps tb c (end_of (in_order g ps)) refl k

module _ (g : Geometry) (limit : ℕ) (ps : List Page) (tb : List Node) (c : ℕ) (k : Kept g limit ps tb c) where
  -- the table has limit nodes, each is the node of the image, and its view is not broken and its list not long
  pub kept_size : length tb ≡ limit
  kept_size = ap length (opened g limit ps tb c k).tables ∙ length_tab (node_in g limit ps) 0 limit

  pub kept_node : (n : ℕ) (d : Node) → n < limit → get_or tb n d ≡ node_in g limit ps n
  kept_node n d l =
      ap (λ (t : List Node). get_or t n d) (opened g limit ps tb c k).tables ∙ get_d_tab (node_in g limit ps) 0 limit n d l
      ∙ ap (node_in g limit ps) (let e : 0 + n ≡ n = omega arith in e)

  pub kept_well : (n : ℕ) → n < limit → is_well (node_in g limit ps n) ≡ true
  kept_well n l =
      ap (λ (m : ℕ). is_well (node_in g limit ps m)) (let e : n ≡ 0 + n = omega arith in e)
      ∙ tab_all is_well (node_in g limit ps) 0 limit n (opened g limit ps tb c k).well l
