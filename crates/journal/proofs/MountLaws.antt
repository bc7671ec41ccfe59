-- Mount: with any allowance and any torn bytes the meaning stays; a finished one leaves no void page; fewer than 255 marks, all legal. Assumes nothing.
use mathlib.Core.Path.{◌≡◌, refl, sym, ap, ◌∙◌}
use mathlib.Core.Bool.{true, false, not}
use mathlib.Core.List.{List, [], ◌∷◌, ◌++◌, map, append_assoc, append-nil}
use Prim.Native.Nat.{ℕ, zero, suc, ◌*◌, ◌/◌, ◌≤◌, ◌<◌}
use native.Mathlib.Omega.{arith}
use lib.Dec.{eqb, ltb}
use lib.ListN.{length, take, get_or, length-append, length-map}
use borrow.Author.Tests.{eq-eqb, ne_eqb}
use Rattle.lists.specs.Lists.{filter, any, All, none, more, At, modify, sort}
use Rattle.lists.proofs.Tests.{cases}
use Rattle.lists.proofs.Alls.{All-head, All-tail, All-map, All-zip, All-left, All-right}
use Rattle.lists.proofs.Sorts.{All-sort, sort_All, length_sort, sort_filter}
use Rattle.lists.proofs.Parts.{cut_sizes}
use Rattle.lists.proofs.Places.{length_modify, At-other, At-get_or, at_seam}
use Rattle.chip.specs.declared.page.Mark.TheVariants.{Obsolete}
use Rattle.chip.specs.declared.power.Power.TheVariants.{Left}
use Rattle.chip.specs.Geometry.{Geometry, most_pages, page_size, block_size}
use Rattle.chip.specs.Power.{is_gone}
use Rattle.chip.specs.Page.{Page, is_live, marked}
use Rattle.chip.specs.Chip.{Legal, Machine, Op, run, pages_of}
use Rattle.chip.specs.Erases.{erases_in}
use Rattle.chip.proofs.Marks.{obsolete, marked_data}
use Rattle.chip.proofs.Runs.{after, run_parts, run_gone, Sized}
use Rattle.chip.proofs.Sizes.{whole_pages, blocks_whole}
use Rattle.pages.specs.Steps.{Live, live, live_from, commit, count, before, ordered, of_commit, Stood, refused, stand, steps}
use Rattle.pages.proofs.Order.{asym, trans}
use Rattle.pages.proofs.LivePages.{elsewhere, places_below, single, steady, shrink_ordered}
use Rattle.pages.proofs.KeyLaws.{image_bounded}
use Rattle.views.specs.Table.{Node, refusal, means, read_stood, meaning}
use Rattle.views.proofs.Meanings.{in_order, void_read, Kept}
use Rattle.views.proofs.ViewLaws.{Apart, apart_filter, apart_sort, apart_live}
use Rattle.journal.specs.Mount.{lower_place, void_of, void_pages, retire, mount_ops, mounted_by}
use Rattle.journal.proofs.PlaceOrder.{sort_sort, sort_live}
use Rattle.journal.proofs.Voids.{Voided, voided_lower, voided_steps, keep_standing, void_less, void_count, Found, found}

-- ---- the pages that are marked
-- the page at the place of y is live, of commit c, and as long as a page is
record Markable (g : Geometry) (c : ℕ) (ps : List Page) (y : Live) : Type 0 where
  here : Page
  at : At y.place here ps
  alive : is_live g here ≡ true
  long : length here ≡ page_size g
  number : commit (live g y.place here) ≡ c

-- every live page is markable
markable_from : (g : Geometry) (pre ps : List Page) (i : ℕ) → i ≡ length pre → All (Sized g) ps
    → All (λ (y : Live). Markable g (commit y) (pre ++ ps) y) (live_from g i ps)
markable_from g pre [] i e h = none
markable_from g pre (x ∷ xs) i e h =
    let a : At i x (pre ++ x ∷ xs) = rw e (at_seam pre x xs) in
    let r : All (λ (y : Live). Markable g (commit y) ((pre ++ (x ∷ [])) ++ xs) y) (live_from g (suc i) xs)
    = markable_from g (pre ++ (x ∷ [])) xs (suc i) (ap suc e ∙ sym (length-append pre (x ∷ []) ∙ omega arith)) (All-tail h) in
    let q : All (λ (y : Live). Markable g (commit y) (pre ++ x ∷ xs) y) (live_from g (suc i) xs) = (rw (append_assoc pre (x ∷ []) xs) at r) in
    cases (is_live g x)
    (λ t. rw t (more {x = live g i x} (record { here = x; at = a; alive = t; long = All-head h; number = refl }) q))
    (λ t. rw t q)

-- the mark of another page leaves it so
markable_stays : (g : Geometry) (c p : ℕ) (f : Page → Page) (ps : List Page) (y : Live) → (y.place ≡ p → ⊥) → Markable g c ps y → Markable g c (modify p f ps) y
markable_stays g c p f ps y d m =
    record { here = m.here; at = At-other f p y.place m.here ps (λ e. d (sym e)) m.at; alive = m.alive; long = m.long; number = m.number }

-- v without the pages at the places of w
abbrev minus : List Live → List Live → List Live
minus [] v = v
minus (x ∷ w) v = minus w (filter (elsewhere x.place) v)

-- ---- a run of marks of void pages
module _ (g : Geometry) (torn : List ℕ) (room : 3 ≤ g.spare) (s : List Live) (z : Live) (c n i : ℕ) where
  -- the standing pages are elsewhere
  others : (p : ℕ) (x : Page) (ps : List Page) (v : List Live) → At p x ps → commit (live g p x) ≡ c → Voided g s z c n i v
      → in_order g ps ≡ (s ++ (z ∷ [])) ++ v → All (λ (y : Live). elsewhere p y ≡ true) (s ++ (z ∷ []))
  unfolding commit
  others p x ps v a e h o =
      let b : All (λ (y : Live). y.place ≡ p → y.bytes ≡ take g.area x) (in_order g ps) = All-sort _ (single g p 0 p x ps (omega arith) a) in
      All-zip
      (λ y k l. ap not (ne_eqb y.place p (λ q. let m : commit y ≡ c = ap (λ (t : List ℕ). commit (record { place = p; bytes = t })) (k q) ∙ e in omega arith)))
      (All-left (s ++ (z ∷ [])) v (rw o at b)) (voided_lower g s z c n i h)

  module _ (x : Live) (ps : List Page) (v : List Live) (k : Markable g c ps x) (h : Voided g s z c n i v) (o : in_order g ps ≡ (s ++ (z ∷ [])) ++ v) where
    -- a mark that became 0: one void page less
    gone_one : (t : ℕ) → eqb t 0 ≡ true → in_order g (modify x.place (marked g Obsolete t) ps) ≡ (s ++ (z ∷ [])) ++ filter (elsewhere x.place) v
    gone_one t q =
        shrink_ordered g (marked g Obsolete t) x.place k.here ps k.at (obsolete g t k.here k.long room k.alive ∙ ap not q)
        ∙ ap (filter (elsewhere x.place)) o
        ∙ keep_standing g s z c n i (elsewhere x.place) v (others x.place k.here ps v k.at k.number h o)

    less_one : Voided g s z c n i (filter (elsewhere x.place) v)
    less_one = void_less g s z c n i (elsewhere x.place) v (others x.place k.here ps v k.at k.number h o) h

    -- a mark torn to another byte: nothing changes
    torn_one : (t : ℕ) → eqb t 0 ≡ false → in_order g (modify x.place (marked g Obsolete t) ps) ≡ (s ++ (z ∷ [])) ++ v
    torn_one t q =
        ap ordered
        (steady g (marked g Obsolete t) x.place 0 k.here ps k.at k.alive (obsolete g t k.here k.long room k.alive ∙ ap not q)
        (marked_data g Obsolete t k.here)) ∙ o

  left_marks : (x : Live) (w : List Live) (ps : List Page) → All (Markable g c ps) w → All (λ y. y.place ≡ x.place → ⊥) w
      → All (Markable g c (modify x.place (marked g Obsolete 0) ps)) w
  left_marks x w ps k a = All-zip (λ y m d. markable_stays g c x.place (marked g Obsolete 0) ps y d m) k a

  -- finished or cut: the same pages stand
  marks_cut : (w v : List Live) (m : ℕ) (ps : List Page) → in_order g ps ≡ (s ++ (z ∷ [])) ++ v → Voided g s z c n i v → All (Markable g c ps) w → Apart w
      → (r : List Live) × (steps g (after g torn m ps (map retire w)) ≡ stand r (s ++ (z ∷ [])))
  marks_cut [] v m ps o h k a = (v, voided_steps g s z c n i ps v o h)
  marks_cut (x ∷ w) v zero ps o h k a =
      let t = get_or torn 0 0 in
      let q = All-head k in
      let f = filter (elsewhere x.place) v in
      let ps' = modify x.place (marked g Obsolete t) ps in
      cases (eqb t 0)
      (λ e. (f, voided_steps g s z c n i ps' f (gone_one x ps v q h o t e) (less_one x ps v q h o)))
      (λ e. (v, voided_steps g s z c n i ps' v (torn_one x ps v q h o t e) h))
  marks_cut (x ∷ w) v (suc m) ps o h k a =
      marks_cut w (filter (elsewhere x.place) v) m (modify x.place (marked g Obsolete 0) ps)
      (gone_one x ps v (All-head k) h o 0 refl) (less_one x ps v (All-head k) h o) (left_marks x w ps (All-tail k) a.0) a.1

  -- finished: what is left
  marks_done : (w v : List Live) (m : ℕ) (ps : List Page) → length w ≤ m → in_order g ps ≡ (s ++ (z ∷ [])) ++ v → Voided g s z c n i v
      → All (Markable g c ps) w → Apart w → in_order g (after g torn m ps (map retire w)) ≡ (s ++ (z ∷ [])) ++ minus w v
  marks_done [] v m ps l o h k a = o
  marks_done (x ∷ w) v zero ps l o h k a = absurd (omega arith)
  marks_done (x ∷ w) v (suc m) ps l o h k a =
      marks_done w (filter (elsewhere x.place) v) m (modify x.place (marked g Obsolete 0) ps) (omega arith)
      (gone_one x ps v (All-head k) h o 0 refl) (less_one x ps v (All-head k) h o) (left_marks x w ps (All-tail k) a.0) a.1

-- ---- all void pages marked: none is left
minus_none : (w v : List Live) → All (λ (y : Live). any (λ (x : Live). eqb y.place x.place) w ≡ true) v → minus w v ≡ []
minus_none [] [] h = refl
minus_none [] (y ∷ v) h = let u = All-head h in let z : ◌≡◌ {A = ℕ} 0 1 = cc in absurd (omega arith)
minus_none (x ∷ w) v h = minus_none w (filter (elsewhere x.place) v) (still v h)
  where
    still : (v : List Live) → All (λ (y : Live). any (λ (x : Live). eqb y.place x.place) (x ∷ w) ≡ true) v
        → All (λ (y : Live). any (λ (x : Live). eqb y.place x.place) w ≡ true) (filter (elsewhere x.place) v)
    still [] h = none
    still (y ∷ v) h =
        let r = still v (All-tail h) in
        let u = All-head h in
        cases (eqb y.place x.place) (λ t. rw t r) (λ t. rw t (more (rw t at u) r))

all_in : (w : List Live) → All (λ (y : Live). any (λ (x : Live). eqb y.place x.place) w ≡ true) w
all_in [] = none
all_in (x ∷ w) =
    more {x = x} (rw (eq-eqb x.place x.place refl))
    (All-map (λ y h. cases (eqb y.place x.place) (λ t. rw t) (λ t. rw t h)) (all_in w))

apart_right : (xs ys : List Live) → Apart (xs ++ ys) → Apart ys
apart_right [] ys a = a
apart_right (x ∷ xs) ys a = apart_right xs ys a.1

-- ---- an image with void pages v and standing pages xs
module _ (g : Geometry) (ps : List Page) (v xs : List Live) (e : steps g ps ≡ stand v xs) where
  -- the pages that are marked are the void pages
  pub void_pages_lem : void_pages g ps ≡ sort lower_place v
  unfolding void_pages
  void_pages_lem = rw e

  -- as many marks as void pages
  pub void_marks : length (mount_ops g ps) ≡ length v
  void_marks = rw length-map (ap length void_pages_lem ∙ length_sort lower_place v)

  -- every void page is live where it stands
  void_markable : (f : Found g ps v xs) → All (Sized g) ps → All (Markable g f.c ps) (void_pages g ps)
  void_markable f sizes =
      let b : All (λ (y : Live). Markable g (commit y) ps y) (in_order g ps) = All-sort _ (markable_from g [] ps 0 refl sizes) in
      let r : All (λ (y : Live). Markable g (commit y) ps y) v = All-right (f.s ++ (f.z ∷ [])) v (rw f.order at b) in
      rw void_pages_lem
      (All-sort lower_place
      (All-zip
      (λ y m k. record { here = m.here; at = m.at; alive = m.alive; long = m.long; number = m.number ∙ k.0 })
      r f.voided.same))

  -- no two at one place
  pub void_apart : (f : Found g ps v xs) → Apart (void_pages g ps)
  void_apart f =
      let a : Apart (in_order g ps) = apart_sort _ (live_from g 0 ps) (apart_live g 0 ps) in
      rw void_pages_lem (apart_sort lower_place v (apart_right (f.s ++ (f.z ∷ [])) v (rw f.order at a)))

  module _ (torn : List ℕ) (room : 3 ≤ g.spare) (sizes : All (Sized g) ps) (n : ℕ) where
    -- finished or cut: the same pages stand
    pub mount_stands : (r : List Live) × (steps g (mounted_by g torn n ps).pages ≡ stand r xs)
    mount_stands =
        let f = found g ps v xs e in
        let r = marks_cut g torn room f.s f.z f.c f.n f.i (void_pages g ps) v n ps f.order f.voided (void_markable f sizes) (void_apart f) in
        (r.0, ap (λ (m : Machine). steps g m.pages) (run_parts g torn n ps (mount_ops g ps)) ∙ r.1 ∙ ap (stand r.0) (sym f.ends))

    -- finished: no page is void, and what stood is all that is live
    pub mount_none : length (mount_ops g ps) ≤ n → (steps g (mounted_by g torn n ps).pages ≡ stand [] xs) × (in_order g (mounted_by g torn n ps).pages ≡ xs)
    mount_none l =
        let f = found g ps v xs e in
        let w : List Live = void_pages g ps in
        let few : length w ≤ n = rw length-map at l in
        let inside : All (λ (y : Live). any (λ (x : Live). eqb y.place x.place) w ≡ true) v =
        sort_All lower_place v (rw (← void_pages_lem) (all_in w)) in
        let o : in_order g (after g torn n ps (map retire w)) ≡ (f.s ++ (f.z ∷ [])) ++ [] =
        marks_done g torn room f.s f.z f.c f.n f.i w v n ps few f.order f.voided (void_markable f sizes) (void_apart f)
        ∙ ap (λ (r : List Live). (f.s ++ (f.z ∷ [])) ++ r) (minus_none w v inside) in
        let b : Voided g f.s f.z f.c f.n f.i [] =
        record { is = f.voided.is; owns = none; links = rw append-nil f.voided.is.links; same = none; above = f.voided.above; below = f.voided.below; lacks = refl } in (
          ap (λ (m : Machine). steps g m.pages) (run_parts g torn n ps (mount_ops g ps))
              ∙ voided_steps g f.s f.z f.c f.n f.i (after g torn n ps (map retire w)) [] o b ∙ ap (stand []) (sym f.ends),
          ap (λ (m : Machine). in_order g m.pages) (run_parts g torn n ps (mount_ops g ps)) ∙ o ∙ append-nil (f.s ++ (f.z ∷ [])) ∙ sym f.ends,
        )

  -- the void pages as one pass over the chip meets them: the live pages of their commit
  pub void_scan : (c : ℕ) → v ≡ filter (of_commit c) (in_order g ps) → void_pages g ps ≡ filter (of_commit c) (live_from g 0 ps)
  void_scan c q =
      let w : List Live = filter (of_commit c) (live_from g 0 ps) in
      void_pages_lem ∙ ap (sort lower_place) (q ∙ sym (sort_filter before asym trans (of_commit c) (live_from g 0 ps)))
      ∙ sort_sort before w (apart_filter (of_commit c) (live_from g 0 ps) (apart_live g 0 ps)) ∙ sort_live g (of_commit c) 0 ps

  -- every void page's commit has more pages than there are marks
  pub mount_below : All (λ (x : Live). length (mount_ops g ps) < count x) v
  mount_below =
      let f = found g ps v xs e in
      All-map (λ x k. omega (arith, void_marks, k.1, void_count g f.s f.z f.c f.n f.i v f.voided)) f.voided.same

-- ---- any image
-- an image that steps 1 to 3 refuse gets no mark
pub refused_none : (g : Geometry) (ps : List Page) (k : ℕ) → steps g ps ≡ refused k → mount_ops g ps ≡ []
unfolding void_pages
refused_none g ps k e = rw e

module _ (g : Geometry) (torn : List ℕ) (ps : List Page) (n : ℕ) where
  refused_same : (k : ℕ) → steps g ps ≡ refused k → (mounted_by g torn n ps).pages ≡ ps
  unfolding run
  refused_same k e = rw (refused_none g ps k e)

module _ (g : Geometry) (limit : ℕ) (torn : List ℕ) (room : 3 ≤ g.spare) (ps : List Page) (sizes : All (Sized g) ps) (n : ℕ) where
  meaning_stays : (r : Stood) → steps g ps ≡ r → meaning g limit (mounted_by g torn n ps).pages ≡ meaning g limit ps
  unfolding meaning
  meaning_stays (refused k) e = ap (λ (qs : List Page). read_stood limit (steps g qs)) (refused_same g torn ps n k e)
  meaning_stays (stand v xs) e =
      let r = mount_stands g ps v xs e torn room sizes n in
      ap (read_stood limit) r.1 ∙ void_read limit r.0 v xs ∙ ap (read_stood limit) (sym e)

  -- finished or cut, an image means what it meant, be it a table and a number or a refusal
  pub mount_keeps : meaning g limit (mounted_by g torn n ps).pages ≡ meaning g limit ps
  mount_keeps = meaning_stays (steps g ps) refl

  steps_of : (tb : List Node) (c : ℕ) (r : Stood) → steps g ps ≡ r → meaning g limit ps ≡ means tb c → (v : List Live) × (xs : List Live) × (steps g ps ≡ stand v xs)
  unfolding meaning
  steps_of tb c (refused k) e m =
      let q : refusal k ≡ means tb c = sym (ap (read_stood limit) e) ∙ m in
      let u : ◌≡◌ {A = ℕ} 0 1 = cc in
      absurd (omega arith)
  steps_of tb c (stand v xs) e m = (v, xs, e)

  -- finished, an image that means a table and a number means them with no void page
  pub mount_clean : (tb : List Node) (c : ℕ) → meaning g limit ps ≡ means tb c → length (mount_ops g ps) ≤ n → Kept g limit (mounted_by g torn n ps).pages tb c
  mount_clean tb c m l =
      let s = steps_of tb c (steps g ps) refl m in
      let r = mount_none g ps s.0 s.1 s.2 torn room sizes n l in
      record { is = mount_keeps ∙ m; clean = r.0 ∙ ap (stand []) (sym r.1) }

-- ---- how many marks
counted : (g : Geometry) (ps : List Page) (r : Stood) → steps g ps ≡ r → All (λ (x : Live). count x < 256) (live_from g 0 ps) → length (mount_ops g ps) < 255
counted g ps (refused k) e h = rw (refused_none g ps k e) (omega arith)
counted g ps (stand [] xs) e h = rw (void_marks g ps [] xs e) (omega arith)
counted g ps (stand (x ∷ v) xs) e h =
    let f = found g ps (x ∷ v) xs e in
    let b : All (λ (y : Live). count y < 256) (in_order g ps) = All-sort _ h in
    omega (arith, All-head (All-right (f.s ++ (f.z ∷ [])) (x ∷ v) (rw f.order at b)), All-head (mount_below g ps (x ∷ v) xs e))

-- fewer than 255 where page counts are bytes
pub mount_count : (g : Geometry) (ps : List Page) → All (λ (x : Live). count x < 256) (live_from g 0 ps) → length (mount_ops g ps) < 255
mount_count g ps h = counted g ps (steps g ps) refl h

-- so on an image of bytes
pub mount_few : (g : Geometry) (image : List ℕ) → ((i : ℕ) → get_or image i 0 < 256) → length image / page_size g ≤ most_pages
    → length (mount_ops g (pages_of g image)) < 255
unfolding count
mount_few g image h l = mount_count g (pages_of g image) (All-map (λ x b. b.head.count) (image_bounded g image 0 h l (omega arith)))

-- ---- the power of a mount
module _ (g : Geometry) (torn : List ℕ) (n : ℕ) (ps : List Page) where
  -- it is gone exactly with an allowance below the number of marks
  pub mount_gone : is_gone (mounted_by g torn n ps).power ≡ ltb n (length (mount_ops g ps))
  mount_gone = run_gone g torn n ps (mount_ops g ps)

-- ---- the pages of an image of b blocks
pub image_sized : (g : Geometry) (image : List ℕ) (b : ℕ) → length image ≡ b * block_size g → All (Sized g) (pages_of g image)
unfolding pages_of
image_sized g image b l =
    cut_sizes (page_size g) (length image / page_size g) image (whole_pages g (length image) (blocks_whole g (length image) b l))

-- ---- an image without a void page: nothing to do, and it stays as it is
pub clean_none : (g : Geometry) (ps : List Page) (ls : List Live) → steps g ps ≡ stand [] ls → mount_ops g ps ≡ []
unfolding void_pages
clean_none g ps ls e = ap (λ (x : Stood). map retire (sort lower_place (void_of x))) e

pub clean_stays : (g : Geometry) (torn : List ℕ) (n : ℕ) (ps : List Page) (ls : List Live) → steps g ps ≡ stand [] ls → (mounted_by g torn n ps).pages ≡ ps
clean_stays g torn n ps ls e =
    ap (λ (os : List Op). (run g torn (record { power = Left n; pages = ps }) os).pages) (clean_none g ps ls e) ∙ ap (λ (m : Machine). m.pages) (run_parts g torn n ps [])

-- ---- no mark is an erase
retire_none : (b : ℕ) (w : List Live) → erases_in b (map retire w) ≡ 0
retire_none b [] = refl
retire_none b (x ∷ w) = omega (arith, retire_none b w)

pub mount_erases : (g : Geometry) (ps : List Page) (b : ℕ) → erases_in b (mount_ops g ps) ≡ 0
mount_erases g ps b = retire_none b (void_pages g ps)

-- ---- the marks are legal
retire_legal : (g : Geometry) (w : List Live) (ps : List Page) → All (λ (x : Live). x.place < length ps) w → Legal g ps (map retire w)
retire_legal g [] ps h = tt
retire_legal g (x ∷ w) ps h = (
  record { page = get_or ps x.place []; stands = At-get_or x.place ps [] (All-head h) },
  retire_legal g w (modify x.place (marked g Obsolete 0) ps)
      (All-map (λ y k. omega (arith, length_modify x.place (marked g Obsolete 0) ps)) (All-tail h)),
)

void_places : (g : Geometry) (ps : List Page) (r : Stood) → steps g ps ≡ r → All (λ (x : Live). x.place < length ps) (void_pages g ps)
unfolding void_pages
void_places g ps (refused k) e = rw e none
void_places g ps (stand v xs) e =
    let f = found g ps v xs e in
    let b : All (λ (x : Live). x.place < length ps) (in_order g ps) = All-sort _ (All-map (λ y h. omega arith) (places_below g 0 ps)) in
    rw e (All-sort lower_place (All-right (f.s ++ (f.z ∷ [])) v (rw f.order at b)))

pub mount_legal : (g : Geometry) (ps : List Page) → Legal g ps (mount_ops g ps)
mount_legal g ps = retire_legal g (void_pages g ps) ps (void_places g ps (steps g ps) refl)
