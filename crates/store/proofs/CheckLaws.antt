-- Steps 1 to 6 of an image by the keys of its live pages in order. Assumes nothing.
use mathlib.Core.Path.{◌≡◌, refl, sym, ap, subst, ◌∙◌}
use mathlib.Core.Bool.{Bool, true, false, cond}
use mathlib.Core.List.{List, [], ◌∷◌, ◌++◌, map, append_assoc}
use Prim.Native.Nat.{ℕ, ◌+◌, ◌*◌, ◌-◌, ◌/◌, ◌≤◌, ◌<◌}
use native.Mathlib.Omega.{arith}
use lib.Dec.{eqb}
use lib.ListN.{length, drop, get_or, length-append, length-map}
use lib.Seq.{take_at, get_or_at, get_or-drop}
use borrow.Author.Tests.{eq-eqb, ne_eqb}
use Rattle.std.specs.Prelude.{Result, Ok, Err, Some, None}
use Rattle.lists.specs.Lists.{All, all, part, sort}
use Rattle.lists.proofs.Tests.{and_left, and_right}
use Rattle.lists.proofs.Alls.{All-head, All-left, All-right}
use Rattle.lists.proofs.Ends.{End, nil, snoc, end_of}
use Rattle.lists.proofs.Flats.{map_append, tab_same, tab_all, get_d_tab, length_tab}
use Rattle.lists.proofs.Sorts.{All-sort}
use Rattle.chip.specs.Geometry.{Geometry, Fits, blocks_of, most_pages, page_size}
use Rattle.chip.specs.Page.{Page}
use Rattle.chip.specs.Chip.{pages_of}
use Rattle.pages.specs.declared.standing.Standing.{Standing}
use Rattle.pages.specs.declared.standing.Unsettled.{Unsettled}
use Rattle.pages.specs.declared.standing.Unsettled.TheVariants as U
use Rattle.pages.specs.Steps.{Live, commit, count, Stood, refused, stand, steps}
use Rattle.pages.specs.KeyCode.{key_of, number_of, stands, Shown, Says}
use Rattle.pages.proofs.KeyLaws.{Bounded, image_bounded, key_commit}
use Rattle.numbers.specs.NumberSet.{words_of, uncounted}
use Rattle.views.specs.Table as Views
use Rattle.views.specs.Table.{Node, fresh, events, table, node_of, is_sound, is_well, read_stood, read}
use Rattle.views.specs.Stored.{Stores, stored_list, list_view, buffer_view, node_view}
use Rattle.views.specs.ReadCode.{ReadTable}
use Rattle.views.proofs.Groups.{well_is}
use Rattle.views.proofs.Meanings.{in_order, stood}
use Rattle.views.proofs.ViewLaws.{view_listed}
use Rattle.tree.specs.Step6.{step6}
use Rattle.tree.specs.Shown.{shown}
use Rattle.tree.specs.Free.{free_numbers}
use Rattle.tree.specs.Thick.{thin}
use Rattle.tree.specs.declared.check.Growth.{Growth}
use Rattle.tree.specs.CheckCode.{pages_table, is_grown, is_found_thin, ChecksTree}
use Rattle.journal.specs.MountCode.{marks_of}
use Rattle.journal.specs.Mount.{lower_place, mount_ops, retire}
use Rattle.journal.specs.Plan.{node_at}
use Rattle.journal.proofs.Voids.{Found, found}
use Rattle.journal.proofs.MountLaws.{void_pages_lem, void_scan}
use Rattle.promise.specs.Calls.{invalid}
use Rattle.promise.specs.Image.{views_of, by_six, image_meaning}
use Rattle.store.proofs.SettledViews.{map_tab}
use Rattle.store.proofs.SizeLaws.{chip_pages}
use Rattle.store.specs.declared.answer.Refusal.{Refusal}
use Rattle.store.specs.AdmitCode.{ChipOf}
use Rattle.store.specs.CheckCode.{is_read, is_tree, Passed, Condemns, unread, no_tree, JudgesKeys, commit_at, means_by, Numbered, refused_by, Unread, blank, layout, shape, Checks}

module _ (g : Geometry) (image lens slots : List ℕ) (limit : ℕ) (few : limit ≤ 256) (v xs : List Live) (st : steps g (pages_of g image) ≡ stand v xs)
    (read : is_read limit xs ≡ true) (lists : (n : ℕ) → n < 256 → Stores lens slots n (node_of n (events limit xs)).pages) where
  -- the view of a node from its stored list
  view_at_lem : (n : ℕ) → n < limit → list_view g limit (pages_of g image) n (stored_list lens slots n) ≡ (node_of n (events limit xs)).now
  view_at_lem n l =
      let es = events limit xs in
      let z : 0 + n ≡ n = omega arith in
      let w : is_well (node_of (0 + n) es) ≡ true = tab_all is_well (λ (m : ℕ). node_of m es) 0 limit n (and_right (all is_sound es) (all is_well (table limit es)) read) l in
      let q : is_well (node_of n es) ≡ true = (rw z at w) in
      ap (list_view g limit (pages_of g image) n) ((lists n (omega arith)).pages (well_is (node_of n es) q).1)
      ∙ sym (view_listed g limit (pages_of g image) v xs st (and_left (all is_sound es) (all is_well (table limit es)) read) n)

  -- the table of the stored lists is that of the standing pages
  pub views_listed : pages_table g image lens slots limit ≡ views_of (table limit (events limit xs))
  unfolding shown buffer_view
  views_listed =
      tab_same (node_view g limit (pages_of g image) lens slots 0 []) (λ (n : ℕ). (node_of n (events limit xs)).now) 0 limit (λ n l. view_at_lem n (omega arith))
      ∙ sym (map_tab (λ (s : Node). s.now) (λ (n : ℕ). node_of n (events limit xs)) 0 limit)

module _ (g : Geometry) (image lens slots : List ℕ) (limit : ℕ) (few : limit ≤ 256) (v xs : List Live) (st : steps g (pages_of g image) ≡ stand v xs)
    (r : Bool) (t : ReadTable limit xs lens slots r) where
  pub judged_layout : r ≡ false → is_read limit xs ≡ false
  judged_layout e = sym t.good ∙ e

  module _ (e : r ≡ true) (counts : List ℕ) (q : Growth) (k : ChecksTree (pages_table g image lens slots limit) counts q) where
    same_views : pages_table g image lens slots limit ≡ views_of (table limit (events limit xs))
    same_views = views_listed g image lens slots limit few v xs st (sym t.good ∙ e) (t.lists e)

    judged_same : is_grown q ≡ is_tree limit xs
    judged_same = k.is ∙ ap step6 same_views

    -- the numbers counted by the walk are those that no node has
    judged_free : is_grown q ≡ true → (free : List ℕ) → free ≡ words_of (uncounted limit counts) → free ≡ free_numbers (views_of (table limit (events limit xs)))
    unfolding free_numbers shown
    judged_free h free f =
        f ∙ ap (λ (n : ℕ). words_of (uncounted n counts)) (sym (length_tab (node_view g limit (pages_of g image) lens slots 0 []) 0 limit))
        ∙ ap words_of (sym (k.counted h)) ∙ ap free_numbers same_views

    pub judged_shape : is_grown q ≡ false → (is_read limit xs ≡ true) × (is_tree limit xs ≡ false)
    judged_shape h = (sym t.good ∙ e, sym judged_same ∙ h)

    pub judged_tree : (w : Bool) → is_grown q ≡ true → is_found_thin q ≡ w → (free : List ℕ) → free ≡ words_of (uncounted limit counts) → Passed limit xs lens slots free w
    judged_tree w h y free f =
        record { read = sym t.good ∙ e; tree = sym judged_same ∙ h; lists = t.lists e; numbers = judged_free h free f; thin = sym y ∙ k.thin h ∙ ap thin same_views }

-- ---- an image that steps 1 to 3 refuse means the refusal
pub says_refused : (q : Stood) (order : List ℕ) (e : Unsettled) → Says (Err e) order q → q ≡ refused (number_of e)
says_refused (refused m) order e k = let p = k.1 in let d : e ≡ k.0 = cc in ap refused (sym k.2 ∙ ap number_of (sym d))
says_refused (stand v s) order e k = let p = k.answer in let u : ◌≡◌ {A = ℕ} 0 1 = cc in absurd (omega arith)

refused_means : (g : Geometry) (image : List ℕ) (n : ℕ) → steps g (pages_of g image) ≡ refused n → image_meaning g image ≡ invalid n
unfolding image_meaning Views.meaning
refused_means g image n q = ap (λ (s : Stood). by_six (read_stood (8 * blocks_of g (length image)) s)) q

pub refused_checks : (g : Geometry) (image order : List ℕ) (e : Unsettled) → Says (Err e) order (steps g (pages_of g image)) → Unread g image (refused_by e)
refused_checks g image order U.Blank h = blank (refused_means g image 7 (says_refused (steps g (pages_of g image)) order U.Blank h))
refused_checks g image order U.Layout h = layout (refused_means g image 8 (says_refused (steps g (pages_of g image)) order U.Layout h))

-- ---- the keys of the standing pages xs and of the void pages v behind them
abbrev first_of : Result Standing Unsettled → ℕ
first_of (Ok s) = s.first
first_of (Err e) = 0

abbrev voids_of : Result Standing Unsettled → ℕ
voids_of (Ok s) = s.voids
voids_of (Err e) = 0

same_stands : {a b i v : ℕ} → stands a b ≡ stands i v → (a ≡ i) × (b ≡ v)
same_stands e = (ap first_of e, ap voids_of e)

module _ (order : List ℕ) (first voids : ℕ) (v xs : List Live) (k : Shown (stands first voids) order v xs) where
  voids_is : voids ≡ length v
  voids_is = (same_stands k.answer).1

  first_is : first + (length xs + length v) ≡ most_pages
  first_is =
      let e : stands first voids ≡ stands (most_pages - length (xs ++ v)) (length v) = k.answer in
      let q : first ≡ most_pages - length (xs ++ v) = (same_stands e).0 in
      omega (arith, length-append xs v, k.few)

  keys_from : drop first order ≡ map key_of (xs ++ v)
  keys_from =
      let e : stands first voids ≡ stands (most_pages - length (xs ++ v)) (length v) = k.answer in
      let q : first ≡ most_pages - length (xs ++ v) = (same_stands e).0 in
      rw q k.keys

  -- where the keys of the standing pages stand
  pub keys_part : part first (most_pages - voids - first) order ≡ map key_of xs
  keys_part =
      let n : most_pages - voids - first ≡ length xs = omega (arith, voids_is, first_is) in
      rw (n, keys_from, map_append key_of xs v) (take_at (map key_of xs) (map key_of v) (length xs) (length-map xs key_of))

  -- the key of a page
  key_at : (a : List Live) (y : Live) (b : List Live) (j : ℕ) → xs ++ v ≡ a ++ y ∷ b → j ≡ first + length a → get_or order j 0 ≡ key_of y
  key_at a y b j e q =
      ap (λ (i : ℕ). get_or order i 0) q
      ∙ sym (get_or-drop first order (length a) 0)
      ∙ ap (λ (l : List ℕ). get_or l (length a) 0) (keys_from ∙ ap (map key_of) e ∙ map_append key_of a (y ∷ b))
      ∙ get_or_at (map key_of a) (key_of y) (map key_of b) 0 (length a) (length-map a key_of)

module _ (g : Geometry) (image order : List ℕ) (first voids : ℕ) (bytes : (i : ℕ) → get_or image i 0 < 256) (size : length image / page_size g ≤ most_pages)
    (v xs : List Live) (st : steps g (pages_of g image) ≡ stand v xs) (k : Shown (stands first voids) order v xs) where
  abbrev ps : List Page
  ps = pages_of g image

  parts : Found g ps v xs
  parts = found g ps v xs st

  bounds : All Bounded ((parts.s ++ (parts.z ∷ [])) ++ v)
  bounds =
      let b : All Bounded (in_order g ps) = All-sort _ (image_bounded g image 0 bytes size (omega arith)) in
      rw parts.order at b

  some : length xs ≡ length parts.s + 1
  some = ap length parts.ends ∙ length-append parts.s (parts.z ∷ [])

  -- how many keys there are
  pub room : (first + voids < most_pages) × (first ≤ most_pages - voids) × (voids < most_pages)
  room =
      let a = voids_is order first voids v xs k in
      let b = first_is order first voids v xs k in
      let c = some in
      (omega arith, omega arith, omega arith)

  number_small : (x : Live) → Bounded x → commit x < 4294967296
  unfolding commit
  number_small x b = b.head.commit

  -- the last standing page
  last_bound : Bounded parts.z
  last_bound = All-head (All-right parts.s (parts.z ∷ []) (All-left (parts.s ++ (parts.z ∷ [])) v bounds))

  last_number_lem : commit_at order (most_pages - 1 - voids) ≡ commit parts.z
  last_number_lem =
      let a = voids_is order first voids v xs k in
      let b = first_is order first voids v xs k in
      let c = some in
      let e : xs ++ v ≡ parts.s ++ parts.z ∷ v = ap (λ (l : List Live). l ++ v) parts.ends ∙ append_assoc parts.s (parts.z ∷ []) v in
      ap (λ (n : ℕ). n / (256 * (256 * most_pages))) (key_at order first voids v xs k parts.s parts.z v (most_pages - 1 - voids) e (omega arith))
      ∙ key_commit last_bound

  -- the last void page
  void_number : (t : List Live) (y : Live) → v ≡ t ++ (y ∷ []) → (commit_at order (most_pages - 1) ≡ parts.c) × (commit_at order (most_pages - 1) < 4294967296)
  void_number t y e =
      let a = voids_is order first voids v xs k in
      let b = first_is order first voids v xs k in
      let l : length v ≡ length t + 1 = ap length e ∙ length-append t (y ∷ []) in
      let m : length (xs ++ t) ≡ length xs + length t = length-append xs t in
      let q : xs ++ v ≡ (xs ++ t) ++ y ∷ [] = ap (λ (w : List Live). xs ++ w) e ∙ sym (append_assoc xs t (y ∷ [])) in
      let h : All Bounded v = All-right (parts.s ++ (parts.z ∷ [])) v bounds in
      let by : Bounded y = All-head (All-right t (y ∷ []) (rw e at h)) in
      let s : All (λ (x : Live). (commit x ≡ parts.c) × (count x ≡ parts.n)) (t ++ (y ∷ [])) =
      subst (λ (w : List Live). All (λ (x : Live). (commit x ≡ parts.c) × (count x ≡ parts.n)) w) e parts.voided.same in
      let c : commit y ≡ parts.c = (All-head (All-right t (y ∷ []) s)).0 in
      let n : commit_at order (most_pages - 1) ≡ commit y =
      ap (λ (n : ℕ). n / (256 * (256 * most_pages))) (key_at order first voids v xs k (xs ++ t) y [] (most_pages - 1) q (omega arith)) ∙ key_commit by in
      (n ∙ c, rw n (number_small y by))

  -- both numbers have 32 bits
  pub numbered : Numbered order voids
  numbered = by (end_of v) refl
    where
      last : commit_at order (most_pages - 1 - voids) < 4294967296
      last = rw last_number_lem (number_small parts.z last_bound)

      by : {w : List Live} → End w → w ≡ v → Numbered order voids
      by nil e =
          let a = voids_is order first voids v xs k in
          let l : length v ≡ 0 = ap length (sym e) in
          let q : most_pages - 1 - voids ≡ most_pages - 1 = omega arith in
          record { few = room.2; last = last; end = rw (← q) last }
      by (snoc t y) e = record { few = room.2; last = last; end = (void_number t y (sym e)).1 }

  -- what steps 4 and 5 make of it
  meaning_is : (limit : ℕ) → Views.meaning g limit ps ≡ read limit xs (commit parts.z)
  unfolding Views.meaning
  meaning_is limit =
      ap (read_stood limit) st
      ∙ ap (λ (l : List Live). read_stood limit (stand v l)) parts.ends
      ∙ stood limit v parts.s parts.z
      ∙ ap (λ (l : List Live). read limit l (commit parts.z)) (sym parts.ends)

  meaning_read : (limit : ℕ) → is_read limit xs ≡ true → Views.meaning g limit ps ≡ Views.means (table limit (events limit xs)) (commit parts.z)
  meaning_read limit e = meaning_is limit ∙ ap (λ (b : Bool). cond b (Views.means (table limit (events limit xs)) (commit parts.z)) (Views.refusal 8)) e

  -- the marks of a mount, by the number of the void pages
  marks_by : {w : List Live} → End w → w ≡ v → mount_ops g ps ≡ marks_of g (cond (eqb voids 0) None (Some (commit_at order (most_pages - 1)))) ps
  marks_by nil e =
      let a = voids_is order first voids v xs k in
      let l : length v ≡ 0 = ap length (sym e) in
      let t : eqb voids 0 ≡ true = eq-eqb voids 0 (omega arith) in
      rw t (ap (map retire) (void_pages_lem g ps v xs st ∙ ap (sort lower_place) (sym e)))
  marks_by (snoc s y) e =
      let a = voids_is order first voids v xs k in
      let l : length v ≡ length s + 1 = ap length (sym e) ∙ length-append s (y ∷ []) in
      let t : eqb voids 0 ≡ false = ne_eqb voids 0 (λ q. omega arith) in
      let n = (void_number s y (sym e)).0 in
      rw (t, n) (ap (map retire) (void_scan g ps v xs st parts.c parts.newest))

  module _ (limit : ℕ) (is : limit ≡ 8 * blocks_of g (length image)) (few : limit ≤ 256) (lens slots free : List ℕ) where
    pub layout_checks : is_read limit xs ≡ false → image_meaning g image ≡ invalid 8
    unfolding image_meaning
    layout_checks e =
        ap (λ (n : ℕ). by_six (Views.meaning g n ps)) (sym is)
        ∙ ap by_six (meaning_is limit ∙ ap (λ (b : Bool). cond b (Views.means (table limit (events limit xs)) (commit parts.z)) (Views.refusal 8)) e)

    pub shape_checks : (is_read limit xs ≡ true) × (is_tree limit xs ≡ false) → image_meaning g image ≡ invalid 9
    unfolding image_meaning
    shape_checks h =
        let e = h.1 in
        ap (λ (n : ℕ). by_six (Views.meaning g n ps)) (sym is) ∙ ap by_six (meaning_read limit h.0) ∙ rw e

    pub tree_checks : (w : Bool) → Passed limit xs lens slots free w → Checks g image lens slots free (Ok (means_by order voids w))
    tree_checks w p =
        record {
          nodes = table limit (events limit xs);
          means = rw (← is, last_number_lem) (meaning_read limit p.read);
          tree = p.tree;
          lists = λ n l.
              let z : 0 + n ≡ n = omega arith in
              let d : node_at (table limit (events limit xs)) n ≡ node_of n (events limit xs)
              = get_d_tab (λ (j : ℕ). node_of j (events limit xs)) 0 limit n fresh (omega arith) ∙ ap (λ (j : ℕ). node_of j (events limit xs)) z in
              rw d (p.lists n (omega arith));
          views =
              subst (λ (n : ℕ). pages_table g image lens slots n ≡ views_of (table limit (events limit xs))) is
              (views_listed g image lens slots limit few v xs st p.read p.lists);
          numbers = p.numbers;
          marks = marks_by (end_of v) refl;
          thin = p.thin;
        }

-- ---- from what the code of steps 1 to 3 says of an image with standing pages
pub record StandsBy (q : Stood) (order : List ℕ) (r : Standing) : Type 0 where
  pub v : List Live
  pub xs : List Live
  pub is : q ≡ stand v xs
  pub keys : Shown (stands r.first r.voids) order v xs

pub says_stands : (q : Stood) (order : List ℕ) (r : Standing) → Says (Ok r) order q → StandsBy q order r
says_stands (refused m) order r e = let p = e.1 in let u : ◌≡◌ {A = ℕ} 0 1 = cc in absurd (omega arith)
says_stands (stand v s) order r k = record { v = v; xs = s; is = refl; keys = k }

module _ (g : Geometry) (fit : Fits g) (image order : List ℕ) (r : Standing) (blocks : ℕ) (chip : ChipOf g blocks (length image)) (bytes : (i : ℕ) → get_or image i 0 < 256)
    (says : Says (Ok r) order (steps g (pages_of g image))) where
  abbrev t : StandsBy (steps g (pages_of g image)) order r
  t = says_stands (steps g (pages_of g image)) order r says

  pages_few : length image / page_size g ≤ most_pages
  pages_few = chip_pages g fit blocks (length image) chip

  nodes_few : 8 * blocks ≤ 256
  nodes_few = omega (arith, chip.most)

  pub stands_room : (r.first + r.voids < most_pages) × (r.first ≤ most_pages - r.voids) × (r.voids < most_pages)
  stands_room = room g image order r.first r.voids bytes pages_few t.v t.xs t.is t.keys

  pub stands_numbered : Numbered order r.voids
  stands_numbered = numbered g image order r.first r.voids bytes pages_few t.v t.xs t.is t.keys

  module _ (lens slots free : List ℕ) where
    condemned : (e : Refusal) → Condemns (8 * blocks) t.xs e → Unread g image e
    condemned e (unread h) = layout (layout_checks g image order r.first r.voids bytes pages_few t.v t.xs t.is t.keys (8 * blocks) (ap (λ (b : ℕ). 8 * b) chip.blocks) nodes_few lens slots free h)
    condemned e (no_tree k h) = shape (shape_checks g image order r.first r.voids bytes pages_few t.v t.xs t.is t.keys (8 * blocks) (ap (λ (b : ℕ). 8 * b) chip.blocks) nodes_few lens slots free (k, h))

    pub stands_condemned : (e : Refusal) → JudgesKeys g image (part r.first (most_pages - r.voids - r.first) order) (8 * blocks) lens slots free (Err e) → Unread g image e
    stands_condemned e j = condemned e (j t.v t.xs t.is (keys_part order r.first r.voids t.v t.xs t.keys))

    pub stands_tree : (w : Bool) → JudgesKeys g image (part r.first (most_pages - r.voids - r.first) order) (8 * blocks) lens slots free (Ok w) → Checks g image lens slots free (Ok (means_by order r.voids w))
    stands_tree w j =
        tree_checks g image order r.first r.voids bytes pages_few t.v t.xs t.is t.keys (8 * blocks) (ap (λ (b : ℕ). 8 * b) chip.blocks) nodes_few lens slots free w
        (j t.v t.xs t.is (keys_part order r.first r.voids t.v t.xs t.keys))
