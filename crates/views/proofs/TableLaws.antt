-- One pass over pages: their units noted one after the other, page after page. Assumes nothing.
use mathlib.Core.Path.{◌≡◌, refl, sym, ap, ap₂, ◌∙◌, subst}
use mathlib.Core.Bool.{Bool, true, false, ◌&&◌}
use mathlib.Core.List.{List, [], ◌∷◌, ◌++◌, map, foldl, foldl-append, append-nil}
use Prim.Native.Nat.{ℕ, zero, suc, ◌+◌, ◌-◌, ◌*◌, ◌/◌, ◌%◌, ◌≤◌, ◌<◌}
use native.Mathlib.Nat.{add-sub_cancel_left}
use native.Mathlib.Numerals.{add-one}
use native.Mathlib.Omega.{arith}
use lib.Dec.{eqb}
use lib.ListN.{length, take, drop, get_or, replicate, length-drop, drop_of_length-le, get_or-replicate}
use lib.Seq.{take-suc, drop-cons, drop-drop, take-take, take_all}
use borrow.Author.Tests.{lt-ltb, le-ltb, le-leb, lt-leb}
use Rattle.lists.specs.Lists.{all, flat, part}
use Rattle.lists.proofs.Tests.{cases}
use Rattle.lists.proofs.Flats.{flat_append, all_append}
use Rattle.chip.specs.Geometry.{Geometry, most_pages, page_size}
use Rattle.chip.proofs.ImageLaws.{length_pages, page_at_lem}
use Rattle.pages.specs.declared.unit.Unit as U
use Rattle.std.proofs.Common.{Option, Some, None}
use Rattle.pages.specs.Units.{half, decode, decodes}
use Rattle.views.specs.Table.{Event, event_at, events_of, events, is_good, is_sound, Node, listed, turn_unit, turn}
use Rattle.views.specs.Stored.{Stores}
use Rattle.views.specs.PassCode.{Becomes, Turned, Notes, page_at, is_readable, pages_at, all_readable, Passes}
use Rattle.views.proofs.Folds.{sound_events}

-- ---- one unit
-- the list of its node altered is the unit's turn
pub turned_unit : (p : ℕ) (u : U.Unit) (d : Option U.Unit) (l s r t : List ℕ) → d ≡ Some u → Becomes u.node (listed u.update p) l s r t
    → Turned (event_at p d ∷ []) l s r t
turned_unit p u d l s r t e b m h x st =
    let k = b m h x.pages st in
    let q : turn_unit m p d x ≡ turn_unit m p (Some u) x = ap (λ (y : Option U.Unit). turn_unit m p y x) e in
    subst (λ (y : Node). Stores r t m y.pages) (sym q)
    (cases (eqb u.node m) (λ c. rw c (rw c at k)) (λ c. rw c (rw c at k)))

-- ---- the units of a page
-- as many as are read
pub length_decodes : (limit n : ℕ) (b : List ℕ) → length (decodes limit n b) ≡ n
length_decodes limit zero b = refl
length_decodes limit (suc n) b = ap suc (length_decodes limit n (drop 12 b))

-- the unit at i
decodes_at : (limit n i : ℕ) (b : List ℕ) → i < n → get_or (decodes limit n b) i None ≡ decode limit (drop (12 * i) b)
decodes_at limit zero i b h = absurd (omega arith)
decodes_at limit (suc n) zero b h = refl
decodes_at limit (suc n) (suc i) b h =
    decodes_at limit n i (drop 12 b) (omega arith)
    ∙ ap (decode limit) (drop-drop (12 * i) 12 b ∙ ap (λ (m : ℕ). drop m b) (let e : 12 + 12 * i ≡ 12 * suc i = omega arith in e))

-- units by unit are events by unit
flat_events : (p : ℕ) (ds : List (Option U.Unit)) → flat (λ (d : Option U.Unit). event_at p d ∷ []) ds ≡ map (event_at p) ds
flat_events p [] = refl
flat_events p (d ∷ ds) = ap (λ (es : List Event). event_at p d ∷ es) (flat_events p ds)

-- ---- answers
-- a pass that stops says nothing of the lists
not_noted : {w : Bool} {es : List Event} {l s r t : List ℕ} → false ≡ w → Notes w es l s r t false
not_noted e = record { good = e; is = λ z. absurd (let n : ◌≡◌ {A = ℕ} 0 1 = cc in omega arith) }

-- two tests of each of two parts
and_swap : (a b c d : Bool) → ((a && b) && (c && d)) ≡ ((a && c) && (b && d))
and_swap false b c d = refl
and_swap true true c d = refl
and_swap true false true d = refl
and_swap true false false d = refl

-- an answer by equal terms
same_notes : {w v : Bool} {es fs : List Event} {l s r t : List ℕ} {a : Bool} → w ≡ v → es ≡ fs → Notes w es l s r t a → Notes v fs l s r t a
same_notes {l = l} {s = s} {r = r} {t = t} e q k =
    record { good = k.good ∙ e; is = λ z. subst (λ (es : List Event). Turned es l s r t) q (k.is z) }

-- ---- a pass over parts xs, of which x passes if t x and has the units f x
module _ {A : Type 0} (t : A → Bool) (f : A → List Event) (xs : List A) (l₀ s₀ : List ℕ) where
  -- the first i parts are noted, and all passed
  pub record Passed (i : ℕ) (l s : List ℕ) : Type 0 where
    pub good : all t (drop i xs) ≡ all t xs
    pub is : Turned (flat f (take i xs)) l₀ s₀ l s

  pub passed_start : Passed 0 l₀ s₀
  passed_start = record { good = refl; is = λ m h x st. st }

  module _ (d : A) (i : ℕ) (l s : List ℕ) (h : i < length xs) (p : Passed i l s) where
    rest : drop i xs ≡ get_or xs i d ∷ drop (i + 1) xs
    rest = rw add-one (drop-cons xs i d h)

    more : flat f (take (i + 1) xs) ≡ flat f (take i xs) ++ f (get_or xs i d)
    more =
        ap (λ (n : ℕ). flat f (take n xs)) (add-one i) ∙ ap (flat f) (take-suc xs i d h)
        ∙ flat_append f (take i xs) (get_or xs i d ∷ []) ∙ ap (λ (es : List Event). flat f (take i xs) ++ es) (append-nil (f (get_or xs i d)))

    -- the next part passes
    pub passed_next : (r u : List ℕ) → t (get_or xs i d) ≡ true → Turned (f (get_or xs i d)) l s r u → Passed (i + 1) r u
    passed_next r u e q = record {
      good = ap (λ (b : Bool). b && all t (drop (i + 1) xs)) (sym e) ∙ ap (all t) (sym rest) ∙ p.good;
      is = λ m k x st.
          let es : List Event = flat f (take i xs) in
          subst (λ (ys : List Event). Stores r u m (foldl (turn m) x ys).pages) (sym more)
          (subst (λ (y : Node). Stores r u m y.pages) (sym (foldl-append (turn m) x es (f (get_or xs i d))))
          (q m k (foldl (turn m) x es) (p.is m k x st)));
    }

    -- it does not
    pub passed_stop : {r u : List ℕ} → t (get_or xs i d) ≡ false → Notes (all t xs) (flat f xs) l₀ s₀ r u false
    passed_stop e = not_noted (ap (λ (b : Bool). b && all t (drop (i + 1) xs)) (sym e) ∙ ap (all t) (sym rest) ∙ p.good)

  -- all are noted
  pub passed_end : (i : ℕ) (l s : List ℕ) → length xs ≤ i → Passed i l s → Notes (all t xs) (flat f xs) l₀ s₀ l s true
  passed_end i l s h p = record {
    good = ap (all t) (sym (drop_of_length-le xs h)) ∙ p.good;
    is = λ z. subst (λ (ys : List A). Turned (flat f ys) l₀ s₀ l s) (take_all i xs h) p.is;
  }

-- ---- the loop over the units of a page
module _ (limit n p : ℕ) (b l₀ s₀ : List ℕ) where
  abbrev units : List (Option U.Unit)
  units = decodes limit n b

  abbrev pub Noting : ℕ → List ℕ → List ℕ → Type 0
  Noting i l s = Passed is_good (λ (d : Option U.Unit). event_at p d ∷ []) units l₀ s₀ i l s

  abbrev pub Noted : List ℕ → List ℕ → Bool → Type 0
  Noted l s a = Notes (all is_good units) (map (event_at p) units) l₀ s₀ l s a

  pub noting_start : Noting 0 l₀ s₀
  noting_start = passed_start is_good (λ d. event_at p d ∷ []) units l₀ s₀

  module _ (i : ℕ) (l s : List ℕ) (d : Option U.Unit) (h : i < n) (k : Noting i l s) (e : d ≡ decode limit (take (length b - 12 * i) (drop (12 * i) b))) where
    this : get_or units i None ≡ d
    this =
        decodes_at limit n i b h
        ∙ sym (e ∙ ap (decode limit) (take_all (length b - 12 * i) (drop (12 * i) b) (omega (arith, length-drop (12 * i) b))))

    fits : i < length units
    fits = rw length_decodes h

    pub noting_next : (r t : List ℕ) (u : U.Unit) → d ≡ Some u → Becomes u.node (listed u.update p) l s r t → Noting (i + 1) r t
    noting_next r t u q c =
        passed_next is_good (λ x. event_at p x ∷ []) units l₀ s₀ None i l s fits k r t (ap is_good (this ∙ q))
        (turned_unit p u (get_or units i None) l s r t (this ∙ q) c)

    pub noting_stop : d ≡ None → Noted l s false
    noting_stop q =
        rw (← flat_events p units)
        (passed_stop is_good (λ x. event_at p x ∷ []) units l₀ s₀ None i l s fits k (ap is_good (this ∙ q)))

  pub noting_end : (i : ℕ) (l s : List ℕ) → n ≤ i → Noting i l s → Noted l s true
  noting_end i l s h k =
      let g : length units ≤ i = rw length_decodes h in
      rw (← flat_events p units) (passed_end is_good (λ x. event_at p x ∷ []) units l₀ s₀ i l s g k)

-- ---- a page
-- the units of a page are those behind its header
pub page_noted : (limit p n : ℕ) (page l s r t : List ℕ) (a : Bool) → n ≡ half page 6
    → Noted limit n p (take (length page - 8) (drop 8 page)) l s r t a
    → Notes (all is_sound (events_of limit (record { place = p; bytes = page }))) (events_of limit (record { place = p; bytes = page })) l s r t a
unfolding events_of
page_noted limit p n page l s r t a e k =
    let b : List ℕ = take (length page - 8) (drop 8 page) in
    let q : map (event_at p) (decodes limit n b) ≡ map (event_at p) (decodes limit (half page 6) (drop 8 page)) =
    ap₂ (λ (m : ℕ) (x : List ℕ). map (event_at p) (decodes limit m x)) e (take_all (length page - 8) (drop 8 page) (omega (arith, length-drop 8 page))) in
    same_notes (sym (sound_events p (decodes limit n b)) ∙ ap (all is_sound) q) q k

-- the page at a place of an image
module _ (g : Geometry) (image : List ℕ) (p limit : ℕ) where
  abbrev AtPlace : List ℕ → List ℕ → List ℕ → List ℕ → Bool → Type 0
  AtPlace l s r t a = Notes (is_readable g image p && all is_sound (events_of limit (page_at g image p))) (events_of limit (page_at g image p)) l s r t a

  abbrev start : ℕ
  start = p * page_size g

  -- its data as the code lends it
  abbrev lent : List ℕ
  lent = part start (start + g.area - start) image

  -- not on the chip
  pub place_off : {l s r t : List ℕ} → length image / page_size g ≤ p → AtPlace l s r t false
  unfolding is_readable
  place_off h = not_noted (rw (length_pages g image, le-ltb p (length image / page_size g) h))

  module _ (on : p < length image / page_size g) (n : ℕ) (en : n ≡ half lent 6) where
    -- its data as a part of the image
    bytes : lent ≡ (page_at g image p).bytes
    bytes =
        ap (λ (k : ℕ). part start k image) (add-sub_cancel_left start g.area)
        ∙ sym (ap (take g.area) (page_at_lem g image p on) ∙ take-take g.area (page_size g) (drop start image) (omega arith))

    count : n ≡ half (page_at g image p).bytes 6
    count = en ∙ ap (λ (b : List ℕ). half b 6) bytes

    -- too many units
    pub place_many : {l s r t : List ℕ} → g.units < n → AtPlace l s r t false
    unfolding is_readable
    place_many h = not_noted (rw (length_pages g image, lt-ltb p (length image / page_size g) on, ← count, lt-leb n g.units h))

    -- its units are noted
    pub place_noted : (l s r t : List ℕ) (a : Bool) → n ≤ g.units
        → Notes (all is_sound (events_of limit (record { place = p; bytes = lent }))) (events_of limit (record { place = p; bytes = lent })) l s r t a
        → AtPlace l s r t a
    unfolding is_readable
    place_noted l s r t a h k =
        let q : events_of limit (record { place = p; bytes = lent }) ≡ events_of limit (page_at g image p) =
        ap (λ (b : List ℕ). events_of limit (record { place = p; bytes = b })) bytes in
        same_notes (ap (all is_sound) q ∙ rw (length_pages g image, lt-ltb p (length image / page_size g) on, ← count, le-leb n g.units h)) q k

-- ---- the pages of keys
module _ (g : Geometry) (image : List ℕ) (limit : ℕ) where
  -- the units of the page of a key, and whether they can be noted
  abbrev pub key_units : ℕ → List Event
  key_units k = events_of limit (page_at g image (k % most_pages))

  abbrev pub key_passes : ℕ → Bool
  key_passes k = is_readable g image (k % most_pages) && all is_sound (key_units k)

  keys_units : (ks : List ℕ) → flat key_units ks ≡ events limit (pages_at g image ks)
  keys_units [] = refl
  keys_units (k ∷ ks) = ap (λ (es : List Event). key_units k ++ es) (keys_units ks)

  keys_pass : (ks : List ℕ) → all key_passes ks ≡ (all_readable g image ks && all is_sound (events limit (pages_at g image ks)))
  keys_pass [] = refl
  keys_pass (k ∷ ks) =
      ap (λ (b : Bool). key_passes k && b) (keys_pass ks)
      ∙ and_swap (is_readable g image (k % most_pages)) (all is_sound (key_units k)) (all_readable g image ks) (all is_sound (events limit (pages_at g image ks)))
      ∙ ap (λ (b : Bool). (is_readable g image (k % most_pages) && all_readable g image ks) && b) (sym (all_append is_sound (key_units k) (events limit (pages_at g image ks))))

  -- the loop over the keys
  module _ (keys l₀ s₀ : List ℕ) where
    abbrev pub Passing : ℕ → List ℕ → List ℕ → Type 0
    Passing i l s = Passed key_passes key_units keys l₀ s₀ i l s

    pub passing_start : Passing 0 l₀ s₀
    passing_start = passed_start key_passes key_units keys l₀ s₀

    module _ (i : ℕ) (l s : List ℕ) (h : i < length keys) (k : Passing i l s) (r u : List ℕ) (a : Bool)
        (n : Notes (key_passes (get_or keys i 0)) (key_units (get_or keys i 0)) l s r u a) where
      pub passing_next : a ≡ true → Passing (i + 1) r u
      passing_next e = passed_next key_passes key_units keys l₀ s₀ 0 i l s h k r u (sym n.good ∙ e) (n.is e)

      pub passing_stop : a ≡ false → Passes g image keys limit l₀ s₀ r u false
      passing_stop e = same_notes (keys_pass keys) (keys_units keys) (passed_stop key_passes key_units keys l₀ s₀ 0 i l s h k (sym n.good ∙ e))

    pub passing_end : (i : ℕ) (l s : List ℕ) → length keys ≤ i → Passing i l s → Passes g image keys limit l₀ s₀ l s true
    passing_end i l s h k = same_notes (keys_pass keys) (keys_units keys) (passed_end key_passes key_units keys l₀ s₀ i l s h k)

-- ---- a pass from the empty table
pub cleared : (n : ℕ) (s : List ℕ) (m : ℕ) → m < n → Stores (replicate n 0) s m []
cleared n s m h =
    let e : ◌≡◌ {A = ℕ} (get_or (replicate n 0) m 0) 0 = get_or-replicate {A = ℕ} n m 0 0 h in
    record { size = e; pages = λ k. ap (λ (i : ℕ). take i (part (4 * m) 4 s)) e }
