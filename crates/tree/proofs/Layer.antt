-- One level of nodes put above the entries of a shape. Assumes nothing.
use mathlib.Core.Path.{◌≡◌, refl, sym, ap, ◌∙◌, subst}
use mathlib.Core.Logic.{⊎_elim}
use mathlib.Core.List.{List, [], ◌∷◌, ◌++◌, map}
use Prim.Native.Nat.{ℕ, zero, suc, ◌+◌, ◌<◌, ◌≤◌}
use native.Mathlib.Omega.{arith}
use lib.ListN.{length, take, drop, take-append-drop, length-take, length-drop, length-map}
use Rattle.lists.proofs.Tests.{below_or_not}
use Rattle.lists.proofs.Flats.{map_drop}
use Rattle.views.specs.Nodes.{Entry, view}
use Rattle.tree.specs.Tree.{there, Table, at, put, next, first_key}
use Rattle.tree.specs.Step6.{top, times}
use Rattle.tree.specs.Rebuild.{put_nodes, entries_above}
use Rattle.tree.proofs.Entries.{Between, between_le, between_down, between_lt, between_left, between_right}
use Rattle.tree.proofs.Tables.{hit, at_same, at_other, at_beyond, there_new, next_put}
use Rattle.tree.proofs.Shape.{Kid, Shape, number, entry_of, tops, rest, nums, recs, nums_of, recs_of, start_of, Starts, Kids, Inner, Sub, times_append, hit_other, kids_left, kids_right, start_first, Agree, kids_frame, sub_frame, inner_out}
use Rattle.tree.proofs.Parts.{lower_s, upper_s, lower_number, lower_tops, upper_tops, cut_recs, cut_rest}
use Rattle.tree.proofs.EvenParts.{PartsOf}

-- what is below the entries, of which there may be none
abbrev pub FirstAt : {A : Type 0} → ℕ → List (Kid A) → Type 0
FirstAt lo [] = Unit {0}
FirstAt lo (x ∷ xs) = x.key ≡ lo

abbrev pub Lower : Table → (l lo hi : ℕ) → Shape l → Type 0
Lower t zero lo hi s = Unit {0}
Lower t (suc l) lo hi s = FirstAt lo s.kids × Kids (Sub 16 t l) hi s.kids

starts_begin : {A : Type 0} (lo : ℕ) (xs : List (Kid A)) → Starts lo xs → FirstAt lo xs
starts_begin lo [] h = tt
starts_begin lo (x ∷ xs) h = h

begin_starts : {A : Type 0} (lo : ℕ) (xs : List (Kid A)) → 0 < length xs → FirstAt lo xs → Starts lo xs
begin_starts lo [] g h = absurd (omega arith)
begin_starts lo (x ∷ xs) g h = h

begin_front : {A : Type 0} (lo q : ℕ) (xs : List (Kid A)) → FirstAt lo xs → FirstAt lo (take q xs)
begin_front lo zero xs h = tt
begin_front lo (suc q) [] h = tt
begin_front lo (suc q) (x ∷ xs) h = h

begin_at : {A : Type 0} (d : ℕ) (xs : List (Kid A)) → FirstAt (start_of d xs) xs
begin_at d [] = tt
begin_at d (x ∷ xs) = refl

pub inner_lower : (t : Table) (l lo hi : ℕ) (s : Shape l) → Inner t l lo hi s → Lower t l lo hi s
inner_lower t zero lo hi s h = tt
inner_lower t (suc l) lo hi s h = (starts_begin lo s.kids h.0, h.1)

lower_inner : (t : Table) (l lo hi : ℕ) (s : Shape l) → 0 < length (tops l s) → Lower t l lo hi s → Inner t l lo hi s
lower_inner t zero lo hi s g h = tt
lower_inner t (suc l) lo hi s g h = (begin_starts lo s.kids (omega (arith, length-map s.kids (entry_of l))) h.0, h.1)

lower_frame : (t u : Table) (l lo hi : ℕ) (s : Shape l) → Agree t u (rest l s) → Lower t l lo hi s → Lower u l lo hi s
lower_frame t u zero lo hi s g h = tt
lower_frame t u (suc l) lo hi s g h = (h.0, kids_frame t u l (sub_frame 16 t u l) hi s.kids g h.1)

some_out : (t : Table) (l lo hi m n : ℕ) (xs : List (Kid (Shape l))) → FirstAt lo xs → Kids (Sub 16 t l) hi xs → there (at t m) ≡ 0 → times m (nums_of l xs) ≡ 0
some_out t l lo hi m n [] b h g = refl
some_out t l lo hi m n (x ∷ xs) b h g = inner_out t (suc l) lo hi m (record { number = n; kids = x ∷ xs }) (b, h) g

lower_out : (t : Table) (l lo hi m : ℕ) (s : Shape l) → Lower t l lo hi s → there (at t m) ≡ 0 → times m (rest l s) ≡ 0
lower_out t zero lo hi m s h g = refl
lower_out t (suc l) lo hi m s h g = some_out t l lo hi m 0 s.kids h.0 h.1 g

lower_parts : (t : Table) (l lo hi n q : ℕ) (s : Shape l) → Lower t l lo hi s
    → Lower t l lo (first_key hi (drop q (tops l s))) (lower_s l q n s) × Lower t l (first_key hi (drop q (tops l s))) hi (upper_s l q 0 s)
lower_parts t zero lo hi n q s h = (tt, tt)
lower_parts t (suc l) lo hi n q s h =
    let ks = s.kids in
    let a : Kids (Sub 16 t l) hi (take q ks ++ drop q ks) = rw (take-append-drop q ks) h.1 in
    let d : first_key hi (drop q (map (entry_of l) ks)) ≡ start_of hi (drop q ks) = rw (← map_drop, start_first) in
    rw d (
      (begin_front lo q ks h.0, kids_left (Sub 16 t l) hi (take q ks) (drop q ks) a),
      (begin_at hi (drop q ks), kids_right (Sub 16 t l) hi (take q ks) (drop q ks) a),
    )

-- ---- the kids one level higher
abbrev pub kids_from : (l lo x : ℕ) → List ℕ → Shape l → List (Kid (Shape l))
kids_from l lo x [] s = []
kids_from l lo x (q ∷ qs) s = record { key = lo; sub = lower_s l q x s } ∷ kids_from l (first_key top (drop q (tops l s))) (suc x) qs (upper_s l q 0 s)

pub kids_above : (l lo x : ℕ) (qs : List ℕ) (s : Shape l) → map (entry_of l) (kids_from l lo x qs s) ≡ entries_above lo x qs (tops l s)
kids_above l lo x [] s = refl
kids_above l lo x (q ∷ qs) s = rw (lower_number l q x s, kids_above l (first_key top (drop q (tops l s))) (suc x) qs (upper_s l q 0 s), upper_tops l q 0 s)

no_first : (es : List Entry) → length es ≡ 0 → first_key top es ≡ top
no_first [] h = refl
no_first (e ∷ es) h = absurd (omega arith)

kids_start : (l x a b : ℕ) (qs : List ℕ) (s : Shape l) (es : List Entry) → PartsOf a b qs (length es) → start_of top (kids_from l (first_key top es) x qs s) ≡ first_key top es
kids_start l x a b [] s es c = sym (no_first es c)
kids_start l x a b (q ∷ qs) s es c = refl

no_recs : (l : ℕ) (xs : List (Kid (Shape l))) → length xs ≡ 0 → (recs_of l xs ≡ []) × (nums_of l xs ≡ [])
no_recs l [] h = (refl, refl)
no_recs l (x ∷ xs) h = absurd (omega arith)

no_entries : (es : List Entry) → length es ≡ 0 → es ≡ []
no_entries [] h = refl
no_entries (e ∷ es) h = absurd (omega arith)

none_left : (l : ℕ) (s : Shape l) → length (tops l s) ≡ 0 → (recs l s ≡ []) × (rest l s ≡ [])
none_left zero s h = (no_entries s.entries h, refl)
none_left (suc l) s h = no_recs l s.kids (sym (length-map s.kids (entry_of l)) ∙ h)

-- the nodes from x on are put above the entries of s in table t
pub record NodesPut (t u : Table) (l lo x : ℕ) (qs : List ℕ) (s : Shape l) : Type 0 where
  pub kids : Kids (Sub 16 u l) top (kids_from l lo x qs s)
  pub keys : Between lo top (map (entry_of l) (kids_from l lo x qs s))
  pub records : recs_of l (kids_from l lo x qs s) ≡ recs l s
  pub counts : (j : ℕ) → times j (nums_of l (kids_from l lo x qs s)) + there (at t j) ≡ times j (rest l s) + there (at u j)
  pub frame : (j : ℕ) → j < x → at u j ≡ at t j

-- one node, and those after it
module _ (t u : Table) (l lo x q : ℕ) (qs : List ℕ) (s : Shape l) (c : PartsOf 1 16 (q ∷ qs) (length (tops l s))) (nx : next t ≤ x)
    (low : Lower t l lo top s) (keys : Between lo top (tops l s)) where
  abbrev es : List Entry
  es = tops l s

  abbrev mid : ℕ
  mid = first_key top (drop q es)

  abbrev t₁ : Table
  t₁ = put x (view l (take q es)) t

  free : there (at t x) ≡ 0
  free = at_beyond t x nx

  far : (m : ℕ) → x ≤ m → times m (rest l s) ≡ 0
  far m h = lower_out t l lo top m s low (at_beyond t m (omega arith))

  agree : Agree t t₁ (rest l s)
  agree m p = at_other x m (view l (take q es)) t (λ e. omega (arith, far m (omega arith)))

  parted : Lower t₁ l lo mid (lower_s l q x s) × Lower t₁ l mid top (upper_s l q 0 s)
  parted = lower_parts t₁ l lo top x q s (lower_frame t t₁ l lo top s agree low)

  whole : Between lo top (take q es ++ drop q es)
  whole = rw take-append-drop keys

  taken : length (take q es) ≡ q
  taken = length-take q es ∙ omega (arith, c.0.most)

  first_sub : Sub 16 t₁ l lo mid (lower_s l q x s)
  first_sub = (
    record {
      is = rw (lower_number l q x s, lower_tops l q x s) (at_same x (view l (take q es)) t);
      keys = rw (lower_tops l q x s) (between_left lo top (take q es) (drop q es) whole);
      size = rw (lower_tops l q x s) (omega (arith, taken, c.0.high));
    },
    lower_inner t₁ l lo mid (lower_s l q x s) (rw (lower_tops l q x s) (omega (arith, taken, c.0.low))) parted.0,
  )

  rest_keys : Between mid top (tops l (upper_s l q 0 s))
  rest_keys = rw (upper_tops l q 0 s) (between_right lo top (take q es) (drop q es) whole)

  rest_cut : PartsOf 1 16 qs (length (tops l (upper_s l q 0 s)))
  rest_cut = rw (upper_tops l q 0 s, length-drop q es) c.1

  rest_next : next t₁ ≤ suc x
  rest_next = omega (arith, next_put x l (take q es) t)

  start : start_of top (kids_from l mid (suc x) qs (upper_s l q 0 s)) ≡ mid
  start = kids_start l (suc x) 1 16 qs (upper_s l q 0 s) (drop q es) (rw (length-drop q es) c.1)

  one_more : NodesPut t₁ u l mid (suc x) qs (upper_s l q 0 s) → NodesPut t u l lo x (q ∷ qs) s
  one_more L =
      let f = lower_s l q x s in
      let xs = kids_from l mid (suc x) qs (upper_s l q 0 s) in
      let hold : Agree t₁ u (nums l f) = λ m p. ⊎_elim
      (λ (h : m < suc x). L.frame m h)
      (λ (h : suc x ≤ m). absurd (omega (arith, cut_rest l q x 0 m s, far m (omega arith), lower_number l q x s, hit_other (number l f) m (λ e. omega (arith, lower_number l q x s)))))
      (below_or_not m (suc x)) in
      record {
        kids = (rw start (sub_frame 16 t₁ u l lo mid f hold first_sub), L.kids);
        keys = (
          omega arith,
          between_down (suc lo) mid top (map (entry_of l) xs)
              (between_lt lo mid (take q es) (omega (arith, taken, c.0.low)) (between_left lo top (take q es) (drop q es) whole))
              L.keys,
        );
        records = rw L.records (cut_recs l q x 0 s);
        counts = λ j.
            omega (
              arith,
              L.counts j,
              cut_rest l q x 0 j s,
              there_new x j l (take q es) t free,
              times_append j (nums l f) (nums_of l xs),
              ap (λ (i : ℕ). hit i j) (lower_number l q x s),
            );
        frame = λ j h. L.frame j (omega arith) ∙ at_other x j (view l (take q es)) t (λ e. omega arith);
      }

pub nodes_put : (l lo x : ℕ) (qs : List ℕ) (s : Shape l) (t : Table) → PartsOf 1 16 qs (length (tops l s)) → next t ≤ x → Lower t l lo top s → Between lo top (tops l s)
    → NodesPut t (put_nodes l x qs (tops l s) t) l lo x qs s
nodes_put l lo x [] s t c nx low keys =
    let z = none_left l s c in
    record {
      kids = tt;
      keys = between_le lo top (tops l s) keys;
      records = sym z.0;
      counts = λ j. omega (arith, ap (times j) z.1);
      frame = λ j h. refl;
    }
nodes_put l lo x (q ∷ qs) s t c nx low keys =
    let m = first_key top (drop q (tops l s)) in
    let t₁ = put x (view l (take q (tops l s))) t in
    one_more t (put_nodes l (suc x) qs (drop q (tops l s)) t₁) l lo x q qs s c nx low keys
    (subst (λ (ds : List Entry). NodesPut t₁ (put_nodes l (suc x) qs ds t₁) l m (suc x) qs (upper_s l q 0 s)) (upper_tops l q 0 s)
    (nodes_put l m (suc x) qs (upper_s l q 0 s) t₁
    (rest_cut t t l lo x q qs s c nx low keys)
    (rest_next t t l lo x q qs s c nx low keys)
    (parted t t l lo x q qs s c nx low keys).1
    (rest_keys t t l lo x q qs s c nx low keys)))
