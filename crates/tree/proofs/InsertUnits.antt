-- The units of an insert that takes the least numbers make its table: at most 60, each of a node of that table. Assumes nothing.
use mathlib.Core.Path.{◌≡◌, refl, ap, ◌∙◌, subst}
use mathlib.Core.Logic.{◌⊎◌, inl, inr, ⊎_elim}
use mathlib.Core.List.{List, [], ◌∷◌, ◌++◌, map, append-nil}
use Prim.Native.Nat.{ℕ, zero, suc, ◌+◌, ◌*◌, ◌<◌, ◌≤◌}
use native.Mathlib.Omega.{arith}
use lib.ListN.{length, take, drop, length-append, length-map, take-append-drop, length-take, length-drop}
use borrow.Author.Tests.{ne_eqb, le-leb, lt-leb}
use Rattle.lists.specs.Lists.{All, none, more}
use Rattle.lists.proofs.Alls.{All-map, All-append, All-take, All-drop}
use Rattle.lists.proofs.Tests.{below_or_not, same_or_not}
use Rattle.pages.specs.declared.unit.Update.TheVariants.{Insert, Reset}
use Rattle.pages.specs.declared.unit.Unit as U
use Rattle.pages.proofs.UnitLaws.{level_value}
use Rattle.views.specs.Nodes.{Entry, entry, View, view, apply, insert_entry, inserted as insertOf, anew}
use Rattle.views.specs.Groups.{unit_for}
use Rattle.views.proofs.Entries.{insert_most}
use Rattle.tree.specs.Tree.{level_of, entries_of, there, Table, at, put, next, root_level, first_key, least, least2}
use Rattle.tree.specs.Step6.{top, times, Tree}
use Rattle.tree.specs.Insert.{Up, stop, gains, table_of, halve, raise, fit_or_split, gain, pass, insert_at, inserted}
use Rattle.tree.specs.Units.{anew_at, after_units}
use Rattle.tree.specs.InsertUnits.{halve_units, raise_units, hold_units, gain_units, pass_units, insert_units_at, insert_units}
use Rattle.tree.proofs.Entries.{Between, between_left, between_right, between_lt, first_key_lem, insert_step}
use Rattle.tree.proofs.Tables.{at_same, at_other, there_below}
use Rattle.tree.proofs.Shape.{Leaf, Kid, Shape, number, nums, start_of, Sub, hit_same, hit_zero, there_le}
use Rattle.tree.proofs.Children.{Grown, Gaining, gaining, Under, under, under_sub, under_count}
use Rattle.tree.proofs.Validity.{Small, Smalls, ValidUpdates, Valids, valid_below, after_small, valid_map, valid_inserted, small_insert, small_key}
use Rattle.tree.proofs.Shaped.{level_at, at_root}
use Rattle.tree.proofs.Step6.{shape_of}
use Rattle.tree.proofs.UnitLaws.{touch_all, touches, then, anew_view}
use Rattle.tree.proofs.Pairs.{Known, known_map}
use Rattle.tree.proofs.Least.{next_fewer}
use Rattle.tree.proofs.InsertAt.{inserts}

-- a node written anew, whether it was there or not
module _ (l n : ℕ) (es : List Entry) where
  anew_is : (lo hi : ℕ) (t : Table) → (l ≡ 255 → ⊥) → Between lo hi es → length es ≤ 16 → after_units (anew_at l n es) t ≡ put n (view l es) t
  unfolding after_units anew_at
  anew_is lo hi t d h g =
      touch_all n (map insertOf es) (apply (at t n) (Reset l)) t ∙ ap (λ (w : View). put n w t) (anew_view l lo hi es (at t n) d h g)

  anew_length : length (anew_at l n es) ≡ suc (length es)
  unfolding anew_at
  anew_length = length-map (anew l es) (unit_for n) ∙ ap suc (length-map es insertOf)

  anew_known : (t : Table) → there (at t n) ≡ 1 → Known t (anew_at l n es)
  unfolding anew_at
  anew_known t h = known_map t n (anew l es) h

-- the units of halves and of a new root obey the layout
anew_valid : (l n : ℕ) {es : List Entry} → l ≤ 3 → Small es → ValidUpdates (anew_at l n es)
unfolding anew_at
anew_valid l n {es} h s = valid_map n {us = anew l es} (more (level_value l h) (valid_inserted s))

halve_valid : (l : ℕ) (es : List Entry) → l ≤ 3 → Small es → (n m : ℕ) → ValidUpdates (halve_units l n m es)
unfolding halve_units
halve_valid l es h s n m = All-append (anew_valid l n h (All-take 9 s)) (anew_valid l m h (All-drop 9 s))

raise_valid : (l : ℕ) (es : List Entry) → l ≤ 3 → Small es → (m o : ℕ) → suc l ≤ 3 → m < top → o < top → ValidUpdates (raise_units l m o es)
unfolding raise_units
raise_valid l es h s m o g p q =
    let z : 0 < top = omega arith in
    All-append (halve_valid l es h s m o) (anew_valid (suc l) 0 g (more (z, p) (more (small_key (All-drop 9 s), q) none)))

one_valid : (n k v : ℕ) → k < top → v < top → ValidUpdates (unit_for n (Insert k v) ∷ [])
one_valid n k v p q = valid_map n {us = Insert k v ∷ []} (more (p, q) none)

-- what stays there
abbrev pub Stays : Table → Table → Type 0
Stays t u = (j : ℕ) → there (at t j) ≡ 1 → there (at u j) ≡ 1

pub put_stays : (n l : ℕ) (es : List Entry) (t : Table) → Stays t (put n (view l es) t)
put_stays n l es t j p = ⊎_elim (λ (e : n ≡ j). rw (← e, at_same)) (λ (e : n ≡ j → ⊥). rw (at_other n j (view l es) t e) p) (same_or_not n j)

put_there : (n l : ℕ) (es : List Entry) (t : Table) → there (at (put n (view l es) t) n) ≡ 1
put_there n l es t = ap there (at_same n (view l es) t)

-- how many units the halves of 17 entries are, and a new root with them
pub halve_length : (l n m : ℕ) (es : List Entry) → length es ≡ 17 → length (halve_units l n m es) ≡ 19
unfolding halve_units
halve_length l n m es h =
    length-append (anew_at l n (take 9 es)) (anew_at l m (drop 9 es))
    ∙ omega (arith, anew_length l n (take 9 es), anew_length l m (drop 9 es), length-take 9 es, length-drop 9 es)

pub raise_length : (l m o : ℕ) (es : List Entry) → length es ≡ 17 → length (raise_units l m o es) ≡ 22
unfolding raise_units
raise_length l m o es h =
    let new = entry 0 m ∷ entry (first_key 0 (drop 9 es)) o ∷ [] in
    length-append (halve_units l m o es) (anew_at (suc l) 0 new) ∙ omega (arith, halve_length l m o es h, anew_length (suc l) 0 new)

-- ---- a split: the 9 and the 8
module _ (l lo hi : ℕ) (es : List Entry) (h : Between lo hi es) (gt : 16 < length es) (le : length es ≤ 17) (d : l ≡ 255 → ⊥) where
  parts : Between lo hi (take 9 es ++ drop 9 es)
  parts = rw take-append-drop h

  few_low : length (take 9 es) ≡ 9
  few_low = rw length-take (omega arith)

  few_high : length (drop 9 es) ≡ 8
  few_high = rw length-drop (omega arith)

  mid_key : first_key hi (drop 9 es) ≡ first_key 0 (drop 9 es)
  mid_key = first_key_lem hi 0 (drop 9 es) (omega (arith, few_high))

  mid_over : lo < first_key 0 (drop 9 es)
  mid_over = rw mid_key at (between_lt lo (first_key hi (drop 9 es)) (take 9 es) (omega (arith, few_low)) (between_left lo hi (take 9 es) (drop 9 es) parts))

  pub halve_is : (n m : ℕ) (t : Table) → after_units (halve_units l n m es) t ≡ halve l n m es t
  unfolding halve_units halve
  halve_is n m t =
      let u = put n (view l (take 9 es)) t in
      then (anew_at l n (take 9 es)) (anew_at l m (drop 9 es)) t u (put m (view l (drop 9 es)) u)
      (anew_is l n (take 9 es) lo (first_key hi (drop 9 es)) t d (between_left lo hi (take 9 es) (drop 9 es) parts) (omega (arith, few_low)))
      (anew_is l m (drop 9 es) (first_key hi (drop 9 es)) hi u d (between_right lo hi (take 9 es) (drop 9 es) parts) (omega (arith, few_high)))

  halve_known : (n m : ℕ) (t : Table) → there (at t n) ≡ 1 → there (at t m) ≡ 1 → Known t (halve_units l n m es)
  unfolding halve_units
  halve_known n m t p q = All-append (anew_known l n (take 9 es) t p) (anew_known l m (drop 9 es) t q)

  pub raise_is : (d' : suc l ≡ 255 → ⊥) (m o : ℕ) (t : Table) → after_units (raise_units l m o es) t ≡ raise l m o es t
  unfolding raise_units raise halve
  raise_is d' m o t =
      let new = entry 0 m ∷ entry (first_key 0 (drop 9 es)) o ∷ [] in
      let u = halve l m o es t in
      then (halve_units l m o es) (anew_at (suc l) 0 new) t u (put 0 (view (suc l) new) u) (halve_is m o t)
      (anew_is (suc l) 0 new 0 (suc (first_key 0 (drop 9 es))) u d' (omega arith, (omega (arith, mid_over), omega arith)) (omega arith))

  raise_known : (m o : ℕ) (t : Table) → there (at t m) ≡ 1 → there (at t o) ≡ 1 → there (at t 0) ≡ 1 → Known t (raise_units l m o es)
  unfolding raise_units
  raise_known m o t p q r = All-append (halve_known m o t p q) (anew_known (suc l) 0 (entry 0 m ∷ entry (first_key 0 (drop 9 es)) o ∷ []) t r)

-- the units that the last node needs
abbrev pub unit_room : Up → ℕ
unit_room (stop t) = 1
unit_room (gains k m t) = 19

-- key and number of the entry that the parent gains fit 32 bits
abbrev pub UpSmall : Up → Type 0
UpSmall (stop t) = Unit {0}
UpSmall (gains k m t) = (k < top) × (m < top)

-- ---- what the units of an insert under a node do, l levels down
pub record Made (k v : ℕ) (t : Table) (l : ℕ) (us : List U.Unit) (r : Up) : Type 0 where
  pub is : after_units us t ≡ table_of r
  pub few : length us ≤ 19 * l + unit_room r
  pub known : Known (table_of r) us
  pub keeps : (j : ℕ) → there (at t j) ≡ 1 → there (at (table_of r) j) ≡ 1
  pub obeys : k < top → v < top → Smalls t → next (table_of r) ≤ top → ValidUpdates us × UpSmall r

pub one_unit : (l n k v : ℕ) (t : Table) (es : List Entry) → at t n ≡ view l es → length (insert_entry k v es) ≤ 16
    → after_units (unit_for n (Insert k v) ∷ []) t ≡ put n (view l (insert_entry k v es)) t
one_unit l n k v t es e q =
    touches n (Insert k v ∷ []) t (ap there e) ∙ ap (λ (w : View). put n (apply w (Insert k v)) t) e ∙ rw (le-leb (length (insert_entry k v es)) 16 q)

pub halve_stays : (l n m : ℕ) (es : List Entry) (t : Table) → Stays t (halve l n m es t) × (there (at (halve l n m es t) n) ≡ 1) × (there (at (halve l n m es t) m) ≡ 1)
unfolding halve
halve_stays l n m es t =
    let u = put n (view l (take 9 es)) t in (
      λ j p. put_stays m l (drop 9 es) u j (put_stays n l (take 9 es) t j p),
      put_stays m l (drop 9 es) u n (put_there n l (take 9 es) t),
      put_there m l (drop 9 es) u,
    )

pub raise_stays : (l m o : ℕ) (es : List Entry) (t : Table) → Stays t (raise l m o es t) × (there (at (raise l m o es t) m) ≡ 1) × (there (at (raise l m o es t) o) ≡ 1)
    × (there (at (raise l m o es t) 0) ≡ 1) × (root_level (raise l m o es t) ≡ suc l)
unfolding raise halve
raise_stays l m o es t =
    let new = entry 0 m ∷ entry (first_key 0 (drop 9 es)) o ∷ [] in
    let u = put m (view l (take 9 es)) t in
    let w = put o (view l (drop 9 es)) u in (
      λ j p. put_stays 0 (suc l) new w j (put_stays o l (drop 9 es) u j (put_stays m l (take 9 es) t j p)),
      put_stays 0 (suc l) new w m (put_stays o l (drop 9 es) u m (put_there m l (take 9 es) t)),
      put_stays 0 (suc l) new w o (put_there o l (drop 9 es) u),
      put_there 0 (suc l) new w,
      ap level_of (at_same 0 (view (suc l) new) w),
    )

-- node n but node 0 gains an entry
pub gain_made : (l n k v lo hi : ℕ) (t : Table) → (n ≡ 0 → ⊥) → l ≤ 3 → Gaining t l n k v lo hi → Made k v t 0 (gain_units l n k v t) (gain l n k v t)
unfolding gain_units hold_units gain fit_or_split
gain_made l n k v lo hi t z b G =
    let e = G.is in
    let d : (l ≡ 255 → ⊥) = λ z. omega arith in
    let sm : k < top → v < top → Smalls t → Small (insert_entry k v G.entries) = λ hk hv ts. small_insert k v hk hv (subst (λ (w : View). Small (entries_of w)) e (ts n)) in
    let new = insert_entry k v G.entries in
    ⊎_elim
    (λ (q : 16 < length new).
    let S = halve_stays l n (least t) new t in
    rw (e, lt-leb (length new) 16 q, ne_eqb n 0 z)
    (record {
      is = halve_is l lo hi new G.keys q G.size d n (least t) t;
      few = omega (arith, halve_length l n (least t) new (omega (arith, G.size)));
      known = halve_known l lo hi new G.keys q G.size d n (least t) (halve l n (least t) new t) S.1 S.2;
      keeps = S.0;
      obeys = λ hk hv ts nx.
          let s = sm hk hv ts in
          let m : least t < top = omega (arith, there_below (halve l n (least t) new t) (least t) S.2) in
          (halve_valid l new b s n (least t), (small_key (All-drop 9 s), m));
    }))
    (λ (q : length new ≤ 16).
    rw (e, le-leb (length new) 16 q)
    (record {
      is = one_unit l n k v t G.entries e q;
      few = omega arith;
      known = more (put_there n l new t) none;
      keeps = put_stays n l new t;
      obeys = λ hk hv ts nx. (one_valid n k v hk hv, tt);
    }))
    (below_or_not 16 (length new))

-- the parent's units after its child's
after_child : (i j : ℕ) (t : Table) (l k m : ℕ) (u : Table) (xs ys : List U.Unit) (r : Up) → Made i j t l xs (gains k m u) → Made k m u 0 ys r → Made i j t (suc l) (xs ++ ys) r
after_child i j t l k m u xs ys r a b = record {
  is = then xs ys t u (table_of r) a.is b.is;
  few = rw length-append (omega (arith, a.few, b.few));
  known = All-append (All-map (λ x p. b.keeps x.node p) a.known) b.known;
  keeps = λ j p. b.keeps j (a.keeps j p);
  obeys = λ hk hv ts nx.
      let A = a.obeys hk hv ts (omega (arith, next_fewer (table_of r) u b.keeps)) in
      let B = b.obeys A.1.0 A.1.1 (after_small xs t u a.is A.0 ts) nx in
      (All-append A.0 B.0, B.1);
}

rest_made : (i j : ℕ) (t : Table) (l : ℕ) (u : Table) (xs : List U.Unit) → Made i j t l xs (stop u) → Made i j t (suc l) (xs ++ []) (stop u)
rest_made i j t l u xs a = rw append-nil (record { is = a.is; few = omega (arith, a.few); known = a.known; keeps = a.keeps; obeys = a.obeys })

-- what a parent is when its child has split
abbrev pub Gives : Up → ℕ → ℕ → ℕ → ℕ → Type 0
Gives r l n lo hi = (k m : ℕ) (u : Table) → r ≡ gains k m u → Gaining u l n k m lo hi

pass_made : (i j : ℕ) (t : Table) (l lo hi n : ℕ) (xs : List U.Unit) (r : Up) → (n ≡ 0 → ⊥) → suc l ≤ 3 → Made i j t l xs r → Gives r (suc l) n lo hi
    → Made i j t (suc l) (xs ++ pass_units (suc l) n r) (pass (suc l) n r)
pass_made i j t l lo hi n xs (stop u) z d a g = rest_made i j t l u xs a
pass_made i j t l lo hi n xs (gains k m u) z d a g =
    after_child i j t l k m u xs (gain_units (suc l) n k m u) (gain (suc l) n k m u) a (gain_made (suc l) n k m lo hi u z d (g k m u refl))

pub gives : (k v : ℕ) (t : Table) (l lo hi n : ℕ) (ks : List (Kid (Shape l))) (w : Under t l lo hi n k ks)
    → ((j : ℕ) → times j (nums (suc l) (record { number = n; kids = ks })) ≤ 1)
    → (r : Up) → Grown (insert_entry k v) t r l w.kid.key (start_of hi w.after) w.kid.sub → Gives r (suc l) n lo hi
gives k v t l lo hi n ks w once r g k' m u e =
    gaining k (insert_entry k v) (insert_step k v) t l lo hi n ks w once k' m u
    (subst (λ (q : Up). Grown (insert_entry k v) t q l w.kid.key (start_of hi w.after) w.kid.sub) e g)

pub leaf_gains : (k v : ℕ) (t : Table) (lo hi : ℕ) (s : Leaf) → Sub 16 t 0 lo hi s → lo ≤ k → k < hi → Gaining t 0 s.number k v lo hi
leaf_gains k v t lo hi s h low high = record {
  entries = s.entries;
  is = h.0.is;
  keys = (insert_step k v).keeps lo hi s.entries low high h.0.keys;
  size = omega (arith, insert_most k v s.entries, h.0.size);
}

-- under any node but node 0
module _ (k v : ℕ) (t : Table) where
  branch_made : (l lo hi n : ℕ) (ks : List (Kid (Shape l))) (w : Under t l lo hi n k ks)
      → ((j : ℕ) → times j (nums (suc l) (record { number = n; kids = ks })) ≤ 1) → (n ≡ 0 → ⊥) → suc l ≤ 3
      → Grown (insert_entry k v) t (insert_at l (number l w.kid.sub) k v t) l w.kid.key (start_of hi w.after) w.kid.sub
      → Made k v t l (insert_units_at l (number l w.kid.sub) k v t) (insert_at l (number l w.kid.sub) k v t)
      → Made k v t (suc l) (insert_units_at (suc l) n k v t) (insert_at (suc l) n k v t)
  unfolding insert_units_at insert_at
  branch_made l lo hi n ks w once z d g a =
      let c = number l w.kid.sub in
      rw w.child (pass_made k v t l lo hi n (insert_units_at l c k v t) (insert_at l c k v t) z d a (gives k v t l lo hi n ks w once (insert_at l c k v t) g))

  made : (l lo hi : ℕ) (s : Shape l) → l ≤ 3 → Sub 16 t l lo hi s → ((j : ℕ) → times j (nums l s) ≤ 1) → times 0 (nums l s) ≡ 0 → lo ≤ k → k < hi
      → Made k v t l (insert_units_at l (number l s) k v t) (insert_at l (number l s) k v t)
  unfolding insert_units_at insert_at
  made zero lo hi s b h once z low high =
      gain_made 0 s.number k v lo hi t (hit_zero s.number 0 (omega arith)) (omega arith) (leaf_gains k v t lo hi s h low high)
  made (suc l) lo hi s b h once z low high = step (under t l lo hi s.number k s.kids h low high) (λ a b x. made l a b x)
    where
      step : (w : Under t l lo hi s.number k s.kids)
          → ((a b : ℕ) (x : Shape l) → l ≤ 3 → Sub 16 t l a b x → ((j : ℕ) → times j (nums l x) ≤ 1) → times 0 (nums l x) ≡ 0 → a ≤ k → k < b
          → Made k v t l (insert_units_at l (number l x) k v t) (insert_at l (number l x) k v t))
          → Made k v t (suc l) (insert_units_at (suc l) s.number k v t) (insert_at (suc l) s.number k v t)
      step w ih =
          let uc = under_count t l lo hi s.number k s.kids w in
          let sub = under_sub t l lo hi s.number k s.kids w in
          let o : (j : ℕ) → times j (nums l w.kid.sub) ≤ 1 = λ j. omega (arith, once j, uc j) in
          let z' : times 0 (nums l w.kid.sub) ≡ 0 = omega (arith, uc 0) in
          branch_made l lo hi s.number s.kids w once (hit_zero s.number 0 (omega arith)) b
          (inserts k v t l w.kid.key (start_of hi w.after) w.kid.sub sub o z' w.low w.high).grown
          (ih w.kid.key (start_of hi w.after) w.kid.sub (omega arith) sub o z' w.low w.high)

-- ---- at node 0: one unit, or 22 and the level rises
pub record RootGain (k v : ℕ) (t : Table) (l : ℕ) (us : List U.Unit) (u : Table) : Type 0 where
  pub is : after_units us t ≡ u
  pub few : (length us ≤ 1) ⊎ ((length us ≤ 22) × (root_level u ≡ suc l))
  pub known : Known u us
  pub keeps : (j : ℕ) → there (at t j) ≡ 1 → there (at u j) ≡ 1
  pub obeys : k < top → v < top → Smalls t → next u ≤ top → root_level u ≤ 3 → ValidUpdates us

pub root_gain : (l k v lo hi : ℕ) (t : Table) → l ≤ 3 → Gaining t l 0 k v lo hi → RootGain k v t l (gain_units l 0 k v t) (table_of (gain l 0 k v t))
unfolding gain_units hold_units gain fit_or_split
root_gain l k v lo hi t b G =
    let e = G.is in
    let sm : k < top → v < top → Smalls t → Small (insert_entry k v G.entries) = λ hk hv ts. small_insert k v hk hv (subst (λ (w : View). Small (entries_of w)) e (ts 0)) in
    let new = insert_entry k v G.entries in
    let m = least t in
    let o = least2 t in
    ⊎_elim
    (λ (q : 16 < length new).
    let S = raise_stays l m o new t in
    let d : (l ≡ 255 → ⊥) = λ z. omega arith in
    rw (e, lt-leb (length new) 16 q)
    (record {
      is = raise_is l lo hi new G.keys q G.size d (λ z. omega arith) m o t;
      few = inr (omega (arith, raise_length l m o new (omega (arith, G.size))), S.4);
      known = raise_known l lo hi new G.keys q G.size d m o (raise l m o new t) S.1 S.2 S.3;
      keeps = S.0;
      obeys = λ hk hv ts nx lv.
          raise_valid l new b (sm hk hv ts) m o (omega (arith, S.4))
          (omega (arith, there_below (raise l m o new t) m S.1)) (omega (arith, there_below (raise l m o new t) o S.2));
    }))
    (λ (q : length new ≤ 16).
    rw (e, le-leb (length new) 16 q)
    (record {
      is = one_unit l 0 k v t G.entries e q;
      few = inl (omega arith);
      known = more (put_there 0 l new t) none;
      keeps = put_stays 0 l new t;
      obeys = λ hk hv ts nx lv. one_valid 0 k v hk hv;
    }))
    (below_or_not 16 (length new))

record RootMade (k v : ℕ) (t : Table) (l : ℕ) (us : List U.Unit) (u : Table) : Type 0 where
  is : after_units us t ≡ u
  few : l ≤ 3 → root_level u ≤ 3 → length us ≤ 60
  known : Known u us
  keeps : (j : ℕ) → there (at t j) ≡ 1 → there (at u j) ≡ 1
  obeys : k < top → v < top → Smalls t → next u ≤ top → root_level u ≤ 3 → ValidUpdates us

root_leaf : (k v lo hi : ℕ) (t : Table) → Gaining t 0 0 k v lo hi → RootMade k v t 0 (gain_units 0 0 k v t) (table_of (gain 0 0 k v t))
root_leaf k v lo hi t G =
    let R = root_gain 0 k v lo hi t (omega arith) G in
    record { is = R.is; few = λ _ _. ⊎_elim (λ c. omega arith) (λ c. omega (arith, c.0)) R.few; known = R.known; keeps = R.keeps; obeys = R.obeys }

root_pass : (i j : ℕ) (t : Table) (l lo hi : ℕ) (xs : List U.Unit) (r : Up) → suc l ≤ 3 → Made i j t l xs r → Gives r (suc l) 0 lo hi
    → RootMade i j t (suc l) (xs ++ pass_units (suc l) 0 r) (table_of (pass (suc l) 0 r))
root_pass i j t l lo hi xs (stop u) b a g =
    let c = rest_made i j t l u xs a in
    record { is = c.is; few = λ p _. omega (arith, c.few); known = c.known; keeps = c.keeps; obeys = λ hk hv ts nx lv. (c.obeys hk hv ts nx).0 }
root_pass i j t l lo hi xs (gains k m u) b a g =
    let R = root_gain (suc l) k m lo hi u b (g k m u refl) in
    let ys = gain_units (suc l) 0 k m u in
    record {
      is = then xs ys t u (table_of (gain (suc l) 0 k m u)) a.is R.is;
      few = λ p q. rw length-append (⊎_elim (λ c. omega (arith, a.few)) (λ c. omega (arith, a.few, c.0, c.1)) R.few);
      known = All-append (All-map (λ x p. R.keeps x.node p) a.known) R.known;
      keeps = λ j p. R.keeps j (a.keeps j p);
      obeys = λ hk hv ts nx lv.
          let A = a.obeys hk hv ts (omega (arith, next_fewer (table_of (gain (suc l) 0 k m u)) u R.keeps)) in
          All-append A.0 (R.obeys A.1.0 A.1.1 (after_small xs t u a.is A.0 ts) nx lv);
    }

module _ (k v : ℕ) (t : Table) (high : k < top) where
  root_branch : (l : ℕ) (ks : List (Kid (Shape l))) (w : Under t l 0 top 0 k ks) → suc l ≤ 3 → ((j : ℕ) → times j (nums (suc l) (record { number = 0; kids = ks })) ≤ 1)
      → RootMade k v t (suc l) (insert_units_at (suc l) 0 k v t) (table_of (insert_at (suc l) 0 k v t))
  unfolding insert_units_at insert_at
  root_branch l ks w b once =
      let c = number l w.kid.sub in
      let uc = under_count t l 0 top 0 k ks w in
      let sub = under_sub t l 0 top 0 k ks w in
      let o : (j : ℕ) → times j (nums l w.kid.sub) ≤ 1 = λ j. omega (arith, once j, uc j) in
      let z : times 0 (nums l w.kid.sub) ≡ 0 = omega (arith, uc 0, once 0, hit_same 0 0 refl) in
      let a = made k v t l w.kid.key (start_of top w.after) w.kid.sub (omega arith) sub o z w.low w.high in
      let g = (inserts k v t l w.kid.key (start_of top w.after) w.kid.sub sub o z w.low w.high).grown in
      rw w.child (root_pass k v t l 0 top (insert_units_at l c k v t) (insert_at l c k v t) b a (gives k v t l 0 top 0 ks w once (insert_at l c k v t) g))

  root_made : (l : ℕ) (s : Shape l) → l ≤ 3 → Sub 16 t l 0 top s → number l s ≡ 0 → ((j : ℕ) → times j (nums l s) ≤ 1)
      → RootMade k v t l (insert_units_at l 0 k v t) (table_of (insert_at l 0 k v t))
  unfolding insert_units_at insert_at
  root_made zero s b h root once =
      root_leaf k v 0 top t (subst (λ (n : ℕ). Gaining t 0 n k v 0 top) root (leaf_gains k v t 0 top s h (omega arith) high))
  root_made (suc l) s b h root once =
      root_branch l s.kids (at_root k t high l s h root) b
      (subst (λ (n : ℕ). (j : ℕ) → times j (nums (suc l) (record { number = n; kids = s.kids })) ≤ 1) root once)

-- what the units of an insert make: the table, few units, each of a node of that table; every number keeps its node
pub record Written (k v : ℕ) (t : Table) (us : List U.Unit) (u : Table) : Type 0 where
  pub is : after_units us t ≡ u
  pub few : root_level u ≤ 3 → length us ≤ 60
  pub known : All (λ (x : U.Unit). x.node < next u) us
  pub keeps : (j : ℕ) → there (at t j) ≡ 1 → there (at u j) ≡ 1
  pub valid : v < top → Smalls t → next u ≤ top → root_level u ≤ 3 → ValidUpdates us
  pub small : v < top → Smalls t → next u ≤ top → root_level u ≤ 3 → Smalls u

pub insert_units_lem : (k v : ℕ) (t : Table) → Tree t → k < top → root_level t ≤ 3 → Written k v t (insert_units k v t) (inserted k v t)
unfolding insert_units inserted
insert_units_lem k v t g h low =
    let T = shape_of t g in
    let e = level_at t T in
    let q : T.level ≤ 3 = omega (arith, e) in
    let R = root_made k v t h T.level T.shape (omega arith) T.sub T.root (λ j. omega (arith, T.once j, there_le (at t j))) in
    let u = table_of (insert_at T.level 0 k v t) in
    rw e (record {
      is = R.is;
      few = λ b. R.few q b;
      known = All-map (λ x p. there_below u x.node p) R.known;
      keeps = R.keeps;
      valid = R.obeys h;
      small = λ hv ts nx lv. after_small (insert_units_at T.level 0 k v t) t u R.is (R.obeys h hv ts nx lv) ts;
    })

-- on a tree within the limits of the layout they obey it, and so do the entries that they leave
pub insert_valid : (limit k v : ℕ) (t : Table) → Tree t → Smalls t → k < top → v < top → limit ≤ top → root_level t ≤ 3 → root_level (inserted k v t) ≤ 3
    → next (inserted k v t) ≤ limit → Valids limit (insert_units k v t) (inserted k v t)
insert_valid limit k v t g ts hk hv hl l₀ l₁ nx =
    let W = insert_units_lem k v t g hk l₀ in
    record {
      units = valid_below (next (inserted k v t)) limit nx W.known (W.valid hv ts (omega arith) l₁);
      small = W.small hv ts (omega arith) l₁;
    }
