-- What settle leaves of two neighbours. Assumes nothing.
use mathlib.Core.Path.{◌≡◌, sym, ap, ◌∙◌, subst}
use mathlib.Core.Logic.{◌⊎◌, inl, inr, ⊎_elim}
use mathlib.Core.List.{List, [], ◌∷◌, ◌++◌, map}
use Prim.Native.Nat.{ℕ, zero, suc, ◌+◌, ◌-◌, ◌<◌, ◌≤◌}
use native.Mathlib.Omega.{arith}
use lib.ListN.{length, drop, length-append, length-map, length-take, length-drop}
use borrow.Author.Tests.{le-leb, lt-leb, lt-ltb, le-ltb}
use Rattle.lists.specs.Lists.{All, none, more}
use Rattle.lists.proofs.Alls.{All-append, All-right, All-head, All-tail}
use Rattle.lists.proofs.Flats.{map_append}
use Rattle.lists.proofs.Tests.{cases, below_or_not}
use Rattle.pages.specs.declared.unit.Update.{Update}
use Rattle.pages.specs.declared.unit.Update.TheVariants.{Insert, Delete, Reset}
use Rattle.pages.specs.declared.unit.Unit as U
use Rattle.views.specs.Groups.{unit_for}
use lib.Dec.{ltb}
use Rattle.views.specs.Nodes.{Entry, View, inserted}
use Rattle.tree.specs.Tree.{entries_of, there, Table, at, entries_at, first_key, nodes}
use Rattle.tree.specs.Step6.{top, times}
use Rattle.tree.specs.Delete.{Down, kept, lost, leaves, two, join, share, moved, settle}
use Rattle.tree.specs.Thick.{least_of}
use Rattle.tree.specs.Units.{after_units}
use Rattle.tree.specs.DeleteUnits.{first_of, three_units, join_units, to_left, to_right, share_units, settle_units, frees}
use Rattle.tree.proofs.Validity.{Small, Smalls, ValidUpdates, valid_join, valid_share}
use Rattle.tree.proofs.Shape.{Kid, Shape, number, entry_of, tops, nums, start_of, Inner, Sub}
use Rattle.tree.proofs.Parts.{join_s, join_tops, lower_s, upper_s, lower_tops, upper_tops, starts_some}
use Rattle.tree.proofs.Becomes.{Becomes}
use Rattle.tree.proofs.Settle.{sub_a, sub_b, there_a, there_b, there_n, join_nodes, share_nodes, joins, shares}
use Rattle.tree.proofs.PairUnits.{join_units_lem, share_units_lem, join_length, share_length, join_frees, share_frees}
use Rattle.tree.proofs.Full.{Full, Strong, Wide, wide_join, least_most, full_join, full_lower, full_upper}

-- whether a node lost an entry
abbrev pub loss : Down → ℕ
loss (kept t) = 0
loss (lost t) = 1

abbrev pub length_of : (l : ℕ) → Kid (Shape l) → ℕ
length_of l x = length (tops l x.sub)

-- one of the two has fewer than 8, and lost at most one; the other is not thin
abbrev pub Near : (c l : ℕ) → Kid (Shape l) → Kid (Shape l) → Type 0
Near c l a b =
    ((length_of l a < 8) × (least_of c l ≤ suc (length_of l a)) × (least_of c l ≤ length_of l b))
    ⊎ ((length_of l b < 8) × (least_of c l ≤ length_of l a) × (least_of c l ≤ suc (length_of l b)))

-- units that a node may need besides: what a delete that moves or does nothing leaves unused
abbrev pub slack : Down → ℕ
slack (kept t) = 13
slack (lost t) = 0

-- units for two neighbours of level l and their parent
abbrev pub gap : ℕ → ℕ
gap zero = 18
gap (suc l) = 17

pub gap_least : (l : ℕ) → 17 ≤ gap l
gap_least zero = omega arith
gap_least (suc l) = omega arith

gap_left : (t : Table) (l lo hi : ℕ) (s : Shape l) → Inner t l lo hi s → 18 ≤ gap l + length (tops l s)
gap_left t zero lo hi s h = omega arith
gap_left t (suc l) lo hi s h = omega (arith, starts_some lo s.kids h.0, length-map s.kids (entry_of l))

-- a unit is of a node that is there
abbrev pub Known : Table → List U.Unit → Type 0
Known t us = All (λ (x : U.Unit). there (at t x.node) ≡ 1) us

pub known_map : (t : Table) (n : ℕ) (us : List Update) → there (at t n) ≡ 1 → Known t (map (unit_for n) us)
known_map t n [] h = none
known_map t n (u ∷ us) h = more h (known_map t n us h)

known_three : (t : Table) (a b n : ℕ) (us vs ws : List Update) → there (at t a) ≡ 1 → there (at t b) ≡ 1 → there (at t n) ≡ 1 → Known t (three_units a b n us vs ws)
known_three t a b n us vs ws p q r = All-append (known_map t a us p) (All-append (known_map t b vs q) (known_map t n ws r))

known_join : (t : Table) (n : ℕ) (a b : Entry) (ys : List Entry) → there (at t a.value) ≡ 1 → there (at t b.value) ≡ 1 → there (at t n) ≡ 1 → Known t (join_units n a b ys)
unfolding join_units
known_join t n a b ys p q r = known_three t a.value b.value n (map inserted ys) (Reset 255 ∷ []) (Delete b.key ∷ []) p q r

known_share : (t : Table) (n : ℕ) (a b : Entry) (xs ys : List Entry) → there (at t a.value) ≡ 1 → there (at t b.value) ≡ 1 → there (at t n) ≡ 1 → Known t (share_units n a b xs ys)
unfolding share_units to_left to_right
known_share t n a b xs ys p q r =
    let e = first_of ys in
    let f = first_of (drop (length xs - 1) xs) in
    cases (ltb (length xs) (length ys))
    (λ z. rw z (known_three t a.value b.value n (inserted e ∷ []) (Delete e.key ∷ []) (Delete b.key ∷ Insert (first_key 0 (drop 1 ys)) b.value ∷ []) p q r))
    (λ z. rw z (known_three t a.value b.value n (Delete f.key ∷ []) (inserted f ∷ []) (Delete b.key ∷ Insert f.key b.value ∷ []) p q r))

-- the only kid that is left has two entries or more
lone : {A : Type 0} {P : A → Type 0} (bs : List A) (x : A) (ds : List A) → P x → length (bs ++ (x ∷ ds)) ≡ 1 → All P (bs ++ (x ∷ ds))
lone [] x [] p h = more p none
lone [] x (d ∷ ds) p h = absurd (omega arith)
lone (b ∷ bs) x ds p h = absurd (omega (arith, length-append bs (x ∷ ds)))

pub record Settled (t : Table) (r : Down) (us : List U.Unit) (l lo hi n : ℕ) (bs : List (Kid (Shape l))) (a b : Kid (Shape l)) (ds : List (Kid (Shape l))) : Type 0 where
  pub kids : List (Kid (Shape l))
  pub becomes : Becomes (λ xs. xs) t (leaves r) (suc l) lo hi (record { number = n; kids = bs ++ (a ∷ b ∷ ds) }) (record { number = n; kids = kids })
  pub less : length (bs ++ (a ∷ b ∷ ds)) ≤ loss r + length kids
  pub full : (c : ℕ) → c ≤ 8 → All (Strong c l) bs → All (Strong c l) ds → Full c l a.sub → Full c l b.sub → Near c l a b → All (Strong c l) kids
  pub units : after_units us t ≡ leaves r
  pub known : Known t us
  pub valid : Smalls t → ValidUpdates us
  pub count : nodes (leaves r) + frees us ≡ nodes t
  pub few : length us + slack r ≤ gap l
  pub thick : 7 ≤ length_of l a → length us ≤ 11
  pub heir : loss r ≡ 1 → length kids ≡ 1 → All (λ (x : Kid (Shape l)). Wide l x.sub) kids

near_join : (c l : ℕ) (a b : Kid (Shape l)) → Near c l a b → least_of c l ≤ length_of l a + length_of l b
near_join c l a b n = ⊎_elim (λ h. let z : least_of c l ≤ length_of l a + length_of l b = omega (arith, h.2) in z) (λ h. omega (arith, h.1)) n

module _ (t : Table) (l lo hi n : ℕ) (bs : List (Kid (Shape l))) (a b : Kid (Shape l)) (ds : List (Kid (Shape l)))
    (h : Sub 16 t (suc l) lo hi (record { number = n; kids = bs ++ (a ∷ b ∷ ds) }))
    (once : (j : ℕ) → times j (nums (suc l) (record { number = n; kids = bs ++ (a ∷ b ∷ ds) })) ≤ 1) where
  abbrev es : List Entry
  es = tops l a.sub ++ tops l b.sub

  es_length : length es ≡ length_of l a + length_of l b
  es_length = length-append (tops l a.sub) (tops l b.sub)

  few_a : length_of l a ≤ 16
  few_a = (sub_a t l lo hi n bs a b ds h once).0.size

  few_b : length_of l b ≤ 16
  few_b = (sub_b t l lo hi n bs a b ds h once).0.size

  abbrev on_a : there (at t (number l a.sub)) ≡ 1
  on_a = there_a t l lo hi n bs a b ds h once

  abbrev on_b : there (at t (number l b.sub)) ≡ 1
  on_b = there_b t l lo hi n bs a b ds h once

  abbrev on_n : there (at t n) ≡ 1
  on_n = there_n t l lo hi n bs a b ds h once

  small_a : Smalls t → Small (tops l a.sub)
  small_a ts = subst (λ (w : View). Small (entries_of w)) (sub_a t l lo hi n bs a b ds h once).0.is (ts (number l a.sub))

  small_b : Smalls t → Small (tops l b.sub)
  small_b ts = subst (λ (w : View). Small (entries_of w)) (sub_b t l lo hi n bs a b ds h once).0.is (ts (number l b.sub))

  small_entry : Smalls t → (b.key < top) × (number l b.sub < top)
  small_entry ts =
      let e : entries_at t n ≡ map (entry_of l) bs ++ (entry_of l a ∷ entry_of l b ∷ map (entry_of l) ds) = ap entries_of h.0.is ∙ map_append (entry_of l) bs (a ∷ b ∷ ds) in
      let s : Small (map (entry_of l) bs ++ (entry_of l a ∷ entry_of l b ∷ map (entry_of l) ds)) = subst (λ (es : List Entry). Small es) e (ts n) in
      All-head (All-tail (All-right (map (entry_of l) bs) (entry_of l a ∷ entry_of l b ∷ map (entry_of l) ds) s))

  joined : length_of l a + length_of l b ≤ 16
      → Settled t (lost (join l n (map (entry_of l) bs) (entry_of l a) (entry_of l b) (map (entry_of l) ds) es t)) (join_units n (entry_of l a) (entry_of l b) (tops l b.sub)) l lo hi n bs a b ds
  joined le =
      let J : Kid (Shape l) = record { key = a.key; sub = join_s l a.sub b.sub } in
      record {
        kids = bs ++ (J ∷ ds);
        becomes = joins t l lo hi n bs a b ds h once es (sym (join_tops l a.sub b.sub)) (omega (arith, es_length));
        less = omega (arith, length-append bs (a ∷ b ∷ ds), length-append bs (J ∷ ds));
        full = λ c c8 fb fd fx fy near.
            let e : length_of l J ≡ length_of l a + length_of l b = ap length (join_tops l a.sub b.sub) ∙ es_length in
            let p : least_of c l ≤ length_of l J = omega (arith, near_join c l a b near) in
            All-append fb (more (p, full_join c l a.sub b.sub fx fy) fd);
        units = join_units_lem t l lo hi n bs a b ds h once le;
        known = known_join t n (entry_of l a) (entry_of l b) (tops l b.sub) on_a on_b on_n;
        count =
            omega (
              arith,
              join_frees n (entry_of l a) (entry_of l b) (tops l b.sub),
              join_nodes t l lo hi n bs a b ds h once es (sym (join_tops l a.sub b.sub)) (omega (arith, es_length)),
            );
        valid = λ ts. valid_join n (entry_of l a) (entry_of l b) (tops l b.sub) (small_b ts) (small_entry ts).0;
        few = omega (arith, join_length n (entry_of l a) (entry_of l b) (tops l b.sub), gap_left t l a.key b.key a.sub (sub_a t l lo hi n bs a b ds h once).1);
        thick = λ q. omega (arith, join_length n (entry_of l a) (entry_of l b) (tops l b.sub));
        heir = λ _ q. lone bs J ds (wide_join t l a.key b.key (start_of hi ds) a.sub b.sub (sub_a t l lo hi n bs a b ds h once).1 (sub_b t l lo hi n bs a b ds h once).1) q;
      }

  shared : (m : ℕ) → 0 < m → m < length_of l a + length_of l b → m ≤ 16 → length_of l a + length_of l b ≤ 16 + m
      → ((c : ℕ) → c ≤ 8 → Near c l a b → (least_of c l ≤ m) × (least_of c l ≤ (length_of l a + length_of l b) - m))
      → after_units (share_units n (entry_of l a) (entry_of l b) (tops l a.sub) (tops l b.sub)) t ≡ share l n m (map (entry_of l) bs) (entry_of l a) (entry_of l b) (map (entry_of l) ds) es t
      → Settled t (kept (share l n m (map (entry_of l) bs) (entry_of l a) (entry_of l b) (map (entry_of l) ds) es t)) (share_units n (entry_of l a) (entry_of l b) (tops l a.sub) (tops l b.sub)) l lo hi n bs a b ds
  shared m pos lt few size ok units =
      let j : Shape l = join_s l a.sub b.sub in
      let x : Kid (Shape l) = record { key = a.key; sub = lower_s l m (number l a.sub) j } in
      let y : Kid (Shape l) = record { key = first_key 0 (drop m es); sub = upper_s l m (number l b.sub) j } in
      record {
        kids = bs ++ (x ∷ y ∷ ds);
        becomes = shares t l lo hi n bs a b ds h once es (sym (join_tops l a.sub b.sub)) m pos (omega (arith, es_length)) few (omega (arith, es_length));
        less = omega (arith, length-append bs (a ∷ b ∷ ds), length-append bs (x ∷ y ∷ ds));
        full = λ c c8 fb fd fx fy near.
            let q = ok c c8 near in
            let f : Full c l j = full_join c l a.sub b.sub fx fy in
            let e : length (tops l j) ≡ length_of l a + length_of l b = ap length (join_tops l a.sub b.sub) ∙ es_length in
            let lx : length_of l x ≡ m = ap length (lower_tops l m (number l a.sub) j) ∙ length-take m (tops l j) ∙ omega arith in
            let ly : length_of l y ≡ (length_of l a + length_of l b) - m = ap length (upper_tops l m (number l b.sub) j) ∙ length-drop m (tops l j) ∙ omega arith in
            let px : least_of c l ≤ length_of l x = omega (arith, q.0) in
            let py : least_of c l ≤ length_of l y = omega (arith, q.1) in
            All-append fb (more (px, full_lower c l m (number l a.sub) j f) (more (py, full_upper c l m (number l b.sub) j f) fd));
        units = units;
        known = known_share t n (entry_of l a) (entry_of l b) (tops l a.sub) (tops l b.sub) on_a on_b on_n;
        count =
            omega (
              arith,
              share_frees n (entry_of l a) (entry_of l b) (tops l a.sub) (tops l b.sub),
              share_nodes t l lo hi n bs a b ds h once es (sym (join_tops l a.sub b.sub)) m pos (omega (arith, es_length)) few (omega (arith, es_length)),
            );
        valid = λ ts. valid_share n (entry_of l a) (entry_of l b) (tops l a.sub) (tops l b.sub) (small_a ts) (small_b ts) (small_entry ts).0 (small_entry ts).1;
        few = omega (arith, share_length n (entry_of l a) (entry_of l b) (tops l a.sub) (tops l b.sub), gap_least l);
        thick = λ _. omega (arith, share_length n (entry_of l a) (entry_of l b) (tops l a.sub) (tops l b.sub));
        heir = λ z _. absurd (omega arith);
      }

  shared_left : length_of l a < 8 → 16 < length_of l a + length_of l b
      → Settled t (kept (share l n (moved (length_of l a) (length_of l b)) (map (entry_of l) bs) (entry_of l a) (entry_of l b) (map (entry_of l) ds) es t)) (share_units n (entry_of l a) (entry_of l b) (tops l a.sub) (tops l b.sub)) l lo hi n bs a b ds
  shared_left p q =
      let eu = share_units_lem t l lo hi n bs a b ds h once (inl p) q in
      let em : moved (length_of l a) (length_of l b) ≡ suc (length_of l a) = rw (lt-ltb (length_of l a) (length_of l b) (omega arith)) in
      rw em
      (shared (suc (length_of l a)) (omega arith) (omega arith) (omega arith) (omega (arith, few_b))
      (λ c c8 near. ⊎_elim
      (λ i. let u : (least_of c l ≤ suc (length_of l a)) × (least_of c l ≤ (length_of l a + length_of l b) - suc (length_of l a)) = (i.1, omega (arith, least_most c l c8)) in u)
      (λ i. absurd (omega (arith, i.0)))
      near) (rw em at eu))

  shared_right : length_of l b < 8 → 16 < length_of l a + length_of l b
      → Settled t (kept (share l n (moved (length_of l a) (length_of l b)) (map (entry_of l) bs) (entry_of l a) (entry_of l b) (map (entry_of l) ds) es t)) (share_units n (entry_of l a) (entry_of l b) (tops l a.sub) (tops l b.sub)) l lo hi n bs a b ds
  shared_right p q =
      let eu = share_units_lem t l lo hi n bs a b ds h once (inr p) q in
      let em : moved (length_of l a) (length_of l b) ≡ length_of l a - 1 = rw (le-ltb (length_of l a) (length_of l b) (omega arith)) in
      rw em
      (shared (length_of l a - 1) (omega arith) (omega arith) (omega (arith, few_a)) (omega (arith, few_b))
      (λ c c8 near. ⊎_elim
      (λ i. absurd (omega (arith, i.0)))
      (λ i. let u : (least_of c l ≤ length_of l a - 1) × (least_of c l ≤ (length_of l a + length_of l b) - (length_of l a - 1)) = (omega (arith, least_most c l c8), omega (arith, i.2)) in u)
      near) (rw em at eu))

  pub settled : (length_of l a < 8) ⊎ (length_of l b < 8)
      → Settled t (settle l n (two (map (entry_of l) bs) (entry_of l a) (entry_of l b) (map (entry_of l) ds)) t) (settle_units n (two (map (entry_of l) bs) (entry_of l a) (entry_of l b) (map (entry_of l) ds)) t) l lo hi n bs a b ds
  unfolding settle settle_units
  settled small =
      let ea : entries_at t (number l a.sub) ≡ tops l a.sub = ap entries_of (sub_a t l lo hi n bs a b ds h once).0.is in
      let eb : entries_at t (number l b.sub) ≡ tops l b.sub = ap entries_of (sub_b t l lo hi n bs a b ds h once).0.is in
      rw (ea, eb)
      (⊎_elim
      (λ (q : 16 < length_of l a + length_of l b). rw (lt-leb (length_of l a + length_of l b) 16 q) (⊎_elim (λ p. shared_left p q) (λ p. shared_right p q) small))
      (λ (q : length_of l a + length_of l b ≤ 16). rw (le-leb (length_of l a + length_of l b) 16 q) (joined q))
      (below_or_not 16 (length_of l a + length_of l b)))
