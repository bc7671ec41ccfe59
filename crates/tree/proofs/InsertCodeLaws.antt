-- The halves of a node, what is pushed for a node that gains an entry, and the entry at its leaf. Assumes nothing.
use mathlib.Core.Path.{◌≡◌, refl, sym, ap, ap₂, ◌∙◌, subst}
use Rattle.std.specs.Prelude.{Option, Some, None}
use mathlib.Core.Bool.{true, false}
use mathlib.Core.Logic.{⊎_elim}
use mathlib.Core.List.{List, [], ◌∷◌, ◌++◌, map}
use Prim.Native.Nat.{ℕ, zero, suc, ◌+◌, ◌<◌, ◌≤◌}
use native.Mathlib.Omega.{arith}
use native.Mathlib.Numerals.{add-one}
use lib.ListN.{length, take, drop, get_or, length-map, drop_of_length-le}
use lib.Seq.{length-take-le, drop-cons, take_all}
use borrow.Author.Tests.{lt-ltb, le-ltb, le-leb, lt-leb, eq-eqb, ne_eqb}
use Rattle.views.specs.declared.node.Node as N
use Rattle.lists.proofs.Tests.{clash, below_or_not, same_or_not}
use Rattle.pages.specs.declared.unit.Update.TheVariants.{Insert}
use Rattle.pages.specs.declared.unit.Unit as U
use Rattle.views.specs.Nodes.{Entry, view, anew, insert_entry}
use Rattle.views.specs.Groups.{unit_for}
use Rattle.views.specs.PassCode.{pushed, node_units}
use Rattle.views.specs.NodeCode.{pairs, entries_of, Shows}
use Rattle.views.proofs.NodeLaws.{length_entries}
use Rattle.lists.specs.Lists.{first, count as count_of}
use Rattle.numbers.specs.NumberSet.{is_in, Counts, IsLeast, Changes}
use Rattle.tree.specs.Tree.{there, Table, at, put, first_key, least, least2}
use Rattle.tree.specs.Insert.{Up, stop, gains, table_of, halve, raise, fit_or_split}
use Rattle.tree.specs.Units.{anew_at}
use Rattle.tree.specs.InsertUnits.{halve_units, raise_units, hold_units}
use Rattle.tree.specs.Free.{is_open, free_numbers}
use Rattle.tree.specs.UpdateCode.{UnitsPushed, FrontKept}
use Rattle.tree.specs.InsertCode.{root_entries, spare, needs_of, gives_of, Went, Stops, FitsOne, TakesLeast, ChangesNode, FitsOrSplits, gained, Lands, PassesUp}
use Rattle.tree.specs.declared.insert.Rise.{Rise}
use Rattle.tree.specs.declared.insert.Gain.{Gain}
use Rattle.tree.proofs.Tables.{there_old}
use Rattle.tree.proofs.Least.{least_free, least_put, least_kept, nodes_old, nodes_new, there_length, put_length}
use Rattle.tree.proofs.FreeLaws.{open_length, open_kept, open_count, least_first, free_taken, free_kept}
use Rattle.tree.proofs.InsertUnits.{put_stays}
use Rattle.tree.proofs.PushLaws.{written_two, front_pushed, front_same}

-- ---- the halves of a node of 17 entries
take_pairs : (n : ℕ) (ks vs : List ℕ) → take n (pairs ks vs) ≡ pairs (take n ks) (take n vs)
take_pairs zero ks vs = refl
take_pairs (suc n) [] vs = refl
take_pairs (suc n) (k ∷ ks) [] = refl
take_pairs (suc n) (k ∷ ks) (v ∷ vs) = rw (take_pairs n ks vs)

pairs_nil : (ks : List ℕ) → pairs ks [] ≡ []
pairs_nil [] = refl
pairs_nil (k ∷ ks) = refl

drop_pairs : (n : ℕ) (ks vs : List ℕ) → drop n (pairs ks vs) ≡ pairs (drop n ks) (drop n vs)
drop_pairs zero ks vs = refl
drop_pairs (suc n) [] vs = refl
drop_pairs (suc n) (k ∷ ks) [] = sym (pairs_nil (drop n ks))
drop_pairs (suc n) (k ∷ ks) (v ∷ vs) = drop_pairs n ks vs

-- the last 8 of 17
pub eight : (l : List ℕ) → length l ≡ 17
    → drop 9 l ≡ get_or l 9 0 ∷ get_or l 10 0 ∷ get_or l 11 0 ∷ get_or l 12 0 ∷ get_or l 13 0 ∷ get_or l 14 0 ∷ get_or l 15 0 ∷ get_or l 16 0 ∷ []
eight l h =
    drop-cons l 9 0 (omega arith) ∙ ap (λ (r : List ℕ). get_or l 9 0 ∷ r)
    (drop-cons l 10 0 (omega arith) ∙ ap (λ (r : List ℕ). get_or l 10 0 ∷ r)
    (drop-cons l 11 0 (omega arith) ∙ ap (λ (r : List ℕ). get_or l 11 0 ∷ r)
    (drop-cons l 12 0 (omega arith) ∙ ap (λ (r : List ℕ). get_or l 12 0 ∷ r)
    (drop-cons l 13 0 (omega arith) ∙ ap (λ (r : List ℕ). get_or l 13 0 ∷ r)
    (drop-cons l 14 0 (omega arith) ∙ ap (λ (r : List ℕ). get_or l 14 0 ∷ r)
    (drop-cons l 15 0 (omega arith) ∙ ap (λ (r : List ℕ). get_or l 15 0 ∷ r)
    (drop-cons l 16 0 (omega arith) ∙ ap (λ (r : List ℕ). get_or l 16 0 ∷ r) (drop_of_length-le l {i = 17} (omega arith)))))))))

module _ (n : N.Node) (h : n.len ≡ 17) (lk : length n.keys ≡ 17) (lv : length n.values ≡ 17) where
  all_entries : entries_of n ≡ pairs n.keys n.values
  all_entries = ap₂ pairs (take_all n.len n.keys (omega arith)) (take_all n.len n.values (omega arith))

  pub entries_17 : length (entries_of n) ≡ 17
  entries_17 = length_entries n lk lv (omega arith) ∙ h

  pub lower_shows : (r : N.Node) (l : ℕ) → r.level ≡ l → r.len ≡ 9 → r.keys ≡ n.keys → r.values ≡ n.values → Shows r l (take 9 (entries_of n))
  lower_shows r l e₁ e₂ e₃ e₄ = record {
    same = e₁;
    is =
        ap (λ (m : ℕ). pairs (take m r.keys) (take m r.values)) e₂
        ∙ ap₂ (λ (ks vs : List ℕ). pairs (take 9 ks) (take 9 vs)) e₃ e₄
        ∙ sym (take_pairs 9 n.keys n.values) ∙ ap (take 9) (sym all_entries);
    len = length-take-le 9 (entries_of n) (omega (arith, entries_17)) ∙ sym e₂;
    room = omega arith;
  }

  pub middle_is : get_or n.keys 9 0 ≡ first_key 0 (drop 9 (entries_of n))
  middle_is =
      sym (ap (λ (es : List Entry). first_key 0 (drop 9 es)) all_entries
      ∙ ap (first_key 0) (drop_pairs 9 n.keys n.values ∙ ap₂ pairs (eight n.keys lk) (eight n.values lv)))

-- ---- the units of a split
-- a node written anew
pub written_node : (n l : ℕ) (es : List Entry) (x : N.Node) (count i : ℕ) (old new : List ℕ) → Shows x l es → new ≡ pushed old count (node_units n x)
    → i ≡ count + 1 + x.len → length old ≡ 11520 → UnitsPushed (anew_at l n es) count old new i
unfolding anew_at
written_node n l es x count i old new s e q h = record {
  bytes = e ∙ ap₂ (λ (j : ℕ) (ds : List Entry). pushed old count (map (unit_for n) (anew j ds))) s.same s.is;
  size = q ∙ simp length-map (omega (arith, s.len));
  long = h;
}

module _ (l low high : ℕ) (es : List Entry) (count i j : ℕ) (old mid new : List ℕ) where
  pub written_halves : UnitsPushed (anew_at l low (take 9 es)) count old mid i → UnitsPushed (anew_at l high (drop 9 es)) i mid new j → i ≤ 960
      → UnitsPushed (halve_units l low high es) count old new j
  unfolding halve_units
  written_halves a b h = written_two (anew_at l low (take 9 es)) (anew_at l high (drop 9 es)) count i j old mid new a b h

  pub written_raise : UnitsPushed (halve_units l low high es) count old mid i → UnitsPushed (anew_at (l + 1) 0 (root_entries low (first_key 0 (drop 9 es)) high)) i mid new j
      → i ≤ 960 → UnitsPushed (raise_units l low high es) count old new j
  unfolding raise_units
  written_raise a b h =
      subst (λ (d : ℕ). UnitsPushed (halve_units l low high es ++ anew_at d 0 (root_entries low (first_key 0 (drop 9 es)) high)) count old new j) (add-one l)
      (written_two (halve_units l low high es) (anew_at (l + 1) 0 (root_entries low (first_key 0 (drop 9 es)) high)) count i j old mid new a b h)

-- ---- how many numbers are needed
module _ (need n len : ℕ) where
  pub needs_none : len ≤ 16 → needs_of need n len ≡ 0
  needs_none q = rw (le-leb len 16 q)

  pub needs_inner : 16 < len → (n ≡ 0 → ⊥) → needs_of need n len ≡ need + 1
  needs_inner q d = rw (lt-leb len 16 q, ne_eqb n 0 d)

  pub needs_root : 16 < len → n ≡ 0 → needs_of need n len ≡ 2
  needs_root q z = rw (lt-leb len 16 q, eq-eqb n 0 z)

  -- by the entries and the node
  pub needs_by : {C : Type 0} → (len ≤ 16 → C) → (16 < len → (n ≡ 0 → ⊥) → C) → (16 < len → n ≡ 0 → C) → C
  needs_by f g h =
      ⊎_elim
      (λ (q : 16 < len). ⊎_elim (λ (z : n ≡ 0). h q z) (λ (d : n ≡ 0 → ⊥). g q d) (same_or_not n 0))
      (λ (q : len ≤ 16). f q)
      (below_or_not 16 len)

-- what is passed to the next level stays small
pub needs_low : (need l m n len : ℕ) → l ≡ suc m → l ≤ 3 → need + l ≤ 4 → needs_of need n len + m ≤ 4
needs_low need l m n len e h b =
    needs_by need n len
    (λ q. omega (arith, needs_none need n len q))
    (λ q d. omega (arith, needs_inner need n len q d))
    (λ q z. omega (arith, needs_root need n len q z))

-- the node itself takes no more than it takes with those above it
pub needs_less : (need n len : ℕ) → needs_of 0 n len ≤ needs_of need n len
needs_less need n len =
    needs_by need n len
    (λ q. omega (arith, needs_none 0 n len q))
    (λ q d. omega (arith, needs_inner 0 n len q d, needs_inner need n len q d))
    (λ q z. omega (arith, needs_root 0 n len q z, needs_root need n len q z))

-- ---- a number that is taken
pub spare_most_lem : (t : Table) → spare t ≤ length t
spare_most_lem t = omega (arith, open_count t)

spare_kept : (n l : ℕ) (es : List Entry) (t : Table) → there (at t n) ≡ 1 → spare (put n (view l es) t) ≡ spare t
spare_kept n l es t h = ap (count_of is_in) (open_kept n l es t h)

-- the table with a node of the least number
module _ (l : ℕ) (es : List Entry) (t : Table) (h : 0 < spare t) where
  pub least_length : length (put (least t) (view l es) t) ≡ length t
  least_length = put_length (least t) (view l es) t (least_first t h).1

  pub least_spare : spare (put (least t) (view l es) t) + 1 ≡ spare t
  least_spare =
      omega (arith, open_count t, open_count (put (least t) (view l es) t), nodes_new (least t) l es t (least_free t), least_length)

-- what an option has
pub some_is : {A : Type 0} {a b : A} → Some a ≡ Some b → a ≡ b
some_is e = cc

pub none_some : {A : Type 0} {Q : Type 0} {a : A} {o : Option A} → o ≡ Some a → o ≡ None → Q
none_some p q = cc

-- the code's set
pub takes_least : (free after : List ℕ) (m : ℕ) → IsLeast free (Some m) → Changes false m free after → TakesLeast free after (Some m)
unfolding free_numbers
takes_least free after m i c = record {
  is =
      λ t e few h. let f = least_first t h in
      let s : Some m ≡ Some (first is_in (map is_open t)) = i.is _ (omega (arith, open_length t)) e h in
      let q : m ≡ least t = cc (f.0) in
      (ap Some q, λ l es. free_taken (least t) l es t e few f.1 (subst (λ (j : ℕ). Changes false j free after) q c));
  few = i.few;
}

pub takes_none : (free : List ℕ) → IsLeast free None → TakesLeast free free None
unfolding free_numbers
takes_none free i = record {
  is = λ t e few h. let s : None ≡ Some (first is_in (map is_open t)) = i.is _ (omega (arith, open_length t)) e h in cc;
  few = tt;
}

-- a table with a number to spare has a least one, and with two to spare a second one
pub none_first : (free after : List ℕ) → TakesLeast free after None → (t : Table) → free ≡ free_numbers t → length t ≤ 256 → 0 < spare t → ⊥
none_first free after p t e few h = let s : None ≡ Some (least t) = (p.is t e few h).0 in cc

pub none_second : (free mid after : List ℕ) (low : ℕ) → TakesLeast free mid (Some low) → TakesLeast mid after None
    → (t : Table) → free ≡ free_numbers t → length t ≤ 256 → 2 ≤ spare t → ⊥
none_second free mid after low p₁ p₂ t e few h =
    none_first mid after p₂ (put (least t) (view 0 []) t) ((p₁.is t e few (omega arith)).1 0 [])
    (omega (arith, least_length 0 [] t (omega arith))) (omega (arith, least_spare 0 [] t (omega arith)))

-- ---- what a node that is to hold es leaves, with numbers enough
pub record NumbersLeft (need : ℕ) (t : Table) (up : Up) : Type 0 where
  pub long : length (table_of up) ≡ length t
  pub left : gives_of up ≡ true → need ≤ spare (table_of up)

module _ (need l n : ℕ) (es : List Entry) (t : Table) (few : length t ≤ 256) (on : there (at t n) ≡ 1) where
  left_fit : length es ≤ 16 → NumbersLeft need t (fit_or_split l n es t)
  unfolding fit_or_split
  left_fit q = rw (le-leb (length es) 16 q) (record { long = put_length n (view l es) t (there_length t n on); left = λ g. clash g refl })

  left_halve : need + 1 ≤ spare t → 16 < length es → (n ≡ 0 → ⊥) → NumbersLeft need t (fit_or_split l n es t)
  unfolding fit_or_split halve
  left_halve h q d =
      let m = least t in
      let w = put n (view l (take 9 es)) t in
      let u = put m (view l (drop 9 es)) w in
      let lw : length w ≡ length t = put_length n (view l (take 9 es)) t (there_length t n on) in
      let lu : length u ≡ length w = put_length m (view l (drop 9 es)) w (omega (arith, (least_first t (omega arith)).1)) in
      rw (lt-leb (length es) 16 q, ne_eqb n 0 d)
      (record {
        long = lu ∙ lw;
        left = λ _. omega (arith, open_count t, open_count u, nodes_old n l (take 9 es) t on, nodes_new m l (drop 9 es) w (there_old n m l (take 9 es) t on ∙ least_free t));
      })

  left_raise : 2 ≤ spare t → 16 < length es → n ≡ 0 → NumbersLeft need t (fit_or_split l n es t)
  unfolding fit_or_split raise
  left_raise h q z =
      let m = least t in
      let w₁ = put m (view l (take 9 es)) t in
      let o : least w₁ ≡ least2 t = least_put m l 0 (take 9 es) [] t in
      let s₁ = least_spare l (take 9 es) t (omega arith) in
      let l₁ = least_length l (take 9 es) t (omega arith) in
      let w₂ = put (least2 t) (view l (drop 9 es)) w₁ in
      let l₂ : length w₂ ≡ length t = put_length (least2 t) (view l (drop 9 es)) w₁ (omega (arith, o, (least_first w₁ (omega arith)).1)) ∙ l₁ in
      rw (lt-leb (length es) 16 q, eq-eqb n 0 z)
      (record {
        long = put_length 0 (view (suc l) (root_entries m (first_key 0 (drop 9 es)) (least2 t))) w₂ (omega (arith, there_length t n on)) ∙ l₂;
        left = λ g. clash g refl;
      })

  pub numbers_left : needs_of need n (length es) ≤ spare t → NumbersLeft need t (fit_or_split l n es t)
  numbers_left h =
      let len = length es in
      needs_by need n len
      (λ q. left_fit q)
      (λ q d. left_halve (omega (arith, needs_inner need n len q d)) q d)
      (λ q z. left_raise (omega (arith, needs_root need n len q z)) q z)

-- ---- the code of one node
-- one unit, or none
pub fits_none : (n k v count : ℕ) (old : List ℕ) (r : Rise) → count ≤ 960 → Stops count r → (count < 960 → n < 65536 → ⊥) → FitsOne n k v count old old r
fits_none n k v count old r h s never = record {
  keeps = front_same count r.count old s.used h;
  gain = s.gain;
  is = λ p q. absurd (never p q);
}

pub fits_made : (n k v count : ℕ) (old new : List ℕ) (r : Rise) → count < 960 → UnitsPushed (unit_for n (Insert k v) ∷ []) count old new (count + 1) → Stops (count + 1) r
    → FitsOne n k v count old new r
fits_made n k v count old new r h w s =
    let y : UnitsPushed (unit_for n (Insert k v) ∷ []) count old new r.count = subst (λ (x : ℕ). UnitsPushed (unit_for n (Insert k v) ∷ []) count old new x) (sym s.used) w in
    record {
      keeps = front_pushed (unit_for n (Insert k v) ∷ []) count r.count old new y (omega (arith, s.used));
      gain = s.gain;
      is = λ _ _. y;
    }

-- nothing is done: no table leads here
pub makes_none : (n need : ℕ) (us : Table → List U.Unit) (up : Table → Up) (count : ℕ) (old free after : List ℕ) (r : Rise) → count ≤ 960 → Stops count r
    → ((t : Table) → free ≡ free_numbers t → length t ≤ 256 → there (at t n) ≡ 1 → need ≤ spare t → count + length (us t) ≤ 960 → ⊥)
    → ChangesNode n need us up count old free old after r
makes_none n need us up count old free after r h s never = record {
  keeps = front_same count r.count old s.used h;
  is = λ t e few on q room. absurd (never t e few on q room);
}

-- the same units and the same table
makes_same : (n need need' : ℕ) (us us' : Table → List U.Unit) (up up' : Table → Up) (count : ℕ) (old free new after : List ℕ) (r : Rise) → need ≡ need'
    → ((t : Table) → us t ≡ us' t) → ((t : Table) → up t ≡ up' t) → ChangesNode n need us up count old free new after r → ChangesNode n need' us' up' count old free new after r
makes_same n need need' us us' up up' count old free new after r e f g M = record {
  keeps = M.keeps;
  is =
      λ t q few on h room.
      subst (λ (x : Up). Went (us' t) x count old new after r) (g t)
      (subst (λ (x : List U.Unit). Went x (up t) count old new after r) (f t) (M.is t q few on (omega arith) (omega (arith, ap length (f t)))));
}

module _ (l : ℕ) (es : List Entry) (count : ℕ) (old free new after : List ℕ) (r : Rise) where
  -- node 0 splits
  module _ (low high used : ℕ) (mid : List ℕ) where
    pub makes_raise : TakesLeast free mid (Some low) → TakesLeast mid after (Some high) → UnitsPushed (raise_units l low high es) count old new used → used ≤ 960
        → Stops used r
        → ChangesNode 0 2 (λ (t : Table). raise_units l (least t) (least2 t) es) (λ (t : Table). stop (raise l (least t) (least2 t) es t)) count old free new after r
    unfolding raise
    makes_raise p₁ p₂ w room f = record {
      keeps = subst (λ (x : ℕ). FrontKept count old x new) (sym f.used) (front_pushed (raise_units l low high es) count used old new w room);
      is =
          λ t q few on s _.
          let t₁ = put (least t) (view l (take 9 es)) t in
          let a = p₁.is t q few (omega arith) in
          let b = p₂.is t₁ (a.1 l (take 9 es)) (omega (arith, least_length l (take 9 es) t (omega arith))) (omega (arith, least_spare l (take 9 es) t (omega arith))) in
          let o : least t₁ ≡ least2 t = least_put (least t) l 0 (take 9 es) [] t in
          let t₂ = put (least2 t) (view l (drop 9 es)) t₁ in
          let two = root_entries (least t) (first_key 0 (drop 9 es)) (least2 t) in
          let on₂ : there (at t₂ 0) ≡ 1 = put_stays (least2 t) l (drop 9 es) t₁ 0 (put_stays (least t) l (take 9 es) t 0 on) in
          record {
            units =
                subst (λ (x : ℕ). UnitsPushed (raise_units l (least t) (least2 t) es) count old new x) (sym f.used)
                (subst (λ (x : ℕ). UnitsPushed (raise_units l x (least2 t) es) count old new used) (some_is a.0)
                (subst (λ (x : ℕ). UnitsPushed (raise_units l low x es) count old new used) (some_is b.0 ∙ o) w));
            gain = f.gain;
            numbers = b.1 l (drop 9 es) ∙ ap (λ (x : ℕ). free_numbers (put x (view l (drop 9 es)) t₁)) o ∙ sym (free_kept 0 (suc l) two t₂ on₂);
          };
    }

  -- another node splits
  pub makes_halve : (n number used : ℕ) → TakesLeast free after (Some number) → UnitsPushed (halve_units l n number es) count old new used → used ≤ 960
      → r.count ≡ used → (key : ℕ) → r.gain ≡ gained key number → key ≡ first_key 0 (drop 9 es)
      → ChangesNode n 1 (λ (t : Table). halve_units l n (least t) es) (λ (t : Table). gains (first_key 0 (drop 9 es)) (least t) (halve l n (least t) es t)) count old free new after r
  unfolding halve
  makes_halve n number used p w room e key g k = record {
    keeps = subst (λ (x : ℕ). FrontKept count old x new) (sym e) (front_pushed (halve_units l n number es) count used old new w room);
    is =
        λ t q few on s _.
        let t₁ = put n (view l (take 9 es)) t in
        let same : least t₁ ≡ least t = least_kept n l (take 9 es) t on in
        let h₁ : 0 < spare t₁ = omega (arith, spare_kept n l (take 9 es) t on) in
        let a = p.is t₁ (q ∙ sym (free_kept n l (take 9 es) t on)) (omega (arith, put_length n (view l (take 9 es)) t (there_length t n on))) h₁ in
        record {
          units =
              subst (λ (x : ℕ). UnitsPushed (halve_units l n (least t) es) count old new x) (sym e)
              (subst (λ (x : ℕ). UnitsPushed (halve_units l n x es) count old new used) (some_is a.0 ∙ same) w);
          gain = g ∙ ap₂ gained k (some_is a.0 ∙ same);
          numbers = a.1 l (drop 9 es) ∙ ap (λ (x : ℕ). free_numbers (put x (view l (drop 9 es)) t₁)) same;
        };
  }

-- by its entries
module _ (l n k v : ℕ) (es : List Entry) (count : ℕ) (old free new : List ℕ) (r : Rise) where
  pub holds_fit : length es ≤ 16 → FitsOne n k v count old new r → FitsOrSplits l n k v es count old free new free r
  unfolding hold_units fit_or_split
  holds_fit q F =
      makes_same n 0 (needs_of 0 n (length es)) (λ (t : Table). unit_for n (Insert k v) ∷ []) (hold_units l n k v es) (λ (t : Table). stop (put n (view l es) t)) (fit_or_split l n es) count old free new free r
      (sym (needs_none 0 n (length es) q)) (λ t. rw (le-leb (length es) 16 q)) (λ t. rw (le-leb (length es) 16 q))
      (record {
        keeps = F.keeps;
        is =
            λ t e few on _ room. record {
              units = F.is (omega arith) (omega (arith, there_length t n on));
              gain = F.gain;
              numbers = e ∙ sym (free_kept n l es t on);
            };
      })

module _ (l n k v : ℕ) (es : List Entry) (count : ℕ) (old free new after : List ℕ) (r : Rise) where
  pub holds_raise : length es ≡ 17 → n ≡ 0
      → ChangesNode 0 2 (λ (t : Table). raise_units l (least t) (least2 t) es) (λ (t : Table). stop (raise l (least t) (least2 t) es t)) count old free new after r
      → FitsOrSplits l n k v es count old free new after r
  unfolding hold_units fit_or_split
  holds_raise q z M =
      subst (λ (i : ℕ). FitsOrSplits l i k v es count old free new after r) (sym z)
      (makes_same 0 2 (needs_of 0 0 (length es)) (λ (t : Table). raise_units l (least t) (least2 t) es) (hold_units l 0 k v es)
      (λ (t : Table). stop (raise l (least t) (least2 t) es t)) (fit_or_split l 0 es) count old free new after r
      (ap (needs_of 0 0) (sym q)) (λ t. rw q) (λ t. rw q) M)

  pub holds_halve : length es ≡ 17 → (n ≡ 0 → ⊥)
      → ChangesNode n 1 (λ (t : Table). halve_units l n (least t) es) (λ (t : Table). gains (first_key 0 (drop 9 es)) (least t) (halve l n (least t) es t)) count old free new after r
      → FitsOrSplits l n k v es count old free new after r
  unfolding hold_units fit_or_split
  holds_halve q d M =
      makes_same n 1 (needs_of 0 n (length es)) (λ (t : Table). halve_units l n (least t) es) (hold_units l n k v es)
      (λ (t : Table). gains (first_key 0 (drop 9 es)) (least t) (halve l n (least t) es t)) (fit_or_split l n es) count old free new after r
      (sym (needs_inner 0 n (length es) (omega arith) d)) (λ t. rw (q, ne_eqb n 0 d)) (λ t. rw (q, ne_eqb n 0 d)) M

-- ---- the entry at its leaf
module _ (need n k v count : ℕ) (es : List Entry) (l : ℕ) (y : N.Node) (S : Shows y l (insert_entry k v es)) (told : ℕ) (e : told ≡ needs_of need n y.len)
    (old free : List ℕ) (found : ℕ) (C : Counts free found) where
  told_is : told ≡ needs_of need n (length (insert_entry k v es))
  told_is = e ∙ ap (needs_of need n) (sym S.len)

  spare_is : (t : Table) → free ≡ free_numbers t → length t ≤ 256 → found ≡ spare t
  unfolding free_numbers
  spare_is t q few = C.is _ (omega (arith, open_length t)) q

  pub lands_held : (new after : List ℕ) (r : Rise) → told ≤ found → FitsOrSplits 0 n k v (entries_of y) count old free new after r
      → Lands need n k v count es old free new after (Some r)
  lands_held new after r h H = record {
    refuses = λ t q few. sym (le-ltb (spare t) (needs_of need n (length (insert_entry k v es))) (omega (arith, told_is, spare_is t q few)));
    stays = tt;
    held = subst (λ (ds : List Entry). FitsOrSplits 0 n k v ds count old free new after r) S.is H;
  }

  pub lands_refused : found < told → Lands need n k v count es old free old free None
  lands_refused h = record {
    refuses = λ t q few. sym (lt-ltb (spare t) (needs_of need n (length (insert_entry k v es))) (omega (arith, told_is, spare_is t q few)));
    stays = (refl, refl);
    held = tt;
  }

-- ---- what a child gave up
pub passes_gained : (l n : ℕ) (es : List Entry) (a : Rise) (d : ℕ) (y : N.Node) (old free new after : List ℕ) (r : Rise) (x : Gain) → a.gain ≡ Some x
    → Shows y d (insert_entry x.key x.number es) → FitsOrSplits l n x.key x.number (entries_of y) a.count old free new after r
    → PassesUp l n es a old free new after r
passes_gained l n es a d y old free new after r x g S H = record {
  gained =
      λ z e. let q : x ≡ z = some_is (sym g ∙ e) in
      subst (λ (o : Gain). FitsOrSplits l n o.key o.number (insert_entry o.key o.number es) a.count old free new after r) q
      (subst (λ (ds : List Entry). FitsOrSplits l n x.key x.number ds a.count old free new after r) S.is H);
  same = λ e. none_some g e;
}
