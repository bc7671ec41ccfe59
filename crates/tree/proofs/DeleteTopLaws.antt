-- What the functions of a delete at node 0 answer, from the answers of those that they call. Assumes nothing.
use mathlib.Core.Path.{◌≡◌, refl, sym, ap, ap₂, ◌∙◌, subst}
use Rattle.std.specs.Prelude.{Some, None}
use mathlib.Core.Bool.{Bool, true, false, ◌&&◌}
use mathlib.Core.List.{List, [], ◌∷◌, ◌++◌, map, foldl, append-nil, append_assoc}
use Prim.Native.Nat.{ℕ, zero, suc, ◌+◌, ◌<◌, ◌≤◌}
use native.Mathlib.Omega.{arith}
use lib.Dec.{leb, ltb}
use lib.ListN.{length, get_or, length-append, length-map}
use borrow.Author.Tests.{eq-eqb, ne_eqb, lt-ltb, le-leb, lt-leb}
use Rattle.lists.proofs.Tests.{cases}
use Rattle.chip.specs.Geometry.{Geometry}
use Rattle.pages.specs.declared.unit.Update.{Update}
use Rattle.pages.specs.declared.unit.Update.TheVariants.{Reset}
use Rattle.pages.specs.declared.unit.Unit as U
use Rattle.numbers.specs.NumberSet.{Changes}
use Rattle.views.specs.Groups.{unit_for}
use Rattle.views.specs.Nodes.{Entry, entry, View, untouched, freed, broken, view, apply, inserted, anew}
use Rattle.tree.specs.declared.balance.Fall.{Fall}
use Rattle.tree.specs.declared.balance.Pair.{Pair}
use Rattle.tree.specs.Tree.{level_of, entries_of, there, Table, at, put, entries_at, root_level, below, child, is_absent, find_at, find}
use Rattle.tree.specs.Step6.{top}
use Rattle.tree.specs.Delete.{Down, kept, lost, leaves, Two, two, neighbours, share, moved, settle, mend, delete_at, take_over, collapsed, delete}
use Rattle.tree.specs.Units.{after_units}
use Rattle.tree.specs.DeleteUnits.{share_units, settle_units, mend_units, delete_units_at, over_units, collapse_units, merging, top_units, delete_units_from, delete_units}
use Rattle.tree.specs.Free.{free_numbers}
use Rattle.tree.specs.Shown.{table_in}
use Rattle.tree.specs.UpdateCode.{UnitsPushed, FrontKept, Ready, Stepped, Deletes}
use Rattle.tree.specs.BalanceCode.{left_of, right_of, NumbersFit, Shares, pair_units, take_over_units, Merges}
use Rattle.tree.specs.DeleteCode.{TableHeld, UnitsMake, is_lost, Fell, IsPair, Settling, Mends, Falls, DeleteWay, Collapsing, Collapses, thin_units, thin_table, MergesOrShares, Finishes}
use Rattle.tree.proofs.Tables.{at_same, at_other, there_old, put_there}
use Rattle.tree.proofs.Least.{there_length, put_length}
use Rattle.tree.proofs.UnitLaws.{touches, after_append}
use Rattle.tree.proofs.PairUnits.{share_length}
use Rattle.tree.proofs.DeleteUnits.{merging_two}
use Rattle.tree.proofs.NodeCount.{nodes_length}
use Rattle.tree.proofs.Height.{thick_level}
use Rattle.tree.proofs.Joints.{Planned, planned}
use Rattle.tree.proofs.FreeLaws.{free_given, free_kept, shown_length}
use Rattle.tree.proofs.PushLaws.{front_pushed, front_same, front_then}
use Rattle.tree.proofs.DeleteCodeLaws.{levels_apart, pair_units_lem, settle_shares, share_at, share_numbers, Thin, mend_thin, holds_long, holds_small, holds_count, holds_pushed}

-- ---- the numbers
-- node 0 is written with the child's view, and the child is freed
over_numbers : (l c : ℕ) (es : List Entry) (t : Table) (free after : List ℕ) → length t ≤ 256 → free ≡ free_numbers t → there (at t 0) ≡ 1 → at t c ≡ view l es
    → Changes true c free after → after ≡ free_numbers (take_over c t)
unfolding take_over
over_numbers l c es t free after few e p q ch =
    let u = put 0 (view l es) t in
    let eu : free ≡ free_numbers u = e ∙ sym (free_kept 0 l es t p) in
    let uc : there (at u c) ≡ 1 = there_old 0 c l es t p ∙ ap there q in
    let lu : length u ≡ length t = put_there 0 (view l es) t p in
    rw q (free_given c u eu (omega arith) (there_length u c uc) ch)

there_view : (w : View) → there w ≡ 1 → w ≡ view (level_of w) (entries_of w)
there_view untouched h = absurd (omega arith)
there_view freed h = absurd (omega arith)
there_view broken h = absurd (omega arith)
there_view (view l es) h = refl

-- node 0 is written, and two others are freed
module _ (a b : ℕ) (ups : List Update) (t z : Table) (p0 : there (at t 0) ≡ 1) (la : a < length t) (lb : b < length t) (na : a ≡ 0 → ⊥) (nb : b ≡ 0 → ⊥)
    (made : after_units (map (unit_for 0) ups ++ (unit_for a (Reset 255) ∷ unit_for b (Reset 255) ∷ [])) t ≡ z) (root : there (at z 0) ≡ 1) where
  abbrev first : Table
  first = put 0 (foldl apply (at t 0) ups) t

  abbrev second : Table
  second = put a freed (put 0 (foldl apply (at t 0) ups) t)

  merged_is : z ≡ put b freed (put a freed (put 0 (foldl apply (at t 0) ups) t))
  unfolding after_units
  merged_is = sym made ∙ after_append (map (unit_for 0) ups) (unit_for a (Reset 255) ∷ unit_for b (Reset 255) ∷ []) t ∙ ap (after_units (unit_for a (Reset 255) ∷ unit_for b (Reset 255) ∷ [])) (touches 0 ups t p0)

  merged_there : there (foldl apply (at t 0) ups) ≡ 1
  merged_there =
      let w = foldl apply (at t 0) ups in
      ap there (sym (at_same 0 w t) ∙ sym (at_other a 0 freed first na) ∙ sym (at_other b 0 freed second nb) ∙ ap (λ (x : Table). at x 0) (sym merged_is)) ∙ root

  pub merge_numbers : (free between after : List ℕ) → length t ≤ 256 → free ≡ free_numbers t → Changes true a free between → Changes true b between after → after ≡ free_numbers z
  merge_numbers free between after few e ca cb =
      let w = foldl apply (at t 0) ups in
      let f0 : free_numbers first ≡ free_numbers t
      = subst (λ (v : View). free_numbers (put 0 v t) ≡ free_numbers t) (sym (there_view w merged_there)) (free_kept 0 (level_of w) (entries_of w) t p0) in
      let l0 : length first ≡ length t = put_there 0 w t p0 in
      let l1 : length second ≡ length t = put_length a freed first (omega arith) ∙ l0 in
      let e1 : between ≡ free_numbers second = free_given a first (e ∙ sym f0) (omega arith) (omega arith) ca in
      free_given b second e1 (omega arith) (omega arith) cb ∙ ap free_numbers (sym merged_is)

-- ---- node 0 with more or fewer entries than one takes over nothing
pub collapse_quiet : (l : ℕ) (t : Table) → (length (entries_at t 0) ≡ 1 → ⊥) → (collapse_units l t ≡ []) × (collapsed l t ≡ t)
collapse_quiet zero t d = (refl, refl)
collapse_quiet (suc l) t d = let e = ne_eqb (length (entries_at t 0)) 1 d in (rw e refl, rw e refl)

collapse_once : (l : ℕ) (t : Table) → length (entries_at t 0) ≡ 1
    → (collapse_units (suc l) t ≡ over_units l (child t 0 0) t ++ collapse_units l (take_over (child t 0 0) t)) × (collapsed (suc l) t ≡ collapsed l (take_over (child t 0 0) t))
collapse_once l t d = let e = eq-eqb (length (entries_at t 0)) 1 d in (rw e refl, rw e refl)

-- how many units node 0 and its child take
push_length : (l c : ℕ) (es : List Entry) → length (take_over_units l c es) ≡ length es + 2
push_length l c es =
    length-append (map (unit_for 0) (anew l es)) (unit_for c (Reset 255) ∷ []) ∙ omega (arith, length-map (anew l es) (unit_for 0), length-map es inserted)

pub over_few : (l c count used : ℕ) (es : List Entry) (old new : List ℕ) → UnitsPushed (take_over_units l c es) count old new used → count + length es + 2 ≤ 960 → used ≤ 960
over_few l c count used es old new P h = omega (arith, P.size, push_length l c es)

over_same : (l m c d : ℕ) (es : List Entry) (t : Table) → m ≡ l → c ≡ d → es ≡ entries_at t d → take_over_units m c es ≡ over_units l d t
unfolding over_units
over_same l m c d es t p q e = rw (p, q, e) refl

over_length : (l c : ℕ) (t : Table) → length (over_units l c t) ≡ length (entries_at t c) + 2
over_length l c t = ap length (sym (over_same l l c c (entries_at t c) t refl refl refl)) ∙ push_length l c (entries_at t c)

-- ---- what is pushed where node 0's child is thin, and where it is not
pub top_thin : (l c k : ℕ) (d : Down) → Thin l 0 c k d → top_units l c k d ≡ thin_units l (neighbours k (entries_at (leaves d) 0)) (leaves d)
top_thin l c k (kept t) T = let z : ◌≡◌ {A = ℕ} 0 1 = ap which T.down in absurd (omega arith)
  where
    which : Down → ℕ
    which (kept t) = 0
    which (lost t) = 1
top_thin l c k (lost t) T = rw (lt-ltb (length (entries_at t c)) 8 T.few) refl

pub top_kept : (l c k : ℕ) (d : Down) (r : Fall) → r.lost ≡ is_lost d → r.len ≡ length (entries_at (leaves d) c)
    → (length (entries_at (leaves d) 0) ≡ 2 → (r.lost && ltb r.len 8) ≡ false)
    → top_units l c k d ≡ mend_units 0 c k d ++ collapse_units (suc l) (leaves (mend l 0 c k d))
top_kept l c k (kept t) r p e f = refl
top_kept l c k (lost t) r p e f =
    let q : (ltb (length (entries_at t c)) 8 && merging (neighbours k (entries_at t 0)) t) ≡ false
    = cases (merging (neighbours k (entries_at t 0)) t)
    (λ m. let y : ltb (length (entries_at t c)) 8 ≡ false = (rw (p, e) at (f (merging_two k (entries_at t 0) t m))) in rw (y) refl)
    (λ m. rw m (and_false (ltb (length (entries_at t c)) 8))) in
    rw q refl
  where
    and_false : (b : Bool) → (b && false) ≡ false
    and_false true = refl
    and_false false = refl

-- two entries are neighbours
two_near : (k : ℕ) (es : List Entry) → length es ≡ 2 → neighbours k es ≡ two [] (get_or es 0 (entry 0 0)) (get_or es 1 (entry 0 0)) []
two_near k [] h = absurd (omega arith)
two_near k (a ∷ []) h = absurd (omega arith)
two_near k (a ∷ b ∷ []) h = refl
two_near k (a ∷ b ∷ c ∷ es) h = absurd (omega arith)

-- ---- the arrays
module _ (g : Geometry) (image lens slots : List ℕ) (limit : ℕ) (hl : limit ≤ 256) where
  abbrev show : ℕ → List ℕ → Table
  show = table_in g image lens slots limit

  -- nothing is pushed
  holds_same : {count : ℕ} {bytes free : List ℕ} {us vs : List U.Unit} {t u : Table} → TableHeld show limit count bytes free us t → (vs ≡ []) × (u ≡ t) → TableHeld show limit count bytes free (us ++ vs) u
  holds_same {count} {bytes} {free} {us} {vs} {t} {u} H q =
      subst (λ (w : Table). TableHeld show limit count bytes free (us ++ vs) w) (sym q.1)
      (subst (λ (xs : List U.Unit). TableHeld show limit count bytes free xs t) (sym (append-nil us) ∙ ap (λ (xs : List U.Unit). us ++ xs) (sym q.0)) H)

  -- ---- node 0 of level l, as long as it has one entry
  module _ (l count : ℕ) (old free : List ℕ) (few : count ≤ 960) where
    collapses_none : ((us : List U.Unit) (t : Table) → TableHeld show limit count old free us t → Collapsing limit l t → count + length (collapse_units l t) ≤ 960 → (collapse_units l t ≡ []) × (collapsed l t ≡ t))
        → Collapses show limit l count old free old free count
    collapses_none f = record { keeps = front_same count count old refl few; is = λ us t H C room. holds_same H (f us t H C room) }

    -- at the leaves
    pub collapses_leaf : l ≡ 0 → Collapses show limit l count old free old free count
    collapses_leaf z = collapses_none (λ us t H C room. rw z (refl, refl))

    module _ (es : List Entry) (e : es ≡ entries_at (show count old) 0) where
      root_is : {us : List U.Unit} {t : Table} → TableHeld show limit count old free us t → es ≡ entries_at t 0
      root_is H = e ∙ ap (λ (s : Table). entries_at s 0) H.table

      -- with more or fewer
      pub collapses_wide : (length es ≡ 1 → ⊥) → Collapses show limit l count old free old free count
      collapses_wide d = collapses_none (λ us t H C room. collapse_quiet l t (λ q. d (ap length (root_is H) ∙ q)))

      -- with one: child c of level lv with the entries ms
      module _ (m c lv : ℕ) (ms : List Entry) (z : l ≡ suc m) (one : length es ≡ 1) (ec : c ≡ below 0 0 es) (em : ms ≡ entries_at (show count old) c) where
        module _ (us : List U.Unit) (t : Table) (H : TableHeld show limit count old free us t) where
          child_is : c ≡ child t 0 0
          child_is = ec ∙ ap (below 0 0) (root_is H)

          entries_are : ms ≡ entries_at t (child t 0 0)
          entries_are = em ∙ ap₂ (λ (s : Table) (i : ℕ). entries_at s i) H.table child_is

          root_one : length (entries_at t 0) ≡ 1
          root_one = ap length (sym (root_is H)) ∙ one

        -- there is room, and the number fits its field
        collapse_able : (us : List U.Unit) (t : Table) → TableHeld show limit count old free us t → Collapsing limit (suc m) t → count + length (collapse_units (suc m) t) ≤ 960
            → (count + length ms + 2 ≤ 960) × (c < 65536)
        collapse_able us t H C room =
            let i = child t 0 0 in
            let O = (C (root_one us t H)).0 in
            let r : count + length (over_units m i t ++ collapse_units m (take_over i t)) ≤ 960
            = subst (λ (vs : List U.Unit). count + length vs ≤ 960) (collapse_once m t (root_one us t H)).0 room in (
              omega (arith, length-append (over_units m i t) (collapse_units m (take_over i t)), over_length m i t, ap length (entries_are us t H)),
              subst (λ (j : ℕ). j < 65536) (sym (child_is us t H)) (holds_small g image lens slots limit hl H i (ap there O.child)),
            )

        pub collapses_unable : (count + length ms + 2 ≤ 960 → c < 65536 → ⊥) → Collapses show limit l count old free old free count
        collapses_unable f =
            collapses_none
            (λ us t H C room.
            let q = collapse_able us t H (subst (λ (i : ℕ). Collapsing limit i t) z C) (subst (λ (i : ℕ). count + length (collapse_units i t) ≤ 960) z room) in
            absurd (f q.0 q.1))

        pub collapses_over : (used last : ℕ) (mid between new after : List ℕ) → lv ≡ level_of (at (show count old) c) → count + length ms + 2 ≤ 960
            → UnitsPushed (take_over_units lv c ms) count old mid used × Changes true c free between → Collapses show limit m used mid between new after last
            → Collapses show limit l count old free new after last
        collapses_over used last mid between new after el fits P K = rw z (record {
          keeps =
              front_then count used last old mid new
              (front_pushed (take_over_units lv c ms) count used old mid P.0 (over_few lv c count used ms old mid P.0 fits)) K.keeps;
          is = is_over;
        })
          where
            is_over : (us : List U.Unit) (t : Table) → TableHeld show limit count old free us t → Collapsing limit (suc m) t → count + length (collapse_units (suc m) t) ≤ 960
                → TableHeld show limit last new after (us ++ collapse_units (suc m) t) (collapsed (suc m) t)
            is_over us t H C room =
                let i = child t 0 0 in
                let Q = C (root_one us t H) in
                let O = Q.0 in
                let xs = over_units m i t in
                let ys = collapse_units m (take_over i t) in
                let q = collapse_once m t (root_one us t H) in
                let r : count + length (xs ++ ys) ≤ 960 = subst (λ (vs : List U.Unit). count + length vs ≤ 960) q.0 room in
                let lm : lv ≡ m = el ∙ ap₂ (λ (s : Table) (j : ℕ). level_of (at s j)) H.table (child_is us t H) ∙ ap level_of O.child in
                let P' : UnitsPushed xs count old mid used
                = subst (λ (vs : List U.Unit). UnitsPushed vs count old mid used) (over_same m lv c i ms t lm (child_is us t H) (entries_are us t H)) P.0 in
                let ch : Changes true i free between = subst (λ (j : ℕ). Changes true j free between) (child_is us t H) P.1 in
                let H₁ : TableHeld show limit used mid between (us ++ xs) (take_over i t)
                = holds_pushed g image lens slots limit hl H P' (omega (arith, length-append xs ys)) O.makes
                (over_numbers m i (entries_at t i) t free between (omega (arith, holds_long g image lens slots limit hl H)) H.numbers O.root O.child ch) in
                let H₂ : TableHeld show limit last new after ((us ++ xs) ++ ys) (collapsed m (take_over i t))
                = K.is (us ++ xs) (take_over i t) H₁ Q.1 (omega (arith, length-append xs ys, P'.size)) in
                subst (λ (w : Table). TableHeld show limit last new after (us ++ collapse_units (suc m) t) w) (sym q.1)
                (subst (λ (vs : List U.Unit). TableHeld show limit last new after (us ++ vs) (collapsed m (take_over i t))) (sym q.0)
                (subst (λ (vs : List U.Unit). TableHeld show limit last new after vs (collapsed m (take_over i t))) (append_assoc us xs ys) H₂))

  -- ---- node 0 with two children p, one of them thin
  module _ (level k count : ℕ) (es xs ys : List Entry) (p : Pair) (old free : List ℕ) (two-es : length es ≡ 2) (P : IsPair 0 es 0 p)
      (ex : xs ≡ entries_at (show count old) p.left) (ey : ys ≡ entries_at (show count old) p.right) where
    -- what is known of them in a table
    record Children (l : ℕ) (us : List U.Unit) (t : Table) (a b : Entry) : Type 0 where
      pub holds : TableHeld show limit count old free us t
      pub near : neighbours k es ≡ two [] a b []
      pub left : p.left ≡ a.value
      pub right : right_of p ≡ b
      pub xs_are : xs ≡ entries_at t a.value
      pub ys_are : ys ≡ entries_at t b.value
      pub root : at t 0 ≡ view (suc l) (entries_at t 0)
      pub on_left : at t a.value ≡ view l xs
      pub on_right : at t b.value ≡ view l ys

    children : (l : ℕ) (us : List U.Unit) (t : Table) → TableHeld show limit count old free us t → es ≡ entries_at t 0 → Settling limit l 0 k t
        → Children l us t (get_or es 0 (entry 0 0)) (get_or es 1 (entry 0 0))
    children l us t H e S =
        let a = get_or es 0 (entry 0 0) in
        let b = get_or es 1 (entry 0 0) in
        let nb : neighbours k es ≡ two [] a b [] = two_near k es two-es in
        let nt : neighbours k (entries_at t 0) ≡ two [] a b [] = ap (neighbours k) (sym e) ∙ nb in
        let fx : xs ≡ entries_at t a.value = ex ∙ ap₂ (λ (s : Table) (j : ℕ). entries_at s j) H.table P.left in
        let fy : ys ≡ entries_at t b.value = ey ∙ ap₂ (λ (s : Table) (j : Entry). entries_at s j.value) H.table P.right in
        record {
          holds = H;
          near = nb;
          left = P.left;
          right = P.right;
          xs_are = fx;
          ys_are = fy;
          root = S.node;
          on_left = S.left [] a b [] nt ∙ ap (view l) (sym fx);
          on_right = S.right [] a b [] nt ∙ ap (view l) (sym fy);
        }

    module _ (l : ℕ) (us : List U.Unit) (t : Table) (a b : Entry) (C : Children l us t a b) where
      named : NumbersFit p
      named = record {
        parent = subst (λ (i : ℕ). i < 65536) (sym P.parent) (omega arith);
        left = subst (λ (i : ℕ). i < 65536) (sym C.left) (holds_small g image lens slots limit hl C.holds a.value (ap there C.on_left));
        right = subst (λ (e : Entry). e.value < 65536) (sym C.right) (holds_small g image lens slots limit hl C.holds b.value (ap there C.on_right));
      }

      same_test : (c : Bool) → leb (length xs + length ys) 16 ≡ c → leb (length (entries_at t a.value) + length (entries_at t b.value)) 16 ≡ c
      same_test c q = subst (λ (v : List Entry). leb (length v + length (entries_at t b.value)) 16 ≡ c) C.xs_are (subst (λ (v : List Entry). leb (length xs + length v) 16 ≡ c) C.ys_are q)

      -- an entry moves over, and node 0 keeps its two entries
      module _ (many : 16 < length xs + length ys) where
        no : leb (length (entries_at t a.value) + length (entries_at t b.value)) 16 ≡ false
        no = same_test false (lt-leb (length xs + length ys) 16 many)

        abbrev shared : Table
        shared = share l 0 (moved (length (entries_at t a.value)) (length (entries_at t b.value))) [] a b [] (entries_at t a.value ++ entries_at t b.value) t

        quiet : (collapse_units (suc l) (leaves (settle l 0 (two [] a b []) t)) ≡ []) × (collapsed (suc l) (leaves (settle l 0 (two [] a b []) t)) ≡ leaves (settle l 0 (two [] a b []) t))
        quiet =
            let e : leaves (settle l 0 (two [] a b []) t) ≡ shared = ap leaves (settle_shares l 0 [] a b [] t no) in
            let n : length (entries_at (leaves (settle l 0 (two [] a b []) t)) 0) ≡ 2
            = ap (λ (w : Table). length (entries_at w 0)) e
            ∙ share_at l 0 (moved (length (entries_at t a.value)) (length (entries_at t b.value))) [] a b [] (entries_at t a.value ++ entries_at t b.value) t in
            collapse_quiet (suc l) (leaves (settle l 0 (two [] a b []) t)) (λ q. omega arith)

        share_units_lem : thin_units l (two [] a b []) t ≡ share_units p.parent (left_of p) (right_of p) xs ys
        share_units_lem =
            let sp : pair_units p xs ys ≡ share_units p.parent (left_of p) (right_of p) xs ys = rw (lt-leb (length xs + length ys) 16 many) refl in
            let th : thin_units l (two [] a b []) t ≡ settle_units 0 (two [] a b []) t ++ collapse_units (suc l) (leaves (settle l 0 (two [] a b []) t)) = rw no refl in
            th ∙ ap (λ (vs : List U.Unit). settle_units 0 (two [] a b []) t ++ vs) quiet.0 ∙ append-nil (settle_units 0 (two [] a b []) t)
            ∙ sym (pair_units_lem 0 [] a b [] xs ys p t P.parent C.left C.right C.xs_are C.ys_are) ∙ sp

        share_holds : (new : List ℕ) (f : Fall) → Shares p 2 xs ys count old new f → UnitsMake limit t (thin_units l (two [] a b []) t) (thin_table l (two [] a b []) t)
            → count + length (thin_units l (two [] a b []) t) ≤ 960 → TableHeld show limit f.count new free (us ++ thin_units l (two [] a b []) t) (thin_table l (two [] a b []) t)
        share_holds new f S m room =
            let four = share_length p.parent (left_of p) (right_of p) xs ys in
            let Q = S.pushed named (omega (arith, ap length share_units_lem)) in
            let en : free_numbers (thin_table l (two [] a b []) t) ≡ free_numbers t
            = ap free_numbers (quiet.1 ∙ ap leaves (settle_shares l 0 [] a b [] t no))
            ∙ share_numbers l 0 (moved (length (entries_at t a.value)) (length (entries_at t b.value))) [] a b [] (entries_at t a.value ++ entries_at t b.value) t
            (ap there C.root) (ap there C.on_left) (ap there C.on_right) in
            holds_pushed g image lens slots limit hl C.holds (subst (λ (vs : List U.Unit). UnitsPushed vs count old new f.count) (sym share_units_lem) Q) room m (C.holds.numbers ∙ sym en)

      -- both go into node 0
      module _ (few : length xs + length ys ≤ 16) where
        abbrev ups : List Update
        ups = anew l (entries_at t a.value ++ entries_at t b.value)

        merge_units_lem : thin_units l (two [] a b []) t
            ≡ map (unit_for 0) (anew l (entries_at t a.value ++ entries_at t b.value)) ++ (unit_for a.value (Reset 255) ∷ unit_for b.value (Reset 255) ∷ [])
        merge_units_lem = rw (same_test true (le-leb (length xs + length ys) 16 few)) refl

        same_units : map (unit_for 0) (anew l (xs ++ ys)) ++ (unit_for p.left (Reset 255) ∷ unit_for p.right (Reset 255) ∷ []) ≡ thin_units l (two [] a b []) t
        same_units =
            let er : p.right ≡ b.value = ap (λ (e : Entry). e.value) C.right in
            rw (C.left, er, C.xs_are, C.ys_are) (sym merge_units_lem)

        merge_length : length (thin_units l (two [] a b []) t) ≡ length xs + length ys + 3
        merge_length =
            ap length (sym same_units)
            ∙ omega (
              arith,
              length-append (map (unit_for 0) (anew l (xs ++ ys))) (unit_for p.left (Reset 255) ∷ unit_for p.right (Reset 255) ∷ []),
              length-map (anew l (xs ++ ys)) (unit_for 0),
              length-map (xs ++ ys) inserted,
              length-append xs ys,
            )

        merge_holds : (new after : List ℕ) (used : ℕ) → Merges l p xs ys count old free new after used → there (at (thin_table l (two [] a b []) t) 0) ≡ 1
            → UnitsMake limit t (thin_units l (two [] a b []) t) (thin_table l (two [] a b []) t)
            → count + length (thin_units l (two [] a b []) t) ≤ 960 → TableHeld show limit used new after (us ++ thin_units l (two [] a b []) t) (thin_table l (two [] a b []) t)
        merge_holds new after used M root m room =
            let H = C.holds in
            let pa = ap there C.on_left in
            let pb = ap there C.on_right in
            let cb : Changes true b.value M.between after = subst (λ (e : Entry). Changes true e.value M.between after) C.right M.second in
            holds_pushed g image lens slots limit hl H (subst (λ (vs : List U.Unit). UnitsPushed vs count old new used) same_units M.pushed) room m
            (merge_numbers a.value b.value ups t (thin_table l (two [] a b []) t) (ap there C.root) (there_length t a.value pa) (there_length t b.value pb)
            (levels_apart t a.value 0 xs (entries_at t 0) l C.on_left C.root) (levels_apart t b.value 0 ys (entries_at t 0) l C.on_right C.root)
            (ap (λ (vs : List U.Unit). after_units vs t) (sym merge_units_lem) ∙ m.after) root
            free M.between after (omega (arith, holds_long g image lens slots limit hl H)) H.numbers (subst (λ (i : ℕ). Changes true i free M.between) C.left M.first) cb)

    -- told of the neighbours that the code looks at
    united : (new after : List ℕ) (used : ℕ) → FrontKept count old used new
        → ((l : ℕ) (us : List U.Unit) (t : Table) (a b : Entry) → level ≡ suc l → Children l us t a b → there (at (thin_table l (two [] a b []) t) 0) ≡ 1
        → UnitsMake limit t (thin_units l (two [] a b []) t) (thin_table l (two [] a b []) t) → count + length (thin_units l (two [] a b []) t) ≤ 960
        → TableHeld show limit used new after (us ++ thin_units l (two [] a b []) t) (thin_table l (two [] a b []) t))
        → MergesOrShares show limit level k es count old free new after used
    united new after used K f = record {
      keeps = K;
      is = λ l us t z H e S root m room.
          let C = children l us t H e S in
          let a = get_or es 0 (entry 0 0) in
          let b = get_or es 1 (entry 0 0) in
          let w : neighbours k es ≡ two [] a b [] = C.near in
          subst (λ (x : Two). TableHeld show limit used new after (us ++ thin_units l x t) (thin_table l x t)) (sym w)
          (f l us t a b z C (subst (λ (x : Two). there (at (thin_table l x t) 0) ≡ 1) w root) (subst (λ (x : Two). UnitsMake limit t (thin_units l x t) (thin_table l x t)) w m)
          (subst (λ (x : Two). count + length (thin_units l x t) ≤ 960) w room));
    }

    pub top_shares : (new : List ℕ) (f : Fall) → 16 < length xs + length ys → Shares p 2 xs ys count old new f → MergesOrShares show limit level k es count old free new free f.count
    top_shares new f many S = united new free f.count S.keeps (λ l us t a b z C root m room. share_holds l us t a b C many new f S m room)

    pub top_merges : (down : ℕ) (new after : List ℕ) (used : ℕ) → level ≡ suc down → length xs + length ys ≤ 16 → count + (length xs + length ys + 3) ≤ 960
        → Merges down p xs ys count old free new after used → MergesOrShares show limit level k es count old free new after used
    top_merges down new after used y few fits M =
        united new after used (front_pushed (map (unit_for 0) (anew down (xs ++ ys)) ++ (unit_for p.left (Reset 255) ∷ unit_for p.right (Reset 255) ∷ [])) count used old new M.pushed
        (omega (
          arith,
          M.pushed.size,
          length-append (map (unit_for 0) (anew down (xs ++ ys))) (unit_for p.left (Reset 255) ∷ unit_for p.right (Reset 255) ∷ []),
          length-map (anew down (xs ++ ys)) (unit_for 0),
          length-map (xs ++ ys) inserted,
          length-append xs ys,
        )))
        (λ l us t a b z C root m room.
        let e : down ≡ l = omega arith in
        merge_holds l us t a b C few new after used (subst (λ (i : ℕ). Merges i p xs ys count old free new after used) e M) root m room)

    pub top_full : count ≤ 960 → length xs + length ys ≤ 16 → (count + (length xs + length ys + 3) ≤ 960 → NumbersFit p → ⊥) → MergesOrShares show limit level k es count old free old free count
    top_full h few f =
        united old free count (front_same count count old refl h)
        (λ l us t a b z C root m room. absurd (f (omega (arith, merge_length l us t a b C few)) (named l us t a b C)))

  -- ---- node 0 after its child's answer r
  module _ (level k : ℕ) (es : List Entry) (r : Fall) (old free : List ℕ) where
    -- two children, one of them thin
    pub finishes_two : (new after : List ℕ) (used : ℕ) → (r.lost && ltb r.len 8) ≡ true → MergesOrShares show limit level k es r.count old free new after used
        → Finishes show limit level k es r old free new after used
    finishes_two new after used zb M = record {
      keeps = M.keeps;
      is = λ l c us d z F e T room.
          let q = mend_thin l 0 c k d r F.lost F.len zb in
          let u = leaves d in
          let x : neighbours k (entries_at u 0) ≡ neighbours k es = ap (neighbours k) (sym e) in
          let eu : top_units l c k d ≡ thin_units l (neighbours k es) u = top_thin l c k d q ∙ ap (λ (y : Two). thin_units l y u) x in
          let ed : collapsed (suc l) (leaves (mend l 0 c k d)) ≡ thin_table l (neighbours k es) u
          = ap (λ (y : Down). collapsed (suc l) (leaves y)) q.is ∙ ap (λ (y : Two). thin_table l y u) x in
          let m : UnitsMake limit u (thin_units l (neighbours k es) u) (thin_table l (neighbours k es) u)
          = subst (λ (y : Table). UnitsMake limit u (thin_units l (neighbours k es) u) y) ed
          (subst (λ (vs : List U.Unit). UnitsMake limit u vs (collapsed (suc l) (leaves (mend l 0 c k d)))) eu T.makes) in
          subst (λ (y : Table). TableHeld show limit used new after (us ++ top_units l c k d) y) (sym ed)
          (subst (λ (vs : List U.Unit). TableHeld show limit used new after (us ++ vs) (thin_table l (neighbours k es) u)) (sym eu)
          (M.is l us u z F.holds e (T.settling q.few) (subst (λ (y : Table). there (at y 0) ≡ 1) ed T.root) m
          (subst (λ (vs : List U.Unit). r.count + length vs ≤ 960) eu room)));
    }

    -- otherwise
    module _ (mid freed : List ℕ) (f : Fall) (M : Mends show limit 0 k es r old free mid freed f) (no : length es ≡ 2 → (r.lost && ltb r.len 8) ≡ false) where
      abbrev Case : (new after : List ℕ) (used : ℕ) → Type 0
      Case new after used =
          (l c : ℕ) (us : List U.Unit) (d : Down) → level ≡ suc l → Fell show limit 0 us d mid freed f → Collapsing limit (suc l) (leaves d)
          → f.count + length (collapse_units (suc l) (leaves d)) ≤ 960
          → TableHeld show limit used new after (us ++ collapse_units (suc l) (leaves d)) (collapsed (suc l) (leaves d))

      mended_then : (new after : List ℕ) (used : ℕ) → FrontKept f.count mid used new → Case new after used → Finishes show limit level k es r old free new after used
      mended_then new after used K h = record {
        keeps = front_then r.count f.count used old mid new M.keeps K;
        is = λ l c us d z F e T room.
            let xs = mend_units 0 c k d in
            let v = mend l 0 c k d in
            let ys = collapse_units (suc l) (leaves v) in
            let eu : top_units l c k d ≡ xs ++ ys = top_kept l c k d r F.lost F.len (λ q. no (ap length e ∙ q)) in
            let all : r.count + length (xs ++ ys) ≤ 960 = subst (λ (vs : List U.Unit). r.count + length vs ≤ 960) eu room in
            let R : Fell show limit 0 (us ++ xs) v mid freed f = M.is l c us d F e T.settling (omega (arith, length-append xs ys)) in
            let H : TableHeld show limit used new after ((us ++ xs) ++ ys) (collapsed (suc l) (leaves v))
            = h l c (us ++ xs) v z R T.collapsing
            (omega (arith, length-append xs ys, length-append us xs, holds_count g image lens slots limit hl R.holds, holds_count g image lens slots limit hl F.holds)) in
            subst (λ (vs : List U.Unit). TableHeld show limit used new after (us ++ vs) (collapsed (suc l) (leaves v))) (sym eu)
            (subst (λ (vs : List U.Unit). TableHeld show limit used new after vs (collapsed (suc l) (leaves v))) (append_assoc us xs ys) H);
      }

      pub finishes_wide : (f.len ≡ 1 → ⊥) → Finishes show limit level k es r old free mid freed f.count
      finishes_wide n =
          mended_then mid freed f.count (front_same f.count f.count mid refl M.keeps.room)
          (λ l c us d z F C room. holds_same F.holds (collapse_quiet (suc l) (leaves d) (λ q. n (F.len ∙ q))))

      pub finishes_collapse : (new after : List ℕ) (used : ℕ) → Collapses show limit level f.count mid freed new after used → Finishes show limit level k es r old free new after used
      finishes_collapse new after used K =
          mended_then new after used K.keeps
          (λ l c us d z F C room. (subst (λ (i : ℕ). Collapses show limit i f.count mid freed new after used) z K).is us (leaves d) F.holds C room)

  -- ---- a delete of k
  module _ (k count : ℕ) (old free : List ℕ) (hk : k < top) where
    abbrev t : Table
    t = show count old

    module _ (us : List U.Unit) (R : Ready limit count free old us (show count old)) where
      plan : Planned limit k (show count old)
      plan =
          let e = shown_length g image lens slots limit count old in
          planned limit k t R.tree R.words hk (thick_level t R.tree R.thick (omega (arith, nodes_length t, hl))) (omega arith)

      start : TableHeld show limit count old free us (show count old)
      start = record { table = refl; numbers = R.numbers; units = R.units }

      stepped : (new after : List ℕ) (used : ℕ) → TableHeld show limit used new after (us ++ delete_units k (show count old)) (delete k (show count old))
          → Stepped g image lens slots limit count us (delete_units k (show count old)) (delete k (show count old)) new after used
      stepped new after used H = record {
        table = H.table;
        numbers = H.numbers;
        units = H.units;
        few =
            omega (
              arith,
              holds_count g image lens slots limit hl H,
              holds_count g image lens slots limit hl start,
              length-append us (delete_units k t),
              plan.few,
            );
      }

    -- node 0 is a leaf
    module _ (new : List ℕ) (r : Fall) (z : root_level (show count old) ≡ 0) (F : Falls show limit 0 0 k count old free new free (Some r)) where
      leaf_done : (us : List U.Unit) (R : Ready limit count free old us (show count old))
          → Stepped g image lens slots limit count us (delete_units k (show count old)) (delete k (show count old)) new free r.count
      unfolding delete_units delete_units_from delete
      leaf_done us R =
          let W : DeleteWay limit 0 0 k t = subst (λ (i : ℕ). DeleteWay limit i 0 k t) z (plan us R).way in
          let eu : delete_units k t ≡ delete_units_at 0 0 k t = rw z refl in
          let ed : delete k t ≡ leaves (delete_at 0 0 k t) = rw z refl in
          let G = F.is us t (start us R) W (omega (arith, R.room, (plan us R).few, ap length eu)) in
          stepped us R new free r.count
          (subst (λ (w : Table). TableHeld show limit r.count new free (us ++ delete_units k t) w) (sym ed)
          (subst (λ (vs : List U.Unit). TableHeld show limit r.count new free (us ++ vs) (leaves (delete_at 0 0 k t))) (sym eu) G.holds))

      pub deletes_leaf : Deletes g image lens slots limit k count old free new free (Some r.count)
      unfolding find
      deletes_leaf = record {
        keeps = F.keeps;
        found = F.absent ∙ ap (λ (i : ℕ). is_absent (find_at i 0 k t)) (sym z);
        stays = tt;
        is = leaf_done;
      }

    pub deletes_leaf_absent : (new : List ℕ) → root_level (show count old) ≡ 0 → Falls show limit 0 0 k count old free new free None
        → Deletes g image lens slots limit k count old free new free None
    unfolding find
    deletes_leaf_absent new z F = record {
      keeps = tt;
      found = F.absent ∙ ap (λ (i : ℕ). is_absent (find_at i 0 k t)) (sym z);
      stays = F.stays;
      is = tt;
    }

    -- node 0 of level m + 1 with the entries es, and its child c
    module _ (m c : ℕ) (es : List Entry) (mid freed : List ℕ) (z : root_level (show count old) ≡ suc m) (ec : c ≡ below k 0 es) (e : es ≡ entries_at (show count old) 0) where
      child_of : c ≡ child (show count old) 0 k
      child_of = ec ∙ ap (below k 0) e

      same_find : is_absent (find_at m c k (show count old)) ≡ is_absent (find k (show count old))
      unfolding find
      same_find = ap (λ (j : ℕ). is_absent (find_at m j k t)) child_of ∙ ap (λ (i : ℕ). is_absent (find_at i 0 k t)) (sym z)

      pub deletes_absent : Falls show limit m c k count old free mid freed None → Deletes g image lens slots limit k count old free mid freed None
      deletes_absent F = record { keeps = tt; found = F.absent ∙ same_find; stays = F.stays; is = tt }

      module _ (r : Fall) (F : Falls show limit m c k count old free mid freed (Some r)) (lv : ℕ) (new after : List ℕ) (used : ℕ) (zl : lv ≡ suc m)
          (N : Finishes show limit lv k es r mid freed new after used) where
        delete_done : (us : List U.Unit) (R : Ready limit count free old us (show count old))
            → Stepped g image lens slots limit count us (delete_units k (show count old)) (delete k (show count old)) new after used
        unfolding delete_units delete_units_from delete delete_at
        delete_done us R =
            let i = child t 0 k in
            let W : DeleteWay limit (suc m) 0 k t = subst (λ (j : ℕ). DeleteWay limit j 0 k t) z (plan us R).way in
            let xs = delete_units_at m (child t 0 k) k t in
            let d = delete_at m (child t 0 k) k t in
            let ys = top_units m (child t 0 k) k (delete_at m (child t 0 k) k t) in
            let u = collapsed (suc m) (leaves (mend m 0 i k d)) in
            let eu : delete_units k t ≡ xs ++ ys = rw z refl in
            let ed : delete k t ≡ u = rw z refl in
            let few : length (xs ++ ys) ≤ 57 = subst (λ (vs : List U.Unit). length vs ≤ 57) eu (plan us R).few in
            let F' : Falls show limit m (child t 0 k) k count old free mid freed (Some r) = subst (λ (j : ℕ). Falls show limit m j k count old free mid freed (Some r)) child_of F in
            let G : Fell show limit i (us ++ xs) d mid freed r = F'.is us t (start us R) W.1 (omega (arith, R.room, length-append xs ys)) in
            let H : TableHeld show limit used new after ((us ++ xs) ++ ys) u
            = N.is m i (us ++ xs) d zl G (e ∙ sym W.0.same) ((plan us R).topping m z)
            (omega (
              arith,
              R.room,
              length-append xs ys,
              length-append us xs,
              holds_count g image lens slots limit hl G.holds,
              holds_count g image lens slots limit hl (start us R),
            )) in
            stepped us R new after used
            (subst (λ (w : Table). TableHeld show limit used new after (us ++ delete_units k t) w) (sym ed)
            (subst (λ (vs : List U.Unit). TableHeld show limit used new after (us ++ vs) u) (sym eu)
            (subst (λ (vs : List U.Unit). TableHeld show limit used new after vs u) (append_assoc us xs ys) H)))

        pub deletes_done : Deletes g image lens slots limit k count old free new after (Some used)
        deletes_done = record {
          keeps = front_then count r.count used old mid new F.keeps N.keeps;
          found = F.absent ∙ same_find;
          stays = tt;
          is = delete_done;
        }
