-- What the code of an insert answers where the arrays show a tree: the way up from the leaf, and when it is refused. Assumes nothing.
use mathlib.Core.Path.{◌≡◌, refl, sym, ap, ap₂, ◌∙◌, subst}
use Rattle.std.specs.Prelude.{Option, Some, None}
use mathlib.Core.Bool.{Bool, true, false, cond, ◌&&◌}
use mathlib.Core.Logic.{⊎_elim}
use mathlib.Core.List.{List, ◌++◌, append-nil}
use Prim.Native.Nat.{ℕ, zero, suc, ◌+◌, ◌<◌, ◌≤◌}
use native.Mathlib.Omega.{arith}
use lib.Dec.{leb, ltb}
use lib.ListN.{length, take, drop, length-append}
use borrow.Author.Tests.{ltb-true, ltb-false, le-leb, lt-leb, lt-ltb, le-ltb, ne_eqb}
use Rattle.lists.proofs.Tests.{cases, clash, below_or_not}
use Rattle.chip.specs.Geometry.{Geometry}
use Rattle.chip.specs.Chip.{pages_of}
use Rattle.pages.specs.declared.unit.Unit as U
use Rattle.pages.specs.Units.{decodes}
use Rattle.views.specs.Nodes.{Entry, View, view, insert_entry}
use Rattle.tree.specs.Tree.{level_of, entries_of as entries_in, there, Table, at, put, entries_at, root_level, below, child, least, nodes}
use Rattle.tree.specs.Step6.{top, is_level, Leads}
use Rattle.tree.specs.Insert.{Up, stop, gains, table_of, halve, fit_or_split, gain, pass, insert_at, inserted, refusal, done, insert, spills, takes, needs}
use Rattle.tree.specs.InsertUnits.{gain_units, pass_units, insert_units_at, insert_units}
use Rattle.tree.specs.Free.{free_numbers}
use Rattle.tree.specs.Shown.{table_in}
use Rattle.tree.specs.UpdateCode.{UnitsPushed, Ready, Stepped, Inserts}
use Rattle.tree.specs.InsertCode.{spare, needs_of, needs_from, FitsOrSplits, Lands, PassesUp, InsertWay, Outcome, Rises}
use Rattle.tree.specs.declared.insert.Rise.{Rise}
use Rattle.tree.specs.declared.insert.Gain.{Gain}
use Rattle.tree.proofs.Tables.{at_other, next_length}
use Rattle.tree.proofs.Least.{least_free}
use Rattle.tree.proofs.FreeLaws.{open_count, shown_length}
use Rattle.tree.proofs.Step6.{is_node}
use Rattle.tree.proofs.Paths.{leads}
use Rattle.tree.proofs.Fresh.{fresh}
use Rattle.tree.proofs.InsertNumbers.{insert_exact}
use Rattle.tree.proofs.InsertDone.{insert_done}
use Rattle.tree.proofs.InsertUnits.{insert_units_lem, insert_valid}
use Rattle.tree.proofs.PushLaws.{written_two, front_then}
use Rattle.tree.proofs.ShownLaws.{shown_pushed, pushed_good}
use Rattle.tree.proofs.Height.{thick_level, inserted_level}
use Rattle.tree.proofs.InsertCodeLaws.{some_is, none_some, needs_less, numbers_left}

-- ---- what is not on the way stays
gain_other : (l n k v : ℕ) (u : Table) (j : ℕ) → (n ≡ j → ⊥) → (n ≡ 0 → ⊥) → there (at u j) ≡ 1 → at (table_of (gain l n k v u)) j ≡ at u j
unfolding gain fit_or_split halve
gain_other l n k v u j d z h =
    let es = insert_entry k v (entries_at u n) in
    let m : least u ≡ j → ⊥ = λ e. omega (arith, least_free u, ap (λ (i : ℕ). there (at u i)) e) in
    cases (leb (length es) 16)
    (λ t. rw t (at_other n j (view l es) u d))
    (λ t. rw (t, ne_eqb n 0 z) (at_other (least u) j (view l (drop 9 es)) (put n (view l (take 9 es)) u) m ∙ at_other n j (view l (take 9 es)) u d))

pass_other : (l n : ℕ) (r : Up) (j : ℕ) → (n ≡ j → ⊥) → (n ≡ 0 → ⊥) → there (at (table_of r) j) ≡ 1 → at (table_of (pass l n r)) j ≡ at (table_of r) j
pass_other l n (stop u) j d z h = refl
pass_other l n (gains k m u) j d z h = gain_other l n k m u j d z h

leads_level : (l n k : ℕ) (t : Table) → Leads l n k t → is_level l (at t n) ≡ true
leads_level zero n k t h = h
leads_level (suc l) n k t h = h.0

-- a node of the way is the view of its level
leads_view : (l n k : ℕ) (t : Table) → Leads l n k t → at t n ≡ view l (entries_at t n)
leads_view l n k t h = is_node l (at t n) (leads_level l n k t h)

-- a node of another level is another node
level_apart : (l n k j : ℕ) (t : Table) → Leads l n k t → l < level_of (at t j) → n ≡ j → ⊥
level_apart l n k j t h q e =
    let a : level_of (at t n) ≡ l = ap level_of (leads_view l n k t h) in
    let b : level_of (at t j) ≡ level_of (at t n) = ap (λ (i : ℕ). level_of (at t i)) (sym e) in
    omega arith

module _ (k v : ℕ) (t : Table) (j : ℕ) (p : there (at t j) ≡ 1) where
  -- an insert below the level of node j leaves it
  insert_other : (l n : ℕ) → Leads l n k t → l < root_level t → l < level_of (at t j) → at (table_of (insert_at l n k v t)) j ≡ at t j
  unfolding insert_at
  insert_other zero n h r q = gain_other 0 n k v t j (level_apart 0 n k j t h q) (level_apart 0 n k 0 t h r) p
  insert_other (suc l) n h r q =
      let up = insert_at l (child t n k) k v t in
      let e : at (table_of up) j ≡ at t j = insert_other l (child t n k) h.1 (omega arith) (omega arith) in
      pass_other (suc l) n up j (level_apart (suc l) n k j t h q) (level_apart (suc l) n k 0 t h r) (ap there e ∙ p) ∙ e

-- ---- how many numbers an insert needs
-- what a node but node 0 adds to what its child needs
inner_needs : (b : Bool) (need n len : ℕ) → (n ≡ 0 → ⊥) → cond b (needs_of need n len) 0 ≡ takes n (b && ltb 16 len) + cond (b && ltb 16 len) need 0
inner_needs false need n len d = refl
inner_needs true need n len d =
    ⊎_elim
    (λ (q : 16 < len). rw (lt-leb len 16 q, lt-ltb 16 len q, ne_eqb n 0 d) (omega arith))
    (λ (q : len ≤ 16). rw (le-leb len 16 q, le-ltb 16 len q))
    (below_or_not 16 len)

-- and node 0
root_step : (b : Bool) (len : ℕ) → cond b (needs_of 0 0 len) 0 ≡ takes 0 (b && ltb 16 len)
root_step false len = refl
root_step true len =
    ⊎_elim
    (λ (q : 16 < len). rw (lt-leb len 16 q, lt-ltb 16 len q))
    (λ (q : len ≤ 16). rw (le-leb len 16 q, le-ltb 16 len q))
    (below_or_not 16 len)

module _ (k v : ℕ) (t : Table) where
  -- below node 0
  path_needs : (need l n : ℕ) → Leads l n k t → l < root_level t → needs_from need l n k v t ≡ needs l n k v t + cond (spills l n k v t) need 0
  path_needs need zero n h r = inner_needs true need n (length (insert_entry k v (entries_at t n))) (level_apart 0 n k 0 t h r)
  path_needs need (suc l) n h r =
      let c = child t n k in
      let len = suc (length (entries_at t n)) in
      path_needs (needs_of need n len) l c h.1 (omega arith)
      ∙ omega (arith, inner_needs (spills l c k v t) need n len (level_apart (suc l) n k 0 t h r))

  -- from node 0 of level l
  root_needs : (l : ℕ) → Leads l 0 k t → l ≡ root_level t → needs_from 0 l 0 k v t ≡ needs l 0 k v t
  root_needs zero h r = root_step true (length (insert_entry k v (entries_at t 0)))
  root_needs (suc l) h r =
      let c = child t 0 k in
      let len = suc (length (entries_at t 0)) in
      path_needs (needs_of 0 0 len) l c h.1 (omega arith) ∙ omega (arith, root_step (spills l c k v t) len)

-- ---- one node of a table gains an entry
gain_outcome : (need l n k v count : ℕ) (u : Table) → length u ≤ 256 → there (at u n) ≡ 1 → needs_of need n (length (insert_entry k v (entries_at u n))) ≤ spare u
    → (old free new after : List ℕ) (r : Rise) → free ≡ free_numbers u → count + length (gain_units l n k v u) ≤ 960
    → FitsOrSplits l n k v (insert_entry k v (entries_at u n)) count old free new after r → Outcome need u (gain_units l n k v u) (gain l n k v u) count old new after r
unfolding gain gain_units
gain_outcome need l n k v count u few on h old free new after r e room H =
    let es = insert_entry k v (entries_at u n) in
    let K = numbers_left need l n es u few on h in
    record { went = H.is u e few on (omega (arith, needs_less need n (length es))) room; long = K.long; left = K.left }

-- ---- the way up
-- the child gave up nothing
stop_outcome : (need told l n : ℕ) (t : Table) (xs : List U.Unit) (up : Up) (count : ℕ) (old new after : List ℕ) (r : Rise) → r.gain ≡ None
    → Outcome told t xs up count old new after r → Outcome need t (xs ++ pass_units l n up) (pass l n up) count old new after r
stop_outcome need told l n t xs (stop u) count old new after r g O = rw append-nil (record { went = O.went; long = O.long; left = λ q. clash q refl })
stop_outcome need told l n t xs (gains k m u) count old new after r g O = none_some O.went.gain g

-- by what a parent gains
by_gain : {Q : Type 0} (o : Option Gain) → ((x : Gain) → o ≡ Some x → Q) → (o ≡ None → Q) → Q
by_gain None f h = h refl
by_gain (Some x) f h = f x refl

-- the parent's units after its child's
then_outcome : (need : ℕ) (t u : Table) (xs ys : List U.Unit) (up : Up) (count i : ℕ) (old mid new after : List ℕ) (r : Rise) → UnitsPushed xs count old mid i → i ≤ 960
    → length u ≡ length t → Outcome need u ys up i mid new after r → Outcome need t (xs ++ ys) up count old new after r
then_outcome need t u xs ys up count i old mid new after r w h q O =
    let W = O.went in
    record {
      went = record {
        units = written_two xs ys count i r.count old mid new w W.units h;
        gain = W.gain;
        numbers = W.numbers;
      };
      long = O.long ∙ q;
      left = O.left;
    }

-- the same node, told of other names
holds_same : (l n i j p q count : ℕ) (es ds : List Entry) (old free new after : List ℕ) (r : Rise) → i ≡ j → p ≡ q → es ≡ ds
    → FitsOrSplits l n i p (insert_entry i p es) count old free new after r → FitsOrSplits l n j q (insert_entry j q ds) count old free new after r
holds_same l n i j p q count es ds old free new after r h₁ h₂ h₃ h = rw (← h₁, ← h₂, ← h₃) h

-- ---- the arrays of a state
module _ (g : Geometry) (image lens slots : List ℕ) (limit : ℕ) (hl : limit ≤ 256) (k v count : ℕ) (old free : List ℕ) where
  abbrev t : Table
  t = table_in g image lens slots limit count old

  few : length t ≤ 256
  few = omega (arith, shown_length g image lens slots limit count old)

  -- ---- at the leaf
  leaf_rises : (need n : ℕ) (new after : List ℕ) (r : Option Rise) → Lands need n k v count (entries_at t n) old free new after r
      → Rises g image lens slots limit 0 n need k v count old free new after r
  unfolding insert_at insert_units_at
  leaf_rises need n new after None L = record { keeps = tt; whole = L.stays; refuses = λ e. L.refuses t e few; is = tt }
  leaf_rises need n new after (Some x) L = record {
    keeps = L.held.keeps;
    whole = tt;
    refuses = λ e. L.refuses t e few;
    is =
        λ e W h. gain_outcome need 0 n k v count t few (ap there (leads_view 0 n k t W.leads))
        (ltb-false (spare t) (needs_of need n (length (insert_entry k v (entries_at t n)))) (sym (L.refuses t e few))) old free new after x e h L.held;
  }

  pub rises_leaf : (need n : ℕ) (new after : List ℕ) (r : Option Rise) (l : ℕ) (es : List Entry) → l ≡ 0 → es ≡ entries_at t n → Lands need n k v count es old free new after r
      → Rises g image lens slots limit l n need k v count old free new after r
  rises_leaf need n new after r l es z e L =
      subst (λ (i : ℕ). Rises g image lens slots limit i n need k v count old free new after r) (sym z)
      (leaf_rises need n new after r (subst (λ (ds : List Entry). Lands need n k v count ds old free new after r) e L))

  -- ---- from a child to its parent
  way_child : (m n : ℕ) → InsertWay (suc m) n k v t → InsertWay m (child t n k) k v t
  way_child m n W = record { leads = W.leads.1; fresh = W.fresh.1; low = omega (arith, W.low) }

  module _ (need m n : ℕ) where
    abbrev c : ℕ
    c = child t n k

    -- what the child is told
    abbrev told : ℕ
    told = needs_of need n (suc (length (entries_at t n)))

    -- an insert under the child leaves the node
    node_kept : InsertWay (suc m) n k v t → at (table_of (insert_at m (child t n k) k v t)) n ≡ at t n
    node_kept W =
        let vn = leads_view (suc m) n k t W.leads in
        insert_other k v t n (ap there vn) m (child t n k) W.leads.1 (omega (arith, W.low)) (omega (arith, ap level_of vn))

    -- a refusal is passed on
    refused_up : (mid fewer : List ℕ) → Rises g image lens slots limit m c told k v count old free mid fewer None
        → Rises g image lens slots limit (suc m) n need k v count old free mid fewer None
    refused_up mid fewer A = record { keeps = tt; whole = A.whole; refuses = A.refuses; is = tt }

    module _ (mid fewer : List ℕ) (r : Rise) (A : Rises g image lens slots limit m c told k v count old free mid fewer (Some r)) where
      -- the child's answer is passed on
      rises_stop : r.gain ≡ None → Rises g image lens slots limit (suc m) n need k v count old free mid fewer (Some r)
      unfolding insert_at insert_units_at
      rises_stop y = record {
        keeps = A.keeps;
        whole = tt;
        refuses = A.refuses;
        is =
            λ e W h. let xs = insert_units_at m c k v t in
            let up = insert_at m c k v t in
            stop_outcome need told (suc m) n t xs up count old mid fewer r y
            (A.is e (way_child m n W) (omega (arith, length-append xs (pass_units (suc m) n up))));
      }

      module _ (new after : List ℕ) (r₂ : Rise) (x : Gain) (y : r.gain ≡ Some x)
          (H : FitsOrSplits (suc m) n x.key x.number (insert_entry x.key x.number (entries_at t n)) r.count mid fewer new after r₂) where
        -- the node gains what its child gave up
        up_outcome : InsertWay (suc m) n k v t → (xs : List U.Unit) (up : Up) → insert_at m (child t n k) k v t ≡ up → count + length (xs ++ pass_units (suc m) n up) ≤ 960
            → Outcome told t xs up count old mid fewer r → Outcome need t (xs ++ pass_units (suc m) n up) (pass (suc m) n up) count old new after r₂
        up_outcome W xs (stop u) e room O = none_some y O.went.gain
        up_outcome W xs (gains k' m' u) e room O =
            let X = O.went in
            let z : x ≡ record { key = k'; number = m' } = some_is (sym y ∙ X.gain) in
            let ys = gain_units (suc m) n k' m' u in
            let en : at u n ≡ at t n = ap (λ (q : Up). at (table_of q) n) (sym e) ∙ node_kept W in
            let one : suc (length (entries_at t n)) ≡ length (insert_entry k' m' (entries_at u n))
            = sym (ap (λ (w : View). length (insert_entry k' m' (entries_in w))) en ∙ W.fresh.0 k' m' u e) in
            then_outcome need t u xs ys (gain (suc m) n k' m' u) count r.count old mid new after r₂ X.units A.keeps.room O.long
            (gain_outcome need (suc m) n k' m' r.count u (omega (arith, O.long, few)) (ap there (en ∙ leads_view (suc m) n k t W.leads))
            (subst (λ (a : ℕ). needs_of need n a ≤ spare u) one (O.left refl)) mid fewer new after r₂ X.numbers
            (omega (arith, X.units.size, length-append xs ys))
            (holds_same (suc m) n x.key k' x.number m' r.count (entries_at t n) (entries_at u n) mid fewer new after r₂ (ap (λ (o : Gain). o.key) z) (ap (λ (o : Gain). o.number) z) (ap entries_in (sym en)) H))

        rises_gain : Rises g image lens slots limit (suc m) n need k v count old free new after (Some r₂)
        unfolding insert_at insert_units_at
        rises_gain = record {
          keeps = front_then count r.count r₂.count old mid new A.keeps H.keeps;
          whole = tt;
          refuses = A.refuses;
          is =
              λ e W h. let xs = insert_units_at m c k v t in
              let up = insert_at m c k v t in
              up_outcome W xs up refl h (A.is e (way_child m n W) (omega (arith, length-append xs (pass_units (suc m) n up))));
        }

      rises_up : (new after : List ℕ) (a : Rise) → PassesUp (suc m) n (entries_at t n) r mid fewer new after a → Rises g image lens slots limit (suc m) n need k v count old free new after (Some a)
      rises_up new after a P =
          by_gain r.gain
          (λ x y. rises_gain new after a x y (P.gained x y))
          (λ y. let s = P.same y in
          subst (λ (b : List ℕ). Rises g image lens slots limit (suc m) n need k v count old free b after (Some a)) (sym s.0)
          (subst (λ (b : List ℕ). Rises g image lens slots limit (suc m) n need k v count old free mid b (Some a)) (sym s.1)
          (subst (λ (b : Rise). Rises g image lens slots limit (suc m) n need k v count old free mid fewer (Some b)) (sym s.2) (rises_stop y))))

  -- what the child is told, by the entries of the node
  child_told : (need l m n c told : ℕ) (es : List Entry) (mid fewer : List ℕ) (r : Option Rise) → es ≡ entries_at t n → c ≡ below k 0 es
      → told ≡ needs_of need n (suc (length es)) → Rises g image lens slots limit m c told k v count old free mid fewer r
      → Rises g image lens slots limit m (child t n k) (needs_of need n (suc (length (entries_at t n)))) k v count old free mid fewer r
  child_told need l m n c told es mid fewer r e q w A =
      let w' : told ≡ needs_of need n (suc (length (entries_at t n))) = w ∙ ap (λ (ds : List Entry). needs_of need n (suc (length ds))) e in
      subst (λ (i : ℕ). Rises g image lens slots limit m i (needs_of need n (suc (length (entries_at t n)))) k v count old free mid fewer r) (q ∙ ap (below k 0) e)
      (subst (λ (i : ℕ). Rises g image lens slots limit m c i k v count old free mid fewer r) w' A)

  pub rises_refused : (need l m n c told : ℕ) (es : List Entry) (mid fewer : List ℕ) → l ≡ suc m → es ≡ entries_at t n → c ≡ below k 0 es
      → told ≡ needs_of need n (suc (length es)) → Rises g image lens slots limit m c told k v count old free mid fewer None
      → Rises g image lens slots limit l n need k v count old free mid fewer None
  rises_refused need l m n c told es mid fewer z e q w A =
      subst (λ (i : ℕ). Rises g image lens slots limit i n need k v count old free mid fewer None) (sym z)
      (refused_up need m n mid fewer (child_told need l m n c told es mid fewer None e q w A))

  pub rises_pass : (need l m n c told : ℕ) (es : List Entry) (mid fewer new after : List ℕ) (r a : Rise) → l ≡ suc m → es ≡ entries_at t n → c ≡ below k 0 es
      → told ≡ needs_of need n (suc (length es)) → Rises g image lens slots limit m c told k v count old free mid fewer (Some r) → PassesUp l n es r mid fewer new after a
      → Rises g image lens slots limit l n need k v count old free new after (Some a)
  rises_pass need l m n c told es mid fewer new after r a z e q w A P =
      subst (λ (i : ℕ). Rises g image lens slots limit i n need k v count old free new after (Some a)) (sym z)
      (rises_up need m n mid fewer r (child_told need l m n c told es mid fewer (Some r) e q w A) new after a
      (subst (λ (i : ℕ). PassesUp i n (entries_at t n) r mid fewer new after a) z (subst (λ (ds : List Entry). PassesUp l n ds r mid fewer new after a) e P)))

  -- ---- an insert from node 0
  module _ (hk : k < top) (hv : v < top) (us : List U.Unit) (R : Ready limit count free old us t) where
    abbrev need : ℕ
    need = needs_from 0 (root_level t) 0 k v t

    way : InsertWay (root_level t) 0 k v t
    way = record { leads = leads k t R.tree hk; fresh = fresh k v t R.tree hk; low = omega arith }

    exact : insert limit k v t ≡ cond (leb (nodes t + needs (root_level t) 0 k v t) limit) (done (inserted k v t)) (refusal 5)
    exact = insert_exact limit k v t R.tree hk (omega (arith, next_length t, shown_length g image lens slots limit count old))

    counts : nodes t + spare t ≡ limit
    counts = open_count t ∙ shown_length g image lens slots limit count old

    too_few : spare t < need → insert limit k v t ≡ refusal 5
    too_few h = exact ∙ rw (lt-leb (nodes t + needs (root_level t) 0 k v t) limit (omega (arith, counts, root_needs k v t (root_level t) way.leads refl)))

    enough : need ≤ spare t → insert limit k v t ≡ done (inserted k v t)
    enough h = exact ∙ rw (le-leb (nodes t + needs (root_level t) 0 k v t) limit (omega (arith, counts, root_needs k v t (root_level t) way.leads refl)))

    -- node 0 is at level 3 or below, and stays there
    high : nodes t ≤ 256
    high = omega (arith, counts)

    low : root_level t ≤ 3
    low = thick_level t R.tree R.thick high

    low_after : root_level (inserted k v t) ≤ 3
    low_after = inserted_level k v t R.tree hk R.thick high

    -- it is made
    module _ (new after : List ℕ) (a : Rise) (A : Rises g image lens slots limit (root_level t) 0 0 k v count old free new after (Some a)) where
      made : insert limit k v t ≡ done (inserted k v t)
      made = enough (ltb-false (spare t) (needs_from 0 (root_level t) 0 k v t) (sym (A.refuses R.numbers)))

      -- at most 60 units, which obey the layout
      short : length (insert_units k v t) ≤ 60
      short = (insert_units_lem k v t R.tree hk low).few low_after

      outcome : Outcome 0 t (insert_units k v t) (insert_at (root_level t) 0 k v t) count old new after a
      unfolding insert_units
      outcome = A.is R.numbers way (omega (arith, short, R.room))

      stepped : Stepped g image lens slots limit count us (insert_units k v t) (inserted k v t) new after a.count
      unfolding inserted
      stepped =
          let d = insert_done limit k v t (inserted k v t) made in
          let xs = insert_units k v t in
          let ok = (insert_valid limit k v t R.tree R.words hk hv (omega arith) low low_after d.1).units in
          let X = outcome.went in
          let P = X.units in
          let fits : count + length xs ≤ 960 = omega (arith, short, R.room) in
          record {
            table =
                ap₂ (λ (i : ℕ) (y : List ℕ). table_in g image lens slots limit i y) P.size P.bytes
                ∙ shown_pushed g limit (pages_of g image) lens slots count old us xs R.units ok fits P.long ∙ (insert_units_lem k v t R.tree hk low).is;
            numbers = X.numbers;
            units =
                ap₂ (λ (i : ℕ) (y : List ℕ). decodes limit i y) P.size P.bytes
                ∙ pushed_good g limit (pages_of g image) lens slots count old us xs R.units ok fits P.long;
            few = omega (arith, P.size, short);
          }

  pub insert_refused : k < top → v < top → (l : ℕ) → l ≡ root_level t → (new after : List ℕ) → Rises g image lens slots limit l 0 0 k v count old free new after None
      → Inserts g image lens slots limit k v count old free new after None
  insert_refused hk hv l e new after B =
      let A = subst (λ (i : ℕ). Rises g image lens slots limit i 0 0 k v count old free new after None) e B in
      record {
        keeps = tt;
        stays = A.whole;
        refused = λ us R. too_few hk hv us R (ltb-true (spare t) (needs_from 0 (root_level t) 0 k v t) (sym (A.refuses R.numbers)));
        done = tt;
      }

  pub insert_made : k < top → v < top → (l : ℕ) → l ≡ root_level t → (a : Rise) (new after : List ℕ)
      → Rises g image lens slots limit l 0 0 k v count old free new after (Some a) → Inserts g image lens slots limit k v count old free new after (Some a.count)
  insert_made hk hv l e a new after B =
      let A = subst (λ (i : ℕ). Rises g image lens slots limit i 0 0 k v count old free new after (Some a)) e B in
      record {
        keeps = A.keeps;
        stays = tt;
        refused = tt;
        done = λ us R. (made hk hv us R new after a A, stepped hk hv us R new after a A);
      }
