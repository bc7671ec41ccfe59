-- The steps of step 6 in the code: the rules of one node, a walk over nodes with its counts, and the counts at the end. Assumes nothing.
use mathlib.Core.Path.{◌≡◌, refl, sym, ap, ap₂, ◌∙◌}
use mathlib.Core.Logic.{⊎_elim}
use mathlib.Core.Bool.{Bool, true, false, ◌&&◌, ◌||◌}
use mathlib.Core.List.{List, [], ◌∷◌, ◌++◌, map}
use Prim.Native.Nat.{ℕ, zero, suc, ◌+◌, ◌<◌, ◌≤◌}
use native.Mathlib.Numerals.{add-one}
use native.Mathlib.Omega.{arith}
use lib.Dec.{leb, eqb}
use lib.ListN.{length, take, drop, get_or, replicate, length-take, drop_of_length-le, get_or-eq_default}
use lib.Seq.{slice-cons}
use borrow.Author.Tests.{eq-eqb, ne_eqb, le-leb, lt-leb, lt-ltb, le-ltb, eqb-true}
use Rattle.lists.specs.Lists.{tab}
use Rattle.lists.proofs.Places.{get_d_same}
use Rattle.lists.proofs.Tests.{cases, clash, and_left, and_right, and_intro, below_or_not}
use Rattle.lists.proofs.Flats.{length_tab}
use Rattle.chip.specs.Geometry.{Geometry}
use Rattle.chip.specs.Chip.{pages_of}
use Rattle.views.specs.declared.node.Node.{Node}
use Rattle.views.specs.declared.fold.Stage.{Stage}
use Rattle.views.specs.declared.fold.Stage.TheVariants.{Untouched, Freed, Broken, Full}
use Rattle.views.specs.Nodes.{Entry, entry, View, untouched, broken}
use Rattle.views.specs.NodeCode as C
use Rattle.views.specs.FoldCode.{view_at}
use Rattle.views.specs.Stored.{stored_list, list_view, buffer_view}
use Rattle.views.proofs.NodeLaws.{length_entries}
use Rattle.tree.specs.Tree.{level_of, entries_of, there, Table, at, entries_at, root_level, first_key}
use Rattle.tree.specs.Step6.{top, is_level, keys_in, are_subtrees, is_subtree, reached, times, once_from, step6}
use Rattle.tree.specs.Free.{is_open}
use Rattle.tree.specs.Shown.{shown}
use Rattle.tree.specs.FindCode.{entries_from, ShowsView}
use Rattle.tree.specs.CheckCode.{pages_table, starts_at, obeys_at, own_at, under, Twice, Walks, MarksNumber, counts_from, CountsNodes, is_grown, is_found_thin, is_some_true, ChecksTree}
use Rattle.tree.specs.Thick.{fewest, is_thin, thin_from, thin}
use Rattle.std.specs.Prelude.{Option, Some, None, is_some}
use Rattle.tree.specs.declared.check.Growth.{Growth}
use Rattle.tree.specs.declared.check.Growth.TheVariants.{NoTree}
use Rattle.tree.proofs.Shape.{times_append, hit_same}
use Rattle.tree.proofs.Step6.{at_length, BranchRules, branch_rules, once_at}
use Rattle.tree.proofs.Paths.{level_there}
use Rattle.tree.proofs.FindLaws.{shown_same}

-- ---- the keys of one node
module _ (n i : ℕ) (ks vs : List ℕ) (h : i < n) (lk : n ≤ length ks) (lv : n ≤ length vs) where
  pub from_next : entries_from n i ks vs ≡ entry (get_or ks i 0) (get_or vs i 0) ∷ entries_from n (i + 1) ks vs
  from_next = rw (slice-cons i n ks 0 h lk, slice-cons i n vs 0 h lv, add-one)

  module _ (lo hi : ℕ) where
    pub keys_low : get_or ks i 0 < lo → keys_in lo hi (entries_from n i ks vs) ≡ false
    keys_low q = rw (from_next, lt-leb lo (get_or ks i 0) q)

    pub keys_high : lo ≤ get_or ks i 0 → hi ≤ get_or ks i 0 → keys_in lo hi (entries_from n i ks vs) ≡ false
    keys_high p q = rw (from_next, le-leb lo (get_or ks i 0) p, le-ltb (get_or ks i 0) hi q)

    pub keys_pass : lo ≤ get_or ks i 0 → get_or ks i 0 < hi → keys_in lo hi (entries_from n (i + 1) ks vs) ≡ keys_in lo hi (entries_from n i ks vs)
    keys_pass p q = sym (rw (from_next, le-leb lo (get_or ks i 0) p, lt-ltb (get_or ks i 0) hi q))

pub from_end : (n i : ℕ) (ks vs : List ℕ) → n ≤ i → entries_from n i ks vs ≡ []
from_end n i ks vs h = rw (drop_of_length-le (take n ks) {i = i} (omega (arith, length-take n ks)))

-- ---- the start of one node
pub starts_some : (lo : ℕ) (n : Node) → length n.keys ≡ 17 → length n.values ≡ 17 → n.len ≤ 16 → (n.len ≡ 0 → ⊥)
    → eqb (get_or n.keys 0 0) lo ≡ starts_at lo (C.entries_of n)
starts_some lo n lk lv h z =
    let l = length_entries n lk lv (omega arith) in
    let e : C.entries_of n ≡ entry (get_or n.keys 0 0) (get_or n.values 0 0) ∷ entries_from n.len 1 n.keys n.values =
    from_next n.len 0 n.keys n.values (omega arith) (omega arith) (omega arith) in
    let f : first_key 0 (C.entries_of n) ≡ get_or n.keys 0 0 = ap (first_key 0) e in
    sym (rw (le-leb 1 (length (C.entries_of n)) (omega arith), le-leb (length (C.entries_of n)) 16 (omega arith), f))

-- ---- a view that is a node's
pub level_entries : (l : ℕ) (s : Stage) (n : Node) → is_level l (view_at s n) ≡ true → entries_of (view_at s n) ≡ C.entries_of n
level_entries l Untouched n h = clash h refl
level_entries l Freed n h = clash h refl
level_entries l Broken n h = clash h refl
level_entries l Full n h = refl

-- ---- the end of a child's keys
pub end_next : (n i hi : ℕ) (ks vs : List ℕ) → i < n → n ≤ length ks → n ≤ length vs → get_or ks i 0 ≡ first_key hi (entries_from n i ks vs)
end_next n i hi ks vs h lk lv = sym (ap (first_key hi) (from_next n i ks vs h lk lv))

pub end_last : (n i hi : ℕ) (ks vs : List ℕ) → n ≤ i → hi ≡ first_key hi (entries_from n i ks vs)
end_last n i hi ks vs h = sym (ap (first_key hi) (from_end n i ks vs h))

-- ---- the table of the pages, node by node
module _ (g : Geometry) (image lens slots : List ℕ) (limit : ℕ) where
  abbrev t : Table
  t = pages_table g image lens slots limit

  -- the view of node n from its pages
  abbrev v : ℕ → View
  v n = list_view g limit (pages_of g image) n (stored_list lens slots n)

  pub listed_same : {X : Type 0} (f : View → X) → f untouched ≡ f broken → (n : ℕ) → f (at t n) ≡ f (v n)
  unfolding buffer_view
  listed_same f e n = shown_same g limit (pages_of g image) lens slots 0 [] f e n

  pub listed_shown : (n : ℕ) (w : View) (r : Node) → w ≡ v n → ShowsView w r → ShowsView (at t n) r
  listed_shown n w r e s =
      record {
        level = s.level ∙ ap level_of e ∙ sym (listed_same level_of refl n);
        entries = s.entries ∙ ap entries_of e ∙ sym (listed_same entries_of refl n);
        len = s.len;
        room = s.room;
      }

  pub length_listed : length t ≡ limit
  unfolding shown
  length_listed = length_tab _ 0 limit

  -- from 256 on there is no node
  pub listed_far : (n : ℕ) → length lens ≤ n → v n ≡ untouched
  listed_far n h = rw (get_or-eq_default lens 0 {n = n} h)

-- ---- the rules of a node and of its children
-- what a tree of level l asks of its top
branch_own : (l : ℕ) (t : Table) (n lo hi : ℕ) → BranchRules l t n lo hi → own_at (suc l) (at t n) lo hi ≡ true
branch_own l t n lo hi b = rw (b.level, b.some, b.few, b.start, b.keys)

pub sub_own : (l : ℕ) (t : Table) (n lo hi : ℕ) → is_subtree l t n lo hi ≡ true → own_at l (at t n) lo hi ≡ true
sub_own zero t n lo hi h = h
sub_own (suc l) t n lo hi h = branch_own l t n lo hi (branch_rules l t n lo hi h)

-- and of its children
pub sub_kids : (l : ℕ) (t : Table) (n lo hi : ℕ) → is_subtree (suc l) t n lo hi ≡ true → are_subtrees (is_subtree l t) hi (entries_at t n) ≡ true
sub_kids l t n lo hi h = (branch_rules l t n lo hi h).kids

-- both make a tree
pub own_sub : (l : ℕ) (t : Table) (n lo hi : ℕ) → own_at (suc l) (at t n) lo hi ≡ true → are_subtrees (is_subtree l t) hi (entries_at t n) ≡ true
    → is_subtree (suc l) t n lo hi ≡ true
own_sub l t n lo hi h k =
    let es = entries_at t n in
    let a₅ = keys_in lo hi es in
    let a₄ = eqb (first_key 0 es) lo in
    let a₃ = leb (length es) 16 in
    let a₂ = leb 1 (length es) in
    let a₁ = is_level (suc l) (at t n) in
    let r = and_right a₁ ((a₂ && (a₃ && a₄)) && a₅) h in
    let q = and_left (a₂ && (a₃ && a₄)) a₅ r in
    let q₃ = and_right a₂ (a₃ && a₄) q in
    rw (
      and_left a₁ ((a₂ && (a₃ && a₄)) && a₅) h,
      and_left a₂ (a₃ && a₄) q,
      and_left a₃ a₄ q₃,
      and_right a₃ a₄ q₃,
      and_right (a₂ && (a₃ && a₄)) a₅ r,
      k,
    )

-- ---- walks
-- by the outcome
pub walk_as : {t : Table} {ok : Bool} {ns s u : List ℕ} {r q : Bool} → r ≡ q → Walks t ok ns s u r → Walks t ok ns s u q
walk_as e w = rw e at w

pub mark_as : {size n : ℕ} {s u : List ℕ} {r q : Bool} → r ≡ q → MarksNumber size n s u r → MarksNumber size n s u q
mark_as e m = rw e at m

module _ {t : Table} {p : Bool} {ns s u : List ℕ} where
  -- a walk that stops, however it would go on
  pub walk_stop : (q : Bool) (ms : List ℕ) → Walks t p ns s u false → Walks t (p && q) (ns ++ ms) s u false
  walk_stop q ms w =
      record {
        passes = λ e. clash e refl;
        counts = λ e. clash e refl;
        stops = λ e k. more (w.stops refl (and_left p q k));
      }
    where
      more : Twice t s ns → Twice t s (ns ++ ms)
      more d = record { number = d.number; real = d.real; twice = omega (arith, d.twice, times_append d.number ns ms) }

  -- one walk after another
  pub walk_next : {q : Bool} {ms x : List ℕ} {r : Bool} → Walks t p ns s u true → Walks t q ms u x r → Walks t (p && q) (ns ++ ms) s x r
  walk_next {q} {ms} {x} {r} w z =
      record {
        passes = λ e. and_intro p q (w.passes refl) (z.passes e);
        counts = λ e j. omega (arith, w.counts refl j, z.counts e j, times_append j ns ms);
        stops = λ e k. back (z.stops e (and_right p q k));
      }
    where
      back : Twice t u ms → Twice t s (ns ++ ms)
      back d = record {
        number = d.number;
        real = d.real;
        twice = omega (arith, d.twice, w.counts refl d.number, times_append d.number ns ms);
      }

-- nothing to walk over
pub walk_none : (t : Table) (s : List ℕ) → Walks t true [] s s true
walk_none t s = record { passes = λ e. e; counts = λ e j. omega arith; stops = λ e k. clash refl e }

-- ---- node n of level l, whose view w was read from its pages
reached_own : (l : ℕ) (t : Table) (n : ℕ) → 1 ≤ times n (reached l t n)
reached_own zero t n = omega (arith, hit_same n n refl)
reached_own (suc l) t n = omega (arith, hit_same n n refl)

module _ (g : Geometry) (image lens slots : List ℕ) (limit l n lo hi : ℕ) (w : View)
    (ew : w ≡ list_view g limit (pages_of g image) n (stored_list lens slots n)) where
  abbrev tb : Table
  tb = pages_table g image lens slots limit

  own_same : own_at l (at tb n) lo hi ≡ own_at l w lo hi
  own_same = listed_same g image lens slots limit (λ (x : View). own_at l x lo hi) refl n ∙ ap (λ (x : View). own_at l x lo hi) (sym ew)

  -- it breaks a rule of one node
  pub visit_unfit : (s : List ℕ) → own_at l w lo hi ≡ false → Walks tb (is_subtree l tb n lo hi) (reached l tb n) s s false
  visit_unfit s h =
      record {
        passes = λ e. clash e refl;
        counts = λ e. clash e refl;
        stops = λ e k. clash (sub_own l tb n lo hi k) (own_same ∙ h);
      }

  module _ (fit : own_at l w lo hi ≡ true) where
    own_there : there (at tb n) ≡ 1
    own_there = level_there l (at tb n) (and_left (is_level l (at tb n)) (obeys_at l lo hi (entries_at tb n)) (own_same ∙ fit))

    far_off : {A : Type 0} → length lens ≤ n → A
    far_off h = clash (ap (λ (x : View). own_at l x lo hi) (sym (ew ∙ listed_far g image lens slots limit n h)) ∙ fit) refl

    -- it was counted before
    pub visit_old : (s u : List ℕ) → MarksNumber (length lens) n s u false → Walks tb (is_subtree l tb n lo hi) (reached l tb n) s u false
    visit_old s u m =
        record {
          passes = λ e. clash e refl;
          counts = λ e. clash e refl;
          stops = λ e k. ⊎_elim
              (λ (h : length lens ≤ n). far_off h)
              (λ (h : 1 ≤ get_or s n 0). record { number = n; real = own_there; twice = omega (arith, reached_own l tb n) })
              (m.old refl);
        }

    -- it is a leaf
    pub visit_leaf : (s u : List ℕ) → l ≡ 0 → MarksNumber (length lens) n s u true → Walks tb (is_subtree l tb n lo hi) (reached l tb n) s u true
    visit_leaf s u z m =
        let a : own_at 0 (at tb n) lo hi ≡ true = rw z at (own_same ∙ fit) in
        rw z (record { passes = λ e. a; counts = λ e j. m.new refl j; stops = λ e k. clash refl e })

    -- its children are walked over
    pub visit_branch : (m : ℕ) (es : List Entry) (s u x : List ℕ) (r : Bool) → l ≡ suc m → entries_of w ≡ es → MarksNumber (length lens) n s u true
        → Walks tb (are_subtrees (is_subtree m tb) hi es) (under m tb es) u x r → Walks tb (is_subtree l tb n lo hi) (reached l tb n) s x r
    visit_branch m es s u x r z e mk wk =
        let f : entries_at tb n ≡ es = listed_same g image lens slots limit entries_of refl n ∙ ap entries_of (sym ew) ∙ e in
        let a : own_at (suc m) (at tb n) lo hi ≡ true = rw z at (own_same ∙ fit) in
        let wk' : Walks tb (are_subtrees (is_subtree m tb) hi (entries_at tb n)) (under m tb (entries_at tb n)) u x r = rw f wk in
        rw z
        (record {
          passes = λ e. own_sub m tb n lo hi a (wk'.passes e);
          counts = λ e j. omega (arith, mk.new refl j, wk'.counts e j);
          stops = λ e k. back (wk'.stops e (sub_kids m tb n lo hi k));
        })
      where
        back : Twice tb u (under m tb (entries_at tb n)) → Twice tb s (reached (suc m) tb n)
        back d = record { number = d.number; real = d.real; twice = omega (arith, d.twice, mk.new refl d.number) }

-- ---- the entries of a node from i on
module _ (t : Table) (l hi n i : ℕ) (ks vs : List ℕ) (s u : List ℕ) where
  -- none is left
  pub kids_none : n ≤ i → Walks t (are_subtrees (is_subtree l t) hi (entries_from n i ks vs)) (under l t (entries_from n i ks vs)) s s true
  kids_none h = rw (from_end n i ks vs h) (walk_none t s)

  module _ (h : i < n) (lk : n ≤ length ks) (lv : n ≤ length vs) (end : ℕ) (ee : end ≡ first_key hi (entries_from n (i + 1) ks vs)) where
    -- the next leads to no tree
    pub kids_stop : Walks t (is_subtree l t (get_or vs i 0) (get_or ks i 0) end) (reached l t (get_or vs i 0)) s u false
        → Walks t (are_subtrees (is_subtree l t) hi (entries_from n i ks vs)) (under l t (entries_from n i ks vs)) s u false
    kids_stop w =
        rw (from_next n i ks vs h lk lv, ← ee)
        (walk_stop (are_subtrees (is_subtree l t) hi (entries_from n (i + 1) ks vs)) (under l t (entries_from n (i + 1) ks vs)) w)

    -- it does
    pub kids_next : (x : List ℕ) (r : Bool) → Walks t (is_subtree l t (get_or vs i 0) (get_or ks i 0) end) (reached l t (get_or vs i 0)) s u true
        → Walks t (are_subtrees (is_subtree l t) hi (entries_from n (i + 1) ks vs)) (under l t (entries_from n (i + 1) ks vs)) u x r
        → Walks t (are_subtrees (is_subtree l t) hi (entries_from n i ks vs)) (under l t (entries_from n i ks vs)) s x r
    kids_next x r w z = rw (from_next n i ks vs h lk lv, ← ee) (walk_next w z)

-- ---- the counts at the end
drop_table : (t : Table) (n : ℕ) → n < length t → drop n t ≡ at t n ∷ drop (suc n) t
drop_table [] n h = absurd (omega arith)
drop_table (w ∷ t) zero h = refl
drop_table (w ∷ t) (suc n) h = drop_table t n (omega arith)

module _ (t : Table) (n : ℕ) (s : List ℕ) where
  pub counts_pass : n < length t → get_or s n 0 ≡ there (at t n) → counts_from (n + 1) (drop (n + 1) t) s ≡ counts_from n (drop n t) s
  counts_pass h e = rw (drop_table t n h, eq-eqb (get_or s n 0) (there (at t n)) e, add-one)

  pub counts_fail : n < length t → (get_or s n 0 ≡ there (at t n) → ⊥) → counts_from n (drop n t) s ≡ false
  counts_fail h d = rw (drop_table t n h, ne_eqb (get_or s n 0) (there (at t n)) d)

  pub counts_end : length t ≤ n → counts_from n (drop n t) s ≡ true
  counts_end h = rw (drop_of_length-le t {i = n} h)

counts_once : (n : ℕ) (t : Table) (s ns : List ℕ) → ((j : ℕ) → get_or s j 0 ≡ times j ns) → counts_from n t s ≡ once_from n t ns
counts_once n [] s ns h = refl
counts_once n (w ∷ t) s ns h = rw (h n, counts_once (suc n) t s ns h)

-- where each node is counted once, the numbers that no node has are those with count 0
counts_open : (n : ℕ) (t : Table) (s : List ℕ) → counts_from n t s ≡ true → map is_open t ≡ tab n (length t) (λ (m : ℕ). eqb (get_or s m 0) 0)
counts_open n [] s h = refl
counts_open n (w ∷ t) s h =
    let a = eqb (get_or s n 0) (there w) in
    let b = counts_from (suc n) t s in
    ap₂ (λ (x : Bool) (xs : List Bool). x ∷ xs)
    (ap (λ (m : ℕ). eqb m 0) (sym (eqb-true (get_or s n 0) (there w) (and_left a b h))))
    (counts_open (suc n) t s (and_right a b h))

-- ---- thin nodes
pub fewest_more : (n : ℕ) → (n ≡ 0 → ⊥) → 8 ≡ fewest n
fewest_more zero d = absurd (d refl)
fewest_more (suc n) d = refl

pub thin_pass : (t : Table) (n : ℕ) (b : Bool) → n < length t
    → ((b || is_thin n (at t n)) || thin_from (n + 1) (drop (n + 1) t)) ≡ (b || thin_from n (drop n t))
thin_pass t n true h = refl
thin_pass t n false h = rw (drop_table t n h, add-one)

thin_end : (t : Table) (n : ℕ) (b : Bool) → length t ≤ n → (b || thin_from n (drop n t)) ≡ b
thin_end t n true h = refl
thin_end t n false h = rw (drop_of_length-le t {i = n} h)

-- ---- what the counts and the nodes say, up to node n
module _ (t : Table) (s : List ℕ) (n : ℕ) (e : counts_from n (drop n t) s ≡ counts_from 0 t s) where
  -- node n is not counted once
  pub counted_fail : n < length t → (get_or s n 0 ≡ there (at t n) → ⊥) → CountsNodes t s None
  counted_fail h d = record { once = sym (counts_fail t n s h d) ∙ e; thin = tt }

  -- no node is left
  pub counted_end : (b : Bool) → length t ≤ n → (b || thin_from n (drop n t)) ≡ thin_from 0 t → CountsNodes t s (Some b)
  unfolding thin
  counted_end b h k = record { once = sym (counts_end t n s h) ∙ e; thin = sym (thin_end t n b h) ∙ k }

-- ---- the whole of step 6
module _ (t : Table) (l : ℕ) (s u : List ℕ) (el : l ≡ root_level t) (es : s ≡ replicate 256 0) where
  -- a tree is reached: what is left are the counts
  tree_step : (r : Bool) → Walks t (is_subtree l t 0 0 top) (reached l t 0) s u true → r ≡ counts_from 0 t u → r ≡ step6 t
  unfolding step6
  tree_step r w e =
      let a : is_subtree (root_level t) t 0 0 top ≡ true = rw el at (w.passes refl) in
      let o = sub_own (root_level t) t 0 0 top a in
      let b = and_left (is_level (root_level t) (at t 0)) (obeys_at (root_level t) 0 top (entries_at t 0)) o in
      let z : (j : ℕ) → get_or s j 0 ≡ 0 = λ j. ap (λ (x : List ℕ). get_or x j 0) es ∙ get_d_same 256 j 0 in
      let k = counts_once 0 t u (reached (root_level t) t 0) (λ j. w.counts refl j ∙ omega (arith, z j, ap (λ (m : ℕ). times j (reached m t 0)) el)) in
      e ∙ k ∙ sym (rw (b, a))

  -- whether some node is thin, where all are counted
  is_thin_of : (c : Option Bool) → CountsNodes t u c → is_some c ≡ true → is_some_true c ≡ thin t
  is_thin_of None k e = clash e refl
  is_thin_of (Some b) k e = k.thin

  pub tree_counts : (c : Option Bool) (r : Growth) → is_grown r ≡ is_some c → is_found_thin r ≡ is_some_true c
      → Walks t (is_subtree l t 0 0 top) (reached l t 0) s u true → CountsNodes t u c → ChecksTree t u r
  tree_counts c r eg ef w k =
      record {
        is = eg ∙ tree_step (is_some c) w k.once;
        thin = λ q. ef ∙ is_thin_of c k (sym eg ∙ q);
        counted = λ q. counts_open 0 t u (sym k.once ∙ sym eg ∙ q);
      }

  once_twice : {A : Type 0} (ns : List ℕ) → once_from 0 t ns ≡ true → Twice t s ns → A
  once_twice ns o d =
      let j = d.number in
      let z : get_or s j 0 ≡ 0 = ap (λ (x : List ℕ). get_or x j 0) es ∙ get_d_same 256 j 0 in
      ⊎_elim
      (λ (h : j < length t). absurd (omega (arith, once_at ns 0 t o j h, ap (λ (m : ℕ). times m ns) (let q : 0 + j ≡ j = omega arith in q), d.twice, d.real)))
      (λ (h : length t ≤ j). absurd (omega (arith, d.real, ap there (at_length t j h))))
      (below_or_not j (length t))

  -- no tree is reached
  no_step : Walks t (is_subtree l t 0 0 top) (reached l t 0) s u false → false ≡ step6 t
  unfolding step6
  no_step w =
      let r = root_level t in
      let a = is_level r (at t 0) in
      let b = is_subtree r t 0 0 top in
      let o = once_from 0 t (reached r t 0) in
      let w' : Walks t b (reached r t 0) s u false = rw el at w in
      cases (a && (b && o))
      (λ h. let k = and_right a (b && o) h in once_twice (reached r t 0) (and_right b o k) (w'.stops refl (and_left b o k)))
      (λ h. sym h)

  pub no_tree : Walks t (is_subtree l t 0 0 top) (reached l t 0) s u false → ChecksTree t u NoTree
  no_tree w = record { is = no_step w; thin = λ e. clash e refl; counted = λ e. clash e refl }
