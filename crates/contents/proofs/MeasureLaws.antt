-- The nodes measured one after the other: marks, counts and kept units. Assumes nothing.
use mathlib.Core.Path.{◌≡◌, refl, sym, ap, ap₂, ◌∙◌}
use mathlib.Core.Bool.{Bool, true, false, cond, ◌&&◌, ◌||◌, not}
use mathlib.Core.List.{List, [], ◌∷◌, ◌++◌}
use Rattle.std.specs.List.{list_any}
use mathlib.Core.Logic.{⊎_elim}
use Prim.Native.Nat.{ℕ, ◌+◌, ◌*◌, ◌-◌, ◌<◌, ◌≤◌, min}
use native.Mathlib.Omega.{arith}
use lib.Dec.{eqb, leb, ltb}
use lib.ListN.{drop, get_or, get_or-append, length, length-append, length-drop, length-replicate, length-set, length-take, replicate, set, take}
use lib.Seq.{get_or-drop, get_or-set_other, get_or-set_same, length-take-le, take_all, take-take}
use Rattle.std.proofs.lemmas.List.{get_or-append_right, get_or-replicate}
use borrow.Author.Tests.{eqb-false, eqb-true, leb-false, lt-ltb, ltb-false, ltb-true}
use Rattle.std.specs.Prelude.{Option}
use Rattle.lists.specs.Lists.{any, bit}
use Rattle.lists.proofs.Places.{get_d_same}
use Rattle.lists.proofs.Filters.{bit_most}
use Rattle.lists.proofs.Tests.{below_or_not, cases, clash, neither_left, neither_right}
use Rattle.chip.specs.Geometry.{Geometry}
use Rattle.chip.specs.Page.{Page}
use Rattle.pages.specs.declared.unit.Update.{Update}
use Rattle.views.specs.Groups.{is_reset}
use Rattle.views.specs.Stored.{stored_list}
use Rattle.journal.specs.Plan.{rewrite}
use Rattle.journal.specs.Admissible.{Contents}
use Rattle.journal.specs.PlanCode.{KeepsUnits, is_marked}
use Rattle.contents.specs.ContentsCode.{AllRead, FillsArray, Keeps, KeepsRead, Measured, ReadsNode, ReadsNodes, Tallied, contents_in, in_oldest, is_forced_by, is_read, own_in}
use Rattle.contents.proofs.UnitsLaws.{keeps_other, keeps_this}

-- ---- a node's list
list_is : (lens slots : List ℕ) (n used : ℕ) → used ≡ min (get_or lens n 0) 4 → stored_list lens slots n ≡ take used (drop (4 * n) slots)
list_is lens slots n used e =
    let k : ℕ = get_or lens n 0 in
    let d : List ℕ = drop (4 * n) slots in
    cases (ltb used 4)
    (λ t. let l = ltb-true used 4 t in let q : k ≡ used = omega arith in rw q (take-take used 4 d (omega arith)))
    (λ t. let l = ltb-false used 4 t in let q : used ≡ 4 = omega arith in rw q (take_all k (take 4 d) (rw length-take (omega arith))))

-- a test of some page of it, on the slots that count
any_is : (p : ℕ → Bool) (xs : List ℕ) → list_any p xs ≡ any p xs
any_is p [] = refl
any_is p (x ∷ xs) = ap (λ (b : Bool). p x || b) (any_is p xs)

pub listed_is : (p : ℕ → Bool) (lens slots : List ℕ) (n used : ℕ) → used ≡ length (stored_list lens slots n) → length slots ≡ 1024 → n < 256
    → list_any p (take used (drop (4 * n) slots)) ≡ any p (stored_list lens slots n)
listed_is p lens slots n used many size on =
    let e : used ≡ min (get_or lens n 0) 4 =
    many ∙ (let q : length (stored_list lens slots n) ≡ min (get_or lens n 0) 4 = simp (length-take, length-drop) (omega arith) in q) in
    any_is p (take used (drop (4 * n) slots)) ∙ ap (any p) (sym (list_is lens slots n used e))

-- ---- arrays filled
pub fills_start : (f : ℕ → ℕ) (xs : List ℕ) → FillsArray 0 f xs xs
fills_start f xs = record { done = λ n h. absurd (omega arith); rest = λ n h. refl; size = refl }

pub fills_next : (k v : ℕ) (f : ℕ → ℕ) (before xs ys : List ℕ) → FillsArray k f before xs → k < length before → ys ≡ set xs k v → v ≡ f k → FillsArray (k + 1) f before ys
fills_next k v f before xs ys l h e q =
    record {
      done = λ n m. cases (eqb n k)
          (λ t. let z = eqb-true n k t in
          ap₂ (λ (zs : List ℕ) (i : ℕ). get_or zs i 0) e z ∙ get_or-set_same xs k v 0 (omega (arith, l.size)) ∙ q ∙ ap f (sym z))
          (λ t. let d = eqb-false n k t in ap (λ (zs : List ℕ). get_or zs n 0) e ∙ get_or-set_other xs k n v 0 d ∙ l.done n (omega (arith, d)));
      rest = λ n m. ap (λ (zs : List ℕ). get_or zs n 0) e ∙ get_or-set_other xs k n v 0 (λ z. absurd (omega (arith, z))) ∙ l.rest n (omega arith);
      size = ap length e ∙ length-set xs k v ∙ l.size;
    }

-- a number that stays
pub fills_same : (k : ℕ) (f : ℕ → ℕ) (before xs : List ℕ) → FillsArray k f before xs → get_or before k 0 ≡ f k → FillsArray (k + 1) f before xs
fills_same k f before xs l q =
    record {
      done = λ n m. cases (eqb n k)
          (λ t. let z = eqb-true n k t in l.rest n (omega (arith, z)) ∙ ap (λ (i : ℕ). get_or before i 0) z ∙ q ∙ ap f (sym z))
          (λ t. let d = eqb-false n k t in l.done n (omega (arith, d)));
      rest = λ n m. l.rest n (omega arith);
      size = l.size;
    }

-- ones in front of the others
pub fills_ones : (limit : ℕ) (before ones : List ℕ) → limit ≤ length before → ones ≡ replicate (length (take limit before)) 1
    → FillsArray limit (λ (n : ℕ). 1) before (ones ++ drop limit before)
fills_ones limit before ones h e =
    let k : ones ≡ replicate limit 1 = e ∙ ap (λ (m : ℕ). replicate m 1) (length-take-le limit before h) in
    let l : length ones ≡ limit = ap length k ∙ length-replicate limit 1 in
    record {
      done = λ n m. get_or-append ones (drop limit before) 0 n (omega (arith, l)) ∙ ap (λ (xs : List ℕ). get_or xs n 0) k ∙ get_or-replicate limit n 1 0 m;
      rest = λ n m. let q : limit + (n - limit) ≡ n = omega arith in
          get_or-append_right ones (drop limit before) limit n 0 l m ∙ get_or-drop limit before (n - limit) 0 ∙ ap (λ (i : ℕ). get_or before i 0) q;
      size = length-append ones (drop limit before) ∙ omega (arith, l, length-drop limit before);
    }

-- ---- nodes read
pub reads_one : (n : ℕ) (us : List Update) (wholes counts units bytes : List ℕ) (r : ℕ) (w : Bool) → w ≡ true → counts ≡ set wholes n r → Keeps n us units bytes r
    → ReadsNode w n us wholes counts units bytes
reads_one n us wholes counts units bytes r w e q k =
    rw e (record {
      count = q ∙ ap (set wholes n) k.count;
      kept = λ z. let m = k.count in rw m at k;
      same = λ z. clash refl z;
    })

pub reads_none : (n : ℕ) (us : List Update) (wholes units : List ℕ) (w : Bool) → w ≡ false → ReadsNode w n us wholes wholes units units
reads_none n us wholes units w e = rw e (record { count = refl; kept = λ z. clash z refl; same = λ z. refl })

module _ (wanted : ℕ → Bool) (f : ℕ → List Update) (wholes units : List ℕ) where
  pub reading_start : length units ≡ 52224 → ReadsNodes 0 wanted f wholes wholes units units
  reading_start h =
      record {
        count = fills_start (λ (n : ℕ). cond (wanted n) (length (f n)) (get_or wholes n 0)) wholes;
        kept = λ n l. absurd (omega arith);
        same = λ n us r d k. k;
        size = h;
      }

  pub reading_next : (k : ℕ) (counts more bytes rest : List ℕ) → ReadsNodes k wanted f wholes counts units bytes → k < 256 → length wholes ≡ 256
      → ReadsNode (wanted k) k (f k) counts more bytes rest → ReadsNodes (k + 1) wanted f wholes more units rest
  reading_next k counts more bytes rest l on lw o =
      let g : ℕ → ℕ = λ n. cond (wanted n) (length (f n)) (get_or wholes n 0) in
      let moves : (n : ℕ) (us : List Update) (r : ℕ) → (n ≡ k → wanted k ≡ false) → KeepsUnits n us r bytes → KeepsUnits n us r rest = λ n us r h q.
      cases (wanted k)
      (λ t. keeps_other k (f k) bytes rest (length (f k)) (o.kept t) on l.size n us r (λ e. clash t (h e)) q)
      (λ t. let e = o.same t in rw e q) in
      record {
        count = cases (wanted k)
            (λ t. fills_next k (length (f k)) g wholes counts more l.count (omega (arith, lw)) (o.count ∙ rw t) (rw t))
            (λ t. let e : more ≡ counts = o.count ∙ rw t in rw e (fills_same k g wholes counts l.count (rw t)));
        kept = λ n h w. cases (eqb n k)
            (λ t. let e = eqb-true n k t in
            rw e (keeps_this k (f k) bytes rest (length (f k)) (o.kept (ap wanted (sym e) ∙ w)) on l.size))
            (λ t. let d = eqb-false n k t in moves n (f n) (length (f n)) (λ e. absurd (d e)) (l.kept n (omega (arith, d)) w));
        same = λ n us r h q. moves n us r (λ e. ap wanted (sym e) ∙ h (omega (arith, e))) (l.same n us r (λ m. h (omega arith)) q);
        size = cases (wanted k) (λ t. (o.kept t).size ∙ l.size) (λ t. ap length (o.same t) ∙ l.size);
      }

  pub reading_done : (k limit : ℕ) (counts bytes : List ℕ) → k ≤ limit → limit ≤ k → ReadsNodes k wanted f wholes counts units bytes
      → ReadsNodes limit wanted f wholes counts units bytes
  reading_done k limit counts bytes h g l = let e : k ≡ limit = omega arith in rw e at l

-- ---- which nodes must be written anew
module _ (reset part whole pages : ℕ) where
  -- the test by the updates themselves
  forced_is : (os fs : List Update) → part ≡ length os → eqb reset 1 ≡ any is_reset os → (0 < part → whole ≡ length fs)
      → is_forced_by reset part whole pages ≡ (ltb 0 (length os) && (any is_reset os || (leb (length fs) (length os) || leb 4 pages)))
  forced_is os fs p r q = rw (← p, ← r) (cases (ltb 0 part) (λ t. rw (t, q (ltb-true 0 part t))) (λ t. rw t))

  -- a node that need not be has fewer units in the buffer
  not_forced : is_forced_by reset part whole pages ≡ false → part ≤ whole
  not_forced e =
      cases (ltb 0 part)
      (λ t. let k : (eqb reset 1 || (leb whole part || leb 4 pages)) ≡ false = (rw t at e) in
      let l = leb-false whole part (neither_left (leb whole part) (leb 4 pages) (neither_right (eqb reset 1) (leb whole part || leb 4 pages) k)) in omega arith)
      (λ t. let l = ltb-false 0 part t in omega arith)

pub marked_bit : (b : Bool) → eqb (bit b) 1 ≡ b
marked_bit true = refl
marked_bit false = refl

-- ---- all of it
module _ (g : Geometry) (limit : ℕ) (oldest : Option ℕ) (ps : List Page) (lens slots : List ℕ) (count : ℕ) (buffer : List ℕ) (parts resets forms wholes₀ wholes olds₀ olds units₀ units : List ℕ) where
  abbrev N : Contents
  N = contents_in g limit ps lens slots count buffer

  module _ (few : limit ≤ 256) (t : Tallied limit count buffer parts resets) (z : wholes₀ ≡ replicate 256 0) (lo : length olds₀ ≡ 256)
      (o : FillsArray limit (λ (n : ℕ). bit (in_oldest g oldest (stored_list lens slots n))) olds₀ olds)
      (r : ReadsNodes limit (is_read parts olds) (λ (n : ℕ). rewrite (N.after n)) wholes₀ wholes units₀ units)
      (m : FillsArray limit (λ (n : ℕ). bit (is_forced_by (get_or resets n 0) (get_or parts n 0) (get_or wholes n 0) (length (stored_list lens slots n)))) resets forms) where
    zeros : (n : ℕ) → get_or wholes₀ n 0 ≡ 0
    zeros n = ap (λ (xs : List ℕ). get_or xs n 0) z ∙ get_d_same 256 n 0

    whole_read : (n : ℕ) → n < limit → is_read parts olds n ≡ true → get_or wholes n 0 ≡ length (rewrite (N.after n))
    whole_read n l w = r.count.done n l ∙ rw w

    whole_none : (n : ℕ) → n < limit → is_read parts olds n ≡ false → get_or wholes n 0 ≡ 0
    whole_none n l w = r.count.done n l ∙ rw w (zeros n)

    keeps : KeepsRead limit N parts wholes olds units
    keeps n l w = rw (whole_read n l w) (r.kept n l w)

    most : (n : ℕ) → get_or wholes n 0 ≤ 17
    most n =
        ⊎_elim
        (λ (l : n < limit). cases (is_read parts olds n) (λ w. let k = keeps n l w in omega (arith, k.len, k.few)) (λ w. omega (arith, whole_none n l w)))
        (λ (l : limit ≤ n). omega (arith, r.count.rest n l, zeros n))
        (below_or_not n limit)

    form_is : (n : ℕ) → n < limit → is_marked forms n ≡ is_forced_by (get_or resets n 0) (get_or parts n 0) (get_or wholes n 0) (length (stored_list lens slots n))
    form_is n l = ap (λ (x : ℕ). eqb x 1) (m.done n l) ∙ marked_bit (is_forced_by (get_or resets n 0) (get_or parts n 0) (get_or wholes n 0) (length (stored_list lens slots n)))

    pub measured : Measured g limit oldest N parts resets forms wholes olds units
    measured =
        record {
          old = λ n l. ap (λ (x : ℕ). eqb x 1) (o.done n l) ∙ marked_bit (in_oldest g oldest (stored_list lens slots n));
          form = λ n l. form_is n l
              ∙ forced_is (get_or resets n 0) (get_or parts n 0) (get_or wholes n 0) (length (stored_list lens slots n)) (own_in limit n count buffer) (rewrite (N.after n))
              (t.part n (omega arith)) (t.reset n (omega arith)) (λ h. whole_read n l (rw (lt-ltb 0 (get_or parts n 0) h)));
          bits = λ n.
              ⊎_elim (λ (l : n < limit). rw (m.done n l) (bit_most (is_forced_by (get_or resets n 0) (get_or parts n 0) (get_or wholes n 0) (length (stored_list lens slots n)))))
              (λ (l : limit ≤ n). rw (m.rest n l) (t.bits n)) (below_or_not n limit);
          rest = m.rest;
          kept = keeps;
          none = whole_none;
          few = most;
          less = λ n l e. not_forced (get_or resets n 0) (get_or parts n 0) (get_or wholes n 0) (length (stored_list lens slots n)) (sym (form_is n l) ∙ e);
          marks = (o.size ∙ lo, m.size ∙ t.marks);
          numbers = r.count.size ∙ ap length z ∙ length-replicate {A = ℕ} 256 0;
          bytes = r.size;
        }

-- the nodes that were not read yet, and all marks
module _ (limit : ℕ) (N : Contents) (parts forms₀ forms wholes₀ wholes olds units₀ units : List ℕ) where
  pub all_read : length forms₀ ≡ 256 → length wholes₀ ≡ 256 → KeepsRead limit N parts wholes₀ olds units₀
      → ReadsNodes limit (λ (n : ℕ). not (is_read parts olds n)) (λ (n : ℕ). rewrite (N.after n)) wholes₀ wholes units₀ units
      → FillsArray limit (λ (n : ℕ). 1) forms₀ forms → AllRead limit N forms wholes units
  all_read lf lw k r m =
      record {
        form = m.done;
        kept = λ n l. cases (is_read parts olds n)
            (λ w. let e : get_or wholes n 0 ≡ get_or wholes₀ n 0 = r.count.done n l ∙ rw w in
            rw e (r.same n (rewrite (N.after n)) (get_or wholes₀ n 0) (λ h. rw w) (k n l w)))
            (λ w. let e : get_or wholes n 0 ≡ length (rewrite (N.after n)) = r.count.done n l ∙ rw w in rw e (r.kept n l (rw w)));
        marks = m.size ∙ lf;
        numbers = r.count.size ∙ lw;
        bytes = r.size;
      }
