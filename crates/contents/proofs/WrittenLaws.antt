-- What is written of each node kept in its form, node by node. Assumes nothing.
use mathlib.Core.Path.{◌≡◌, refl, sym, ap, ◌∙◌}
use mathlib.Core.Bool.{true, false, cond, ◌||◌}
use mathlib.Core.List.{List}
use Prim.Native.Nat.{ℕ, ◌+◌, ◌<◌, ◌≤◌}
use native.Mathlib.Omega.{arith}
use lib.Dec.{eqb}
use lib.ListN.{get_or, length, length-set, set, take}
use lib.Seq.{get_or-set_other, get_or-set_same, take_all}
use borrow.Author.Tests.{eq-eqb, eqb-false, eqb-true, ne_eqb}
use Rattle.std.specs.Prelude.{Option}
use Rattle.lists.proofs.Places.{get_d_default}
use Rattle.lists.proofs.Tests.{cases, clash}
use Rattle.chip.specs.Geometry.{Geometry}
use Rattle.pages.specs.declared.unit.Update.{Update}
use Rattle.journal.specs.Plan.{rewrite}
use Rattle.journal.specs.Admissible.{Contents}
use Rattle.journal.specs.Packing.{is_unwritten}
use Rattle.journal.specs.PlanCode.{KeepsUnits, is_marked, target_in}
use Rattle.contents.specs.ContentsCode.{AllRead, Keeps, Measured, Readies, WritesForms, WritesNode, form_of, is_read}
use Rattle.contents.proofs.UnitsLaws.{keeps_other, keeps_this}

-- ---- one node
module _ (n : ℕ) (us : List Update) (targets forms wholes parts before units : List ℕ) (on : n < length targets) where
  -- the same number whatever is beyond the array
  here : get_or targets n 65535 ≡ get_or targets n 0
  here = get_d_default targets n 65535 0 on

  no_page : get_or targets n 0 ≡ 65535 → is_unwritten (target_in targets n) ≡ true
  no_page e = rw (eq-eqb (get_or targets n 65535) 65535 (here ∙ e))

  page : (get_or targets n 0 ≡ 65535 → ⊥) → is_unwritten (target_in targets n) ≡ false
  page d = rw (ne_eqb (get_or targets n 65535) 65535 (λ e. d (sym here ∙ e)))

  pub form_none : get_or targets n 0 ≡ 65535 → WritesNode n us targets forms wholes parts before before units units
  form_none e =
      let p = no_page e in
      record { size = rw p; same = λ z. refl; kept = λ z. let y : true ≡ false = (rw p at z) in clash refl y }

  pub form_anew : (get_or targets n 0 ≡ 65535 → ⊥) → get_or forms n 0 ≡ 1 → WritesNode n us targets forms wholes parts before (set before n (get_or wholes n 0)) units units
  form_anew d e =
      let p = page d in
      let m : is_marked forms n ≡ true = eq-eqb (get_or forms n 0) 1 e in
      record { size = rw (p, m); same = λ z. refl; kept = λ z. let y : true ≡ false = (rw (p, m) at z) in clash refl y }

  pub form_own : (get_or targets n 0 ≡ 65535 → ⊥) → (get_or forms n 0 ≡ 1 → ⊥) → (r : ℕ) (bytes : List ℕ) → Keeps n (take 17 us) units bytes r
      → WritesNode n us targets forms wholes parts before (set before n (get_or parts n 0)) units bytes
  form_own d e r bytes k =
      let p = page d in
      let m : is_marked forms n ≡ false = ne_eqb (get_or forms n 0) 1 e in
      record { size = rw (p, m); same = λ z. (let y : false ≡ true = (rw (p, m) at z) in clash y refl); kept = λ z. (r, k) }

-- the buffered units of a node with room for them
keeps_own : (n : ℕ) (us : List Update) (r size : ℕ) (bytes : List ℕ) → size ≡ length us → size ≤ 17 → KeepsUnits n (take 17 us) r bytes → KeepsUnits n us size bytes
keeps_own n us r size bytes e h k =
    let w : take 17 us ≡ us = take_all 17 us (omega arith) in
    let q : r ≡ size = k.len ∙ ap length w ∙ sym e in
    rw (← q) (rw w at k)

-- ---- all nodes
module _ (limit : ℕ) (own : ℕ → List Update) (targets forms wholes parts units : List ℕ) where
  abbrev Page : ℕ → Type 0
  Page n = is_unwritten (target_in targets n) ≡ false

  -- the nodes below k kept in their form, the others ready
  pub record Written (k : ℕ) (whole : ℕ → List Update) (sizes bytes : List ℕ) : Type 0 where
    pub done : (n : ℕ) → n < k → Page n → KeepsUnits n (form_of forms whole own n) (get_or sizes n 0) bytes
    pub ready : Readies k limit whole own targets forms wholes parts bytes

  pub record Writing (k : ℕ) (sizes bytes : List ℕ) : Type 0 where
    pub numbers : length sizes ≡ 256
    pub size : length bytes ≡ 52224
    pub is : (whole : ℕ → List Update) → Readies 0 limit whole own targets forms wholes parts units → Written k whole sizes bytes

  pub writing_start : (sizes : List ℕ) → length sizes ≡ 256 → length units ≡ 52224 → Writing 0 sizes units
  writing_start sizes h g =
      record { numbers = h; size = g; is = λ whole r. record { done = λ n l. absurd (omega arith); ready = r } }

  module _ (k : ℕ) (sizes more bytes rest : List ℕ) (on : k < 256) (below : k < limit) (o : WritesNode k (own k) targets forms wholes parts sizes more bytes rest) where
    module _ (ls : length sizes ≡ 256) (lb : length bytes ≡ 52224) where
      moves : (n : ℕ) (us : List Update) (r : ℕ) → (n ≡ k → ⊥) → KeepsUnits n us r bytes → KeepsUnits n us r rest
      moves n us r d q =
          cases (is_unwritten (target_in targets k) || is_marked forms k)
          (λ t. let e = o.same t in rw e q)
          (λ t. let w = o.kept t in keeps_other k (take 17 (own k)) bytes rest w.0 w.1 on lb n us r d q)

      size_other : (n : ℕ) → (n ≡ k → ⊥) → get_or more n 0 ≡ get_or sizes n 0
      size_other n d =
          ap (λ (xs : List ℕ). get_or xs n 0) o.size
          ∙ cases (is_unwritten (target_in targets k))
          (λ t. rw t)
          (λ t. rw t (get_or-set_other sizes k n (cond (is_marked forms k) (get_or wholes k 0) (get_or parts k 0)) 0 d))

      size_here : Page k → get_or more k 0 ≡ cond (is_marked forms k) (get_or wholes k 0) (get_or parts k 0)
      size_here p =
          ap (λ (xs : List ℕ). get_or xs k 0) o.size
          ∙ rw p (get_or-set_same sizes k (cond (is_marked forms k) (get_or wholes k 0) (get_or parts k 0)) 0 (omega arith))

      here_kept : (whole : ℕ → List Update) → Readies k limit whole own targets forms wholes parts bytes → Page k
          → KeepsUnits k (form_of forms whole own k) (get_or more k 0) rest
      here_kept whole r p =
          rw (size_here p)
          (cases (is_marked forms k)
          (λ t. let e : rest ≡ bytes = o.same (rw (p, t)) in rw (t, e) (r.anew k (omega arith) below p t))
          (λ t. let w = o.kept (rw (p, t)) in
          let q = r.part k (omega arith) below p t in
          rw t (keeps_own k (own k) w.0 (get_or parts k 0) rest q.0 q.1 (keeps_this k (take 17 (own k)) bytes rest w.0 w.1 on lb))))

      pub written_next : (whole : ℕ → List Update) → Written k whole sizes bytes → Written (k + 1) whole more rest
      written_next whole w =
          record {
            done = λ n l p. cases (eqb n k)
                (λ t. let e = eqb-true n k t in at n (sym e) p)
                (λ t. let d = eqb-false n k t in
                rw (size_other n d) (moves n (form_of forms whole own n) (get_or sizes n 0) d (w.done n (omega (arith, d)) p)));
            ready = record {
              anew = λ n l m p t. moves n (whole n) (get_or wholes n 0) (λ e. absurd (omega (arith, e))) (w.ready.anew n (omega arith) m p t);
              part = λ n l m p t. w.ready.part n (omega arith) m p t;
            };
          }
        where
          at : (n : ℕ) → k ≡ n → Page n → KeepsUnits n (form_of forms whole own n) (get_or more n 0) rest
          at n e p = rw (← e) (here_kept whole w.ready (ap (λ (i : ℕ). is_unwritten (target_in targets i)) e ∙ p))

      size_all : length more ≡ 256
      size_all =
          ap length o.size
          ∙ cases (is_unwritten (target_in targets k)) (λ t. rw t ls) (λ t. rw t (simp length-set ls))

      size_bytes : length rest ≡ 52224
      size_bytes =
          cases (is_unwritten (target_in targets k) || is_marked forms k)
          (λ t. ap length (o.same t) ∙ lb) (λ t. (o.kept t).1.size ∙ lb)

    pub writing_next : Writing k sizes bytes → Writing (k + 1) more rest
    writing_next w =
        record {
          numbers = size_all w.numbers w.size;
          size = size_bytes w.numbers w.size;
          is = λ whole r. written_next w.numbers w.size whole (w.is whole r);
        }

  pub writing_done : (k : ℕ) (sizes bytes : List ℕ) → limit ≤ k → Writing k sizes bytes → WritesForms limit own targets forms wholes parts sizes units bytes
  writing_done k sizes bytes h w whole r n l p = (w.is whole r).done n (omega arith) p

-- ---- which nodes are ready
module _ (limit : ℕ) (N : Contents) (targets parts forms wholes units : List ℕ) where
  -- in a delta: the nodes with a page were read, and what must be written anew is
  pub ready_delta : (g : Geometry) (oldest : Option ℕ) (resets marks olds : List ℕ) → Measured g limit oldest N parts resets marks wholes olds units
      → ((n : ℕ) → n < limit → get_or parts n 0 ≡ length (N.buffered n))
      → ((n : ℕ) → n < limit → is_unwritten (target_in targets n) ≡ false → is_read parts olds n ≡ true)
      → ((n : ℕ) → n < limit → is_marked forms n ≡ false → is_marked marks n ≡ false)
      → Readies 0 limit (λ (n : ℕ). rewrite (N.after n)) N.buffered targets forms wholes parts units
  ready_delta g oldest resets marks olds m p r f =
      record {
        anew = λ n h l w t. m.kept n l (r n l w);
        part = λ n h l w t. (p n l, omega (arith, m.less n l (f n l t), m.few n));
      }

  -- in a snapshot
  pub ready_snapshot : AllRead limit N forms wholes units → Readies 0 limit (λ (n : ℕ). rewrite (N.after n)) N.buffered targets forms wholes parts units
  ready_snapshot m =
      record {
        anew = λ n h l w t. m.kept n l;
        part = λ n h l w t. clash (eq-eqb (get_or forms n 0) 1 (m.form n l)) t;
      }
