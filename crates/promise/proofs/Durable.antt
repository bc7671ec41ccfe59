-- What a commit kept is found until a finished format: that of a finished commit, and that of a cut one by its choice.
-- Assumes nothing.
use mathlib.Core.Path.{◌≡◌, refl, sym, ap, ◌∙◌, subst}
use mathlib.Core.Bool.{Bool, true, false, cond, ◌&&◌}
use mathlib.Core.List.{List, [], ◌∷◌, ◌++◌, append_assoc}
use Prim.Native.Nat.{ℕ, zero, suc}
use native.Mathlib.Omega.{arith}
use lib.Dec.{ltb}
use lib.ListN.{length}
use borrow.Author.Tests.{ltb-false}
use Rattle.lists.proofs.Tests.{cases, clash}
use Rattle.chip.specs.Geometry.{Nand, geometry_of}
use Rattle.tree.specs.Tree.{Table, find}
use Rattle.promise.specs.Plain.{Answer, refuses, accepted, looked_up, Plain, or_else, when, ReadCall, UpdateCall, Call, reads, commits, mounts, looking_up, is_chip_size, is_torn_size, has_blocks, first_refusal, later_refusal, refusal_of, no_number_left, may_cut, Verdict, denied, cut, passed, judge, verdict, committed, finished, off, cut_off, accepted_answer, answer, after, after_by, answer_by, enough_writes}
use Rattle.promise.specs.Calls.{Store}
use Rattle.promise.specs.Steps.{Act, read, update, forecast, format, commit, mount, fed, is_ten, is_accepted, is_format, Step, last_image, counts, NoFormat, starts, next, last_plain, answer_to, Agrees}
use Rattle.promise.specs.History.{value_of, History, begun, flushed, history_after, dropped, next_history, last_history, since}
use Rattle.promise.specs.Promise as P
use Rattle.promise.specs.Promise.{CommitGives, FinishedMount, LooksUp, Later}
use Rattle.promise.proofs.Promise.{apart, accepted_not, on_of}
use Rattle.promise.proofs.Lists.{agrees_split, history_split, lawful_split, answer_at}
use Rattle.promise.proofs.Lists as L
use Rattle.promise.proofs.Claims.{in_turn}
use Rattle.promise.proofs.Values.{or_zero, Tells, tells_last, tells_at, value_stays}

-- ---- a read that is refused with neither 2 nor 1 answers by the store
read_by : (on size : Bool) (r : ReadCall) (image : ℕ) (a : Answer) (q : Plain) → (a ≡ refuses 1 → ⊥) → (on ≡ false → a ≡ refuses 2 → ⊥)
    → a ≡ answer_by (judge (in_turn on size 0) false) q (reads r image) → a ≡ r.answer q
unfolding accepted_answer
read_by false size r image a q h j e = absurd (j refl e)
read_by true false r image a q h j e = absurd (h e)
read_by true true r image a q h j e = e

pub read_is : (q : Plain) (r : ReadCall) (image : ℕ) (ten : Bool) (a : Answer) → (a ≡ refuses 1 → ⊥) → (q.on ≡ false → a ≡ refuses 2 → ⊥)
    → a ≡ answer q (reads r image) ten → a ≡ r.answer q
unfolding verdict
read_is q r image ten a h j e = read_by q.on (is_chip_size (geometry_of q.nand) image && has_blocks (geometry_of q.nand) q.blocks image) r image a q h j e

-- ---- the verdict on a commit that is accepted, or refused with 10; and on a mount that is accepted
accepted_verdict : (d : Verdict) (p : Plain) (c : Call) → accepted ≡ answer_by d p c → d ≡ passed
accepted_verdict (denied n) p c e = absurd (accepted_not n e)
accepted_verdict cut p c e = absurd (accepted_not 10 e)
accepted_verdict passed p c e = refl

cut_by : (on size last cuts : Bool) (p : Plain) (a image torn : ℕ) → refuses 10 ≡ answer_by (judge (in_turn on size (or_else (when 6 last) 0)) cuts) p (commits a image torn)
    → judge (in_turn on size (or_else (when 6 last) 0)) cuts ≡ cut
unfolding accepted_answer
cut_by false s l c p a image torn e = absurd (apart 10 2 (λ q. omega arith) e)
cut_by true false l c p a image torn e = absurd (apart 10 1 (λ q. omega arith) e)
cut_by true true true c p a image torn e = absurd (apart 10 6 (λ q. omega arith) e)
cut_by true true false true p a image torn e = refl
cut_by true true false false p a image torn e = absurd (accepted_not 10 (sym e))

cut_verdict : (p : Plain) (a image torn : ℕ) (ten : Bool) → refuses 10 ≡ answer p (commits a image torn) ten → verdict p (commits a image torn) ten ≡ cut
unfolding verdict
cut_verdict p a image torn ten e =
    cut_by p.on (is_chip_size (geometry_of p.nand) image && (is_torn_size (geometry_of p.nand) torn && has_blocks (geometry_of p.nand) p.blocks image)) (no_number_left p.pending p.number)
    ((ltb a (enough_writes p.nand) && ltb 0 p.pending) && ten) p a image torn e

passed_zero : (n : ℕ) (b : Bool) → judge n b ≡ passed → n ≡ 0
passed_zero zero b e = refl
passed_zero (suc n) b e = let z : ◌≡◌ {A = ℕ} 0 1 = cc in absurd (omega arith)

-- ---- a history on top of another
abbrev on_top_lem : Table → List UpdateCall → History → History
on_top_lem t us l = record { base = t; kept = l.kept ++ us; pending = l.pending }

top_commit : (t : Table) (us : List UpdateCall) (l : History) → flushed (on_top_lem t us l) ≡ on_top_lem t us (flushed l)
top_commit t us l = ap (λ vs. record { base = t; kept = vs; pending = [] }) (sym (append_assoc l.pending l.kept us))

top_step : (d : Verdict) (w : Bool) (x : Act) (image : ℕ) (t : Table) (us : List UpdateCall) (l : History) (p : Plain)
    → cond (is_format x) (is_accepted (answer_by d p (fed x image))) false ≡ false → history_after d w (fed x image) (on_top_lem t us l) ≡ on_top_lem t us (history_after d w (fed x image) l)
unfolding accepted_answer
top_step (denied n) w x image t us l p e = refl
top_step passed w (read r) image t us l p e = refl
top_step passed w (update u) image t us l p e = refl
top_step passed w forecast image t us l p e = refl
top_step passed w (format nand n torn) image t us l p e = clash refl e
top_step passed w (commit n torn) image t us l p e = top_commit t us l
top_step passed w (mount nand n torn) image t us l p e = refl
top_step cut w (read r) image t us l p e = refl
top_step cut w (update u) image t us l p e = refl
top_step cut w forecast image t us l p e = refl
top_step cut w (format nand n torn) image t us l p e = refl
top_step cut true (commit n torn) image t us l p e = top_commit t us l
top_step cut false (commit n torn) image t us l p e = refl
top_step cut w (mount nand n torn) image t us l p e = refl

module _ (S : Store) where
  top_end : (xs : List (Step S)) (p : Plain) (i : S.Image) (t : Table) (us : List UpdateCall) (l : History) → Agrees S p i xs → NoFormat S xs
      → last_history S p i xs (on_top_lem t us l) ≡ on_top_lem t us (last_history S p i xs l)
  top_end [] p i t us l h n = refl
  top_end (x ∷ xs) p i t us l h n =
      let c = fed x.act (S.size x.lent) in
      ap (last_history S (next S p i x) x.image xs)
      (top_step (verdict p c (is_ten x.answer)) (counts S i x) x.act (S.size x.lent) t us l p
      (subst (λ (a : Answer). cond (is_format x.act) (is_accepted a) false ≡ false) h.0 n.0))
      ∙ top_end xs (next S p i x) x.image t us (next_history S p i x l) h.2 n.1

  -- ---- the plain store and its history after a commit, and the history after a finished mount
  record After (k : Table) (p : Plain) (i : S.Image) (x : Step S) (l : History) : Type 0 where
    kept : (next S p i x).kept ≡ k
    empty : (next_history S p i x l).pending ≡ []

  finished_by : (d : Verdict) (w : Bool) (p : Plain) (n image torn : ℕ) (l : History) → d ≡ passed → Tells p l → p.on ≡ true
      → ((after_by d w p (commits n image torn)).kept ≡ p.present) × ((history_after d w (commits n image torn) l).pending ≡ [])
  unfolding finished committed
  finished_by d w p n image torn l e h o =
      cases (ltb 0 p.pending) (λ t. rw (e, t) (refl, refl)) (λ t. let z = ltb-false 0 p.pending t in rw (e, t) (sym (h.rests o (omega arith)), refl))

  passed_on : (p : Plain) (n image torn : ℕ) (ten : Bool) → verdict p (commits n image torn) ten ≡ passed → p.on ≡ true
  unfolding verdict
  passed_on p n image torn ten e =
      on_of p.on _
      (or_zero (first_refusal p.nand p.on p.blocks (commits n image torn)) (later_refusal p (commits n image torn))
      (passed_zero (refusal_of p (commits n image torn)) (may_cut p (commits n image torn) && ten) e)).0

  finished_after : (p : Plain) (i : S.Image) (x : Step S) (l : History) → Tells p l → CommitGives S accepted x → x.answer ≡ answer_to S p x → After p.present p i x l
  finished_after p i x l h c a =
      let n = c.allowance in
      let m = S.size x.lent in
      let t = length c.torn in
      let ten = is_ten x.answer in
      let e : fed x.act m ≡ commits n m t = ap (λ (y : Act). fed y m) c.act in
      let d : verdict p (commits n m t) ten ≡ passed = accepted_verdict (verdict p (commits n m t) ten) p (commits n m t) (sym c.answer ∙ a ∙ ap (λ (y : Call). answer p y ten) e) in
      let r = finished_by (verdict p (commits n m t) ten) (counts S i x) p n m t l d h (passed_on p n m t ten d) in
      record {
        kept = ap (λ (y : Call). (after (counts S i x) p y ten).kept) e ∙ r.0;
        empty = ap (λ (y : Call). (history_after (verdict p y ten) (counts S i x) y l).pending) e ∙ r.1;
      }

  cut_after_by : (d : Verdict) (w : Bool) (p : Plain) (n image torn : ℕ) (l : History) → d ≡ cut
      → ((after_by d w p (commits n image torn)).kept ≡ cond w p.present p.kept) × ((history_after d w (commits n image torn) l).pending ≡ [])
  unfolding cut_off off committed
  cut_after_by d true p n image torn l e = rw e (refl, refl)
  cut_after_by d false p n image torn l e = rw e (refl, refl)

  cut_after : (p : Plain) (i : S.Image) (x : Step S) (l : History) → CommitGives S (refuses 10) x → x.answer ≡ answer_to S p x
      → After (cond (counts S i x) p.present p.kept) p i x l
  cut_after p i x l c a =
      let n = c.allowance in
      let m = S.size x.lent in
      let t = length c.torn in
      let ten = is_ten x.answer in
      let e : fed x.act m ≡ commits n m t = ap (λ (y : Act). fed y m) c.act in
      let d : verdict p (commits n m t) ten ≡ cut = cut_verdict p n m t ten (sym c.answer ∙ a ∙ ap (λ (y : Call). answer p y ten) e) in
      let r = cut_after_by (verdict p (commits n m t) ten) (counts S i x) p n m t l d in
      record {
        kept = ap (λ (y : Call). (after (counts S i x) p y ten).kept) e ∙ r.0;
        empty = ap (λ (y : Call). (history_after (verdict p y ten) (counts S i x) y l).pending) e ∙ r.1;
      }

  dropped_by : (nand : Nand) (d : Verdict) (w : Bool) (n image torn : ℕ) (l : History) → d ≡ passed → history_after d w (mounts nand n image torn) l ≡ dropped l
  dropped_by nand d w n image torn l e = rw e

  dropped_after : (p : Plain) (i : S.Image) (z : Step S) (l : History) → FinishedMount S z → z.answer ≡ answer_to S p z → next_history S p i z l ≡ dropped l
  dropped_after p i z l c a =
      let nand = c.nand in
      let n = c.allowance in
      let m = S.size z.lent in
      let t = length c.torn in
      let ten = is_ten z.answer in
      let e : fed z.act m ≡ mounts nand n m t = ap (λ (y : Act). fed y m) c.act in
      let d : verdict p (mounts nand n m t) ten ≡ passed = accepted_verdict (verdict p (mounts nand n m t) ten) p (mounts nand n m t) (sym c.answer ∙ a ∙ ap (λ (y : Call). answer p y ten) e) in
      ap (λ (y : Call). history_after (verdict p y ten) (counts S i z) y l) e ∙ dropped_by nand (verdict p (mounts nand n m t) ten) (counts S i z) n m t l d

  -- a look up answers by P
  look_up_is : (q : Plain) (k : ℕ) (w : Step S) → LooksUp S k w → (q.on ≡ false → w.answer ≡ refuses 2 → ⊥) → w.answer ≡ answer_to S q w
      → w.answer ≡ looked_up (find k q.present)
  unfolding looking_up
  look_up_is q k w u o a =
      read_is q (looking_up k) (S.size w.lent) (is_ten w.answer) w.answer u.lent o
      (a ∙ ap (λ (y : Act). answer q (fed y (S.size w.lent)) (is_ten w.answer)) u.act)

  -- off, it is refused with 2
  off_two : (q : Plain) (k : ℕ) (w : Step S) → LooksUp S k w → q.on ≡ false → w.answer ≡ answer_to S q w → w.answer ≡ refuses 2
  unfolding verdict
  off_two q k w u o a =
      a ∙ ap (λ (y : Act). answer q (fed y (S.size w.lent)) (is_ten w.answer)) u.act
      ∙ ap (λ b. answer_by (judge (in_turn b (is_chip_size (geometry_of q.nand) (S.size w.lent) && has_blocks (geometry_of q.nand) q.blocks (S.size w.lent)) 0) false) q (reads (looking_up k) (S.size w.lent))) o

  pub look_up_tells : P.LookUpTells S
  look_up_tells nand K G s i xs ys x c t h k b u o =
      let p = P.plain_at S nand K G i xs in
      let T = tells_at S nand K G i xs t (lawful_split S xs (x ∷ ys) h).0 in
      let a = look_up_is p k x u (λ q. o) (answer_at S nand K G s i xs ys x c) in
      cases p.on (λ q. a ∙ ap looked_up (T.present_value q k b)) (λ q. absurd (o (off_two p k x u q (answer_at S nand K G s i xs ys x c))))

  -- ---- K after the commit x is what the look up w finds in
  later : (nand : Nand) (K : Table) (G : ℕ) (s : S.State) (i : S.Image) (xs ys vs : List (Step S)) (x w : Step S) (k : ℕ) (t : Table) → Later S nand K G s i xs ys vs x w k
      → After t (P.plain_at S nand K G i xs) (last_image S i xs) x (P.history_at S nand K G i xs) → w.answer ≡ looked_up (find k t)
  later nand K G s i xs ys vs x w k t h f =
      let p = P.plain_at S nand K G i xs in
      let l = P.history_at S nand K G i xs in
      let j = last_image S i xs in
      let p1 = next S p j x in
      let l1 = next_history S p j x l in
      let q = last_plain S p1 x.image ys in
      let n = since S p1 x.image ys in
      let a = (agrees_split S xs (x ∷ (ys ++ (w ∷ vs))) (starts S nand K G i) i (L.promise S nand K G s i (xs ++ (x ∷ (ys ++ (w ∷ vs)))) h.course)).1 in
      let b = agrees_split S ys (w ∷ vs) p1 x.image a.2 in
      let r = lawful_split S xs (x ∷ (ys ++ (w ∷ vs))) h.lawful in
      let e = lawful_split S ys (w ∷ vs) r.1.1 in
      let T1 = tells_last S (x ∷ []) p j l (r.1.0, tt) (tells_at S nand K G i xs h.tree r.0) in
      let Tq = tells_last S ys p1 x.image l1 e.0 T1 in
      let o : l1 ≡ on_top_lem l1.base l1.kept (begun []) = ap (λ us. record { base = l1.base; kept = l1.kept; pending = us }) f.empty in
      let lq : last_history S p1 x.image ys l1 ≡ on_top_lem l1.base l1.kept n
      = ap (last_history S p1 x.image ys) o ∙ top_end ys p1 x.image l1.base l1.kept (begun []) b.0 h.unformatted in
      let live : q.on ≡ true = cases q.on (λ y. y) (λ y. absurd (h.on (off_two q k w h.looks y b.1.0))) in
      look_up_is q k w h.looks (λ y. h.on) b.1.0
      ∙ ap looked_up
      (Tq.present_value live k h.key
      ∙ ap (λ (v : History). value_of k v.base (v.pending ++ v.kept)) lq
      ∙ value_stays k l1.base n.pending (n.kept ++ l1.kept) h.pending_since
      ∙ value_stays k l1.base n.kept l1.kept h.kept_since
      ∙ sym (T1.kept_value k h.key)
      ∙ ap (find k) f.kept)

  answer_of_lem : (nand : Nand) (K : Table) (G : ℕ) (s : S.State) (i : S.Image) (xs ys vs : List (Step S)) (x w : Step S) (k : ℕ) → Later S nand K G s i xs ys vs x w k
      → x.answer ≡ answer_to S (P.plain_at S nand K G i xs) x
  answer_of_lem nand K G s i xs ys vs x w k h = answer_at S nand K G s i xs (ys ++ (w ∷ vs)) x h.course

  pub durable : P.Durable S
  durable nand K G s i xs ys vs x w k h c =
      later nand K G s i xs ys vs x w k (P.plain_at S nand K G i xs).present h
      (finished_after (P.plain_at S nand K G i xs) (last_image S i xs) x (P.history_at S nand K G i xs)
      (tells_at S nand K G i xs h.tree (lawful_split S xs (x ∷ (ys ++ (w ∷ vs))) h.lawful).0) c (answer_of_lem nand K G s i xs ys vs x w k h))

  pub choice_holds : P.ChoiceHolds S
  choice_holds nand K G s i xs ys vs x w k h c =
      later nand K G s i xs ys vs x w k (cond (counts S (last_image S i xs) x) (P.plain_at S nand K G i xs).present (P.plain_at S nand K G i xs).kept) h
      (cut_after (P.plain_at S nand K G i xs) (last_image S i xs) x (P.history_at S nand K G i xs) c (answer_of_lem nand K G s i xs ys vs x w k h))

  pub mount_drops : P.MountDrops S
  mount_drops p i ys z h m =
      let b = agrees_split S ys (z ∷ []) p i h in
      history_split S ys (z ∷ []) p i (begun [])
      ∙ dropped_after (last_plain S p i ys) (last_image S i ys) z (since S p i ys) m b.1.0
