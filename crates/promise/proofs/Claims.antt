-- The statements of the promise, proved: the promise, one claim, the choices, lists with cut formats, the refusals, the operations. Assumes nothing.
use mathlib.Core.Path.{◌≡◌, refl, sym, ap, ap₂, ◌∙◌, subst}
use mathlib.Core.Logic.{◌⊎◌, ⊎_elim}
use mathlib.Core.Bool.{Bool, true, false, not, ◌&&◌}
use mathlib.Core.List.{List, [], ◌∷◌, map}
use Prim.Native.Nat.{ℕ, zero, suc, ◌<◌}
use native.Mathlib.Omega.{arith}
use lib.Dec.{ltb, leb, eqb}
use lib.ListN.{length}
use borrow.Author.Tests.{eqb-true, ltb-true, ltb-false, leb-true, leb-false}
use Rattle.lists.proofs.Tests.{cases, clash, and_left, and_right}
use Rattle.chip.specs.Geometry.{Nand, geometry_of}
use Rattle.promise.specs.Plain.{Answer, refuses, accepted, Plain, or_else, when, Call, reads, updates, forecasts, formats, commits, mounts, is_chip_size, is_torn_size, has_blocks, first_refusal, numbers_refusal, refusal_of, last_number, no_number_left, may_cut, Verdict, denied, cut, passed, judge, verdict, cut_off, accepted_answer, answer, after, after_by, answer_by, is_commit, is_cut, cuts, first_choice, compared, plain_run, resting, enough_writes, enough_marks}
use Rattle.promise.specs.Calls.{Store, Committing, Commit}
use Rattle.promise.specs.Steps.{Act, commit, fed, is_ten, boots, Step, Lends, one, other, last_image, Only, starts, counts, nand_after, Named, next, answer_to, Agrees, feed, feeds, choices, seen, expected, Allowed, promised}
use Rattle.promise.specs.Promise as P
use Rattle.promise.specs.Promise.{FormatRefusal, format1, format10, MountRefusal, mount1, mount10, CommitRefusal, commit2, commit1, commit6, commit10, CommitPower}
use Rattle.promise.proofs.Promise.{apart, accepted_not, and_false, when_is, first_most, on_of, nand_next, Invariant, own_nand, begins, started, agrees, agrees_any}
use Rattle.promise.proofs.Lists as L
use Rattle.promise.proofs.Lists.{place, answer_at}

-- ---- only a cut commit asks for a choice
same_cut : (c : Call) (p : Plain) (w u : Bool) → is_commit c ≡ false → cut_off w p c ≡ cut_off u p c
unfolding cut_off
same_cut (reads r image) p w u e = refl
same_cut (updates d image) p w u e = refl
same_cut (forecasts image) p w u e = refl
same_cut (formats nand a image torn) p w u e = refl
same_cut (commits a image torn) p w u e = clash refl e
same_cut (mounts nand a image torn) p w u e = refl

same_by : (d : Verdict) (c : Call) (p : Plain) (w u : Bool) → is_commit c ≡ false → after_by d w p c ≡ after_by d u p c
same_by (denied n) c p w u e = refl
same_by cut c p w u e = same_cut c p w u e
same_by passed c p w u e = refl

uncut_by : (n : ℕ) (c : Call) (p : Plain) (w u : Bool) → after_by (judge n false) w p c ≡ after_by (judge n false) u p c
uncut_by zero c p w u = refl
uncut_by (suc n) c p w u = refl

no_choice : (c : Call) (ten : Bool) (p : Plain) (w u : Bool) → is_commit c && ten ≡ false → after w p c ten ≡ after u p c ten
unfolding verdict
no_choice c false p w u e = rw (and_false (may_cut p c)) (uncut_by (refusal_of p c) c p w u)
no_choice c true p w u e = cases (is_commit c) (λ t. let z : ◌≡◌ {A = Bool} true false = (rw t at e) in clash refl z) (λ t. same_by (verdict p c true) c p w u t)

-- ---- the refusals of the plain store
abbrev pub in_turn : Bool → Bool → ℕ → ℕ
in_turn on size n = or_else (or_else (when 2 (not on)) (when 1 (not size))) n

last_is : (pending number : ℕ) → no_number_left pending number ≡ true → (0 < pending) × (number ≡ last_number)
last_is p n e = (ltb-true 0 p (and_left (ltb 0 p) (eqb n last_number) e), eqb-true n last_number (and_right (ltb 0 p) (eqb n last_number) e))

commit_by : (p : Plain) (n image torn m : ℕ) (on size last cuts : Bool) → (on ≡ false → p.on ≡ false) → (last ≡ true → (0 < p.pending) × (p.number ≡ last_number))
    → (cuts ≡ true → (0 < p.pending) × (n < enough_writes p.nand))
    → refuses m ≡ answer_by (judge (in_turn on size (or_else (when 6 last) 0)) cuts) p (commits n image torn) → CommitRefusal p n m
unfolding accepted_answer
commit_by p n image torn m false size last c o h k e = let z : m ≡ 2 = cc in rw z (commit2 (o refl))
commit_by p n image torn m true false last c o h k e = let z : m ≡ 1 = cc in rw z commit1
commit_by p n image torn m true true true c o h k e = let z : m ≡ 6 = cc in rw z (commit6 (h refl).0 (h refl).1)
commit_by p n image torn m true true false true o h k e = let z : m ≡ 10 = cc in rw z (commit10 (k refl).0 (k refl).1)
commit_by p n image torn m true true false false o h k e = absurd (accepted_not m (sym e))

pub commit_refusals : (p : Plain) (n image torn m : ℕ) (ten : Bool) → refuses m ≡ answer p (commits n image torn) ten → CommitRefusal p n m
unfolding verdict
commit_refusals p n image torn m ten e =
    commit_by p n image torn m p.on (is_chip_size (geometry_of p.nand) image && (is_torn_size (geometry_of p.nand) torn && has_blocks (geometry_of p.nand) p.blocks image)) (no_number_left p.pending p.number)
    ((ltb n (enough_writes p.nand) && ltb 0 p.pending) && ten) (λ o. o) (last_is p.pending p.number)
    (λ t. let b = and_left (ltb n (enough_writes p.nand) && ltb 0 p.pending) ten t in
    (ltb-true 0 p.pending (and_right (ltb n (enough_writes p.nand)) (ltb 0 p.pending) b), ltb-true n (enough_writes p.nand) (and_left (ltb n (enough_writes p.nand)) (ltb 0 p.pending) b))) e

mount_by : (nand : Nand) (p : Plain) (n image torn m : ℕ) (size cuts : Bool) → (cuts ≡ true → n < enough_marks)
    → refuses m ≡ answer_by (judge (or_else (when 1 (not size)) 0) cuts) p (mounts nand n image torn) → MountRefusal n m
unfolding accepted_answer
mount_by nand p n image torn m false c k e = let z : m ≡ 1 = cc in rw z mount1
mount_by nand p n image torn m true true k e = let z : m ≡ 10 = cc in rw z (mount10 (k refl))
mount_by nand p n image torn m true false k e = absurd (accepted_not m (sym e))

mount_refusals : (nand : Nand) (p : Plain) (n image torn m : ℕ) (ten : Bool) → refuses m ≡ answer p (mounts nand n image torn) ten → MountRefusal n m
unfolding verdict
mount_refusals nand p n image torn m ten e =
    mount_by nand p n image torn m (is_chip_size (geometry_of nand) image && is_torn_size (geometry_of nand) torn) (ltb n enough_marks && ten) (λ t. ltb-true n enough_marks (and_left (ltb n enough_marks) ten t)) e

format_by : (nand : Nand) (p : Plain) (n image torn m : ℕ) (size cuts : Bool) → (cuts ≡ true → n < enough_writes nand)
    → refuses m ≡ answer_by (judge (or_else (when 1 (not size)) 0) cuts) p (formats nand n image torn) → FormatRefusal nand n m
unfolding accepted_answer
format_by nand p n image torn m false c k e = let z : m ≡ 1 = cc in rw z format1
format_by nand p n image torn m true true k e = let z : m ≡ 10 = cc in rw z (format10 (k refl))
format_by nand p n image torn m true false k e = absurd (accepted_not m (sym e))

format_refusals : (nand : Nand) (p : Plain) (n image torn m : ℕ) (ten : Bool) → refuses m ≡ answer p (formats nand n image torn) ten → FormatRefusal nand n m
unfolding verdict
format_refusals nand p n image torn m ten e =
    format_by nand p n image torn m (is_chip_size (geometry_of nand) image && is_torn_size (geometry_of nand) torn) (ltb n (enough_writes nand) && ten) (λ t. ltb-true n (enough_writes nand) (and_left (ltb n (enough_writes nand)) ten t)) e

module _ (S : Store) where
  -- ---- the promise, in one claim
  pub promise : P.Promise S
  promise nand K G s i xs c = L.promise S nand K G s i xs c

  run_is : (xs : List (Step S)) (p : Plain) (i : S.Image) → Agrees S p i xs → Named S p.nand xs → seen S p.nand xs ≡ map expected (plain_run p (choices S i xs) (feeds S xs))
  run_is [] p i h d = refl
  run_is (x ∷ xs) p i h d =
      let n = nand_next S p i x d.0 h.0 in
      let r : (x.answer, S.meaning (nand_after S p.nand x) x.image) ∷ seen S (nand_after S p.nand x) xs
      ≡ expected (compared (answer_to S p x) (next S p i x)) ∷ map expected (plain_run (next S p i x) (choices S x.image xs) (feeds S xs))
      = rw (← n) (ap₂ ◌∷◌ (ap₂ (λ a m. (a, m)) h.0 h.1) (run_is xs (next S p i x) x.image h.2 (rw n d.1))) in
      cases (is_cut (feed S x))
      (λ t. rw t r)
      (λ t. let e : next S p i x ≡ after (first_choice (choices S x.image xs)) p (feed S x).call (feed S x).ten
      = no_choice (feed S x).call (feed S x).ten p (counts S i x) (first_choice (choices S x.image xs)) t in
      rw (t, ← e) r)

  one_each : (xs : List (Step S)) (i : S.Image) → length (choices S i xs) ≡ cuts (feeds S xs)
  one_each [] i = refl
  one_each (x ∷ xs) i = cases (is_cut (feed S x)) (λ t. rw t (ap suc (one_each xs x.image))) (λ t. rw t (one_each xs x.image))

  pub one_claim : P.OneClaim S
  unfolding resting
  one_claim nand K G s i xs c = (one_each xs i, run_is xs (starts S nand K G i) i (promise nand K G s i xs c) c.named)

  pub chosen_then : P.ChosenThen S
  chosen_then [] ys i = refl
  chosen_then (x ∷ xs) ys i =
      cases (is_cut (feed S x))
      (λ t. rw t (ap (λ cs. counts S i x ∷ cs) (chosen_then xs ys x.image))) (λ t. rw t (chosen_then xs ys x.image))

  pub promise_any : P.PromiseAny S
  promise_any nand K G s i xs f r = agrees_any S xs (promised (starts S nand K G i)) (Only S s) i (started S nand K G s i f) r

  pub promise_foreign : P.PromiseForeign S
  unfolding resting
  promise_foreign nand K G s i xs f r d u y = agrees S false xs (starts S nand K G i) (Only S s) i (begins S false nand K G s i f (λ b. clash b refl)) r d u (λ b. y)

  pub good_at : P.GoodAt S
  good_at nand K G s i xs ys x c b o =
      let q = place S nand K G s i xs ys x c in
      let v = (q.carried.states x.given (q.takes.handed b)).live o in
      (v.0, v.1, q.carried.image.room refl)

  -- ---- the refusals
  pub commit_refused : P.CommitRefused S
  commit_refused nand K G s i xs ys x c n m torn e a =
      commit_refusals (P.plain_at S nand K G i xs) n (S.size x.lent) (length torn) m (is_ten x.answer)
      (sym a ∙ subst (λ (y : Act). x.answer ≡ answer (P.plain_at S nand K G i xs) (fed y (S.size x.lent)) (is_ten x.answer)) e (answer_at S nand K G s i xs ys x c))

  pub mount_refused : P.MountRefused S
  mount_refused nand K G s i xs ys x c part n m torn e a =
      mount_refusals part (P.plain_at S nand K G i xs) n (S.size x.lent) (length torn) m (is_ten x.answer)
      (sym a ∙ subst (λ (y : Act). x.answer ≡ answer (P.plain_at S nand K G i xs) (fed y (S.size x.lent)) (is_ten x.answer)) e (answer_at S nand K G s i xs ys x c))

  pub format_refused : P.FormatRefused S
  format_refused nand K G s i xs ys x c part n m torn e a =
      format_refusals part (P.plain_at S nand K G i xs) n (S.size x.lent) (length torn) m (is_ten x.answer)
      (sym a ∙ subst (λ (y : Act). x.answer ≡ answer (P.plain_at S nand K G i xs) (fed y (S.size x.lent)) (is_ten x.answer)) e (answer_at S nand K G s i xs ys x c))

  -- ---- the operations of a commit that is accepted or cut
  neither : (a : Answer) (m : ℕ) → (a ≡ accepted) ⊎ (a ≡ refuses 10) → a ≡ refuses m → (m ≡ 10 → ⊥) → ⊥
  neither a m h e d = ⊎_elim (λ q. accepted_not m (sym q ∙ e)) (λ q. apart 10 m (λ k. d (sym k)) (sym q ∙ e)) h

  module _ (n : ℕ) (torn : List ℕ) (p : Plain) (s : S.State) (i : S.Image) (a : Answer) (ops : ℕ) (s' : S.State) (i' : S.Image) (v : Invariant S true p s i)
      (c : Commit S n torn s i a ops s' i') (h : (a ≡ accepted) ⊎ (a ≡ refuses 10)) where
    power_by : (m k : ℕ) → first_refusal (S.nand s) (S.on s) (S.blocks s) (commits n (S.size i) (length torn)) ≡ m
        → numbers_refusal (S.pending s) (S.number s) (commits n (S.size i) (length torn)) ≡ k → CommitPower S n s i a ops
    power_by (suc m) k e l =
        let d = first_most (S.nand s) (commit n torn) (S.size i) (S.on s) (S.blocks s) in
        absurd (neither a (suc m) h (c.first.refused m e).0 (λ t. omega arith))
    power_by zero (suc k) e l =
        let d = when_is 6 k (no_number_left (S.pending s) (S.number s)) l in
        absurd (neither a (suc k) h (c.last e k l) (λ t. omega arith))
    power_by zero zero e l =
        let on = sym v.power ∙ on_of (S.on s) _ e in
        cases (ltb 0 (S.pending s))
        (λ z. let q : Committing S n torn s i = record { good = (v.live on).1; proceeds = record { passes = e; numbers = l; pending = ltb-true 0 (S.pending s) z } } in
        let b = c.able q (subst (λ (m : Nand). S.Room m i) (sym (own_nand S true p s i v on)) (v.image.room refl)) in
        let w = c.power q.proceeds b in
        record {
          few = c.few q b;
          finished = λ y. cases (leb (length (S.commit_ops s i)) n)
              (λ t. let z = leb-true (length (S.commit_ops s i)) n t in (z, (w.enough z).1))
              (λ t. absurd (accepted_not 10 (sym y ∙ (w.short (leb-false (length (S.commit_ops s i)) n t)).0)));
          short = λ y. cases (leb (length (S.commit_ops s i)) n)
              (λ t. absurd (accepted_not 10 (sym (w.enough (leb-true (length (S.commit_ops s i)) n t)).0 ∙ y)))
              (λ t. let z = leb-false (length (S.commit_ops s i)) n t in (z, (w.short z).1));
        })
        (λ z. let y = ltb-false 0 (S.pending s) z in
        let d = c.idle e (omega arith) in
        let o = c.none (omega arith) in
        let ops0 = d.1 in
        record { few = omega arith; finished = λ q. (omega arith, ops0 ∙ sym o); short = λ q. absurd (accepted_not 10 (sym d.0 ∙ q)) })

    commit_power_at : CommitPower S n s i a ops
    commit_power_at = power_by (first_refusal (S.nand s) (S.on s) (S.blocks s) (commits n (S.size i) (length torn))) (numbers_refusal (S.pending s) (S.number s) (commits n (S.size i) (length torn))) refl refl

  lent_one : (i : S.Image) (x : Step S) → Lends S i x → (x.answer ≡ accepted) ⊎ (x.answer ≡ refuses 10) → x.lent ≡ i
  lent_one i x (one e f) h = e
  lent_one i x (other r f) h = absurd (⊎_elim (λ q. neither x.answer 1 h q (λ z. omega arith)) (λ q. neither x.answer 2 h q (λ z. omega arith)) r)

  pub commit_powered : P.CommitPowered S
  commit_powered nand K G s i xs ys x c n torn e h =
      let q = place S nand K G s i xs ys x c in
      let p = P.plain_at S nand K G i xs in
      let j = last_image S i xs in
      let b : boots x.act ≡ false = ap boots e in
      commit_power_at n torn p x.given j x.answer x.ops x.state x.left (q.carried.states x.given (q.takes.handed b))
      (subst (λ (y : S.Image). Commit S n torn x.given y x.answer x.ops x.state x.left) (lent_one j x q.takes.lends h)
      (subst (λ (y : Act). Allowed S y x.given x.lent x.answer x.ops x.state x.left) e q.takes.allowed)) h
