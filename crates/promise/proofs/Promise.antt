-- The promise: any list of calls from a start, each step allowed by its contract, agrees with the plain store. Assumes nothing.
use mathlib.Core.Path.{◌≡◌, refl, sym, ap, ◌∙◌, subst}
use mathlib.Core.Logic.{⊎_elim, inl, inr}
use mathlib.Core.Bool.{Bool, true, false, cond, not, ◌&&◌, ◌||◌}
use mathlib.Core.List.{List, [], ◌∷◌}
use Prim.Native.Nat.{ℕ, zero, suc, ◌*◌, ◌-◌, ◌<◌, ◌≤◌}
use native.Mathlib.Omega.{arith}
use lib.Dec.{ltb, leb, eqb}
use lib.ListN.{length, get_or}
use borrow.Author.Tests.{eqb-true, eq-eqb, ne_eqb, lt-ltb, le-ltb, le-leb, ltb-true, ltb-false, leb-true, leb-false}
use Rattle.lists.proofs.Tests.{cases, clash}
use Rattle.chip.specs.Geometry.{Nand, geometry_of, blocks_of}
use Rattle.chip.specs.declared.geometry.Nand.TheVariants.{Small, Large}
use Rattle.chip.specs.Power.{takes_effect}
use Rattle.tree.specs.Tree.{Table}
use Rattle.tree.specs.Thick.{thin}
use Rattle.tree.specs.Rebuild.{rebuild}
use Rattle.tree.proofs.Laws.{first_not_thin}
use Rattle.promise.specs.Plain.{Answer, refuses, accepted, tells, Plain, or_else, when, ReadCall, UpdateCall, Call, reads, updates, forecasts, formats, commits, mounts, is_chip_size, is_torn_size, has_blocks, start_refusal, first_refusal, numbers_refusal, later_refusal, refusal_of, last_number, no_number_left, may_cut, Verdict, denied, cut, passed, judge, verdict, leaf, resting, fresh, updated, committed, mounted, finished, off, cut_off, accepted_answer, answer, after, answer_by, after_by, enough_writes, enough_marks}
use Rattle.promise.specs.Calls.{means, tree_in, number_in, Store, state_of, Same, FirstTests, Reads, Updates, Format, Proceeding, Committing, Commit, Forecast, Mount, Rebuilding, Rebuild}
use Rattle.promise.specs.Steps.{Act, read, update, forecast, format, commit, mount, fed, is_one, is_ten, is_accepted, is_format, formatted_as, is_nand, names_other, boots, Step, Lends, one, other, Only, Hands, counts, nand_after, strays, Named, SixIsLast, Unstuck, is_cut_format, Uncut, Mode, promised, unpromised, begun_by, Allowed, Takes, Runs, Started, Mounted, starts, Formatted, next, answer_to, Agrees, mode_for, next_mode, AnswerIs, MeaningIs, AgreesAny}
use Rattle.promise.specs.Promise.{FormatStarts, RebuildStarts, RebuildCut}

-- ---- two answers that differ
pub apart : (a b : ℕ) → (a ≡ b → ⊥) → refuses a ≡ refuses b → ⊥
apart a b h e = h cc

pub accepted_not : (n : ℕ) → accepted ≡ refuses n → ⊥
accepted_not n e = let u : ◌≡◌ {A = ℕ} 0 1 = cc in omega arith

pub tells_not : (vs : List ℕ) (n : ℕ) → tells vs ≡ refuses n → ⊥
tells_not vs n e = let u : ◌≡◌ {A = ℕ} 0 1 = cc in omega arith

pub ten_is : (a : Answer) → is_ten a ≡ true → a ≡ refuses 10
ten_is (refuses n) e = ap refuses (eqb-true n 10 e)
ten_is accepted e = let u : ◌≡◌ {A = ℕ} 0 1 = cc in absurd (omega arith)
ten_is (tells v) e = let u : ◌≡◌ {A = ℕ} 0 1 = cc in absurd (omega arith)

pub one_is : (a : Answer) → is_one a ≡ true → a ≡ refuses 1
one_is (refuses n) e = ap refuses (eqb-true n 1 e)
one_is accepted e = clash e refl
one_is (tells v) e = clash e refl

pub accepted_is : (a : Answer) → is_accepted a ≡ true → a ≡ accepted
accepted_is (refuses n) e = let u : ◌≡◌ {A = ℕ} 0 1 = cc in absurd (omega arith)
accepted_is accepted e = refl
accepted_is (tells v) e = let u : ◌≡◌ {A = ℕ} 0 1 = cc in absurd (omega arith)

-- ---- the tests
pub and_false : (b : Bool) → b && false ≡ false
and_false true = refl
and_false false = refl

and_true : (b : Bool) → b && true ≡ b
and_true true = refl
and_true false = refl

pub cond_same : {A : Type 0} (b : Bool) (x : A) → cond b x x ≡ x
cond_same true x = refl
cond_same false x = refl

pub when_is : (n m : ℕ) (b : Bool) → when n b ≡ suc m → suc m ≡ n
when_is n m true e = sym e
when_is n m false e = absurd (omega arith)

-- ---- the parts
pub same_nand : (m n : Nand) → is_nand m n ≡ true → m ≡ n
same_nand Small Small e = refl
same_nand Small Large e = clash e refl
same_nand Large Small e = clash e refl
same_nand Large Large e = refl

-- a mount that is not refused with 1, and does not stray from n, names n
pub names_is : (m n : Nand) (a : Answer) → not (is_nand m n) && not (is_one a) ≡ false → (a ≡ refuses 1 → ⊥) → m ≡ n
names_is m n a e h =
    cases (is_nand m n) (λ t. same_nand m n t)
    (λ t. cases (is_one a) (λ o. absurd (h (one_is a o))) (λ o. let z : true ≡ false = (rw (t, o) at e) in clash refl z))

-- the tests of 2 and 1 read the state's part and blocks only when it is on
first_same : (c : Call) (b : Bool) (m n : Nand) (B C : ℕ) → (b ≡ true → m ≡ n) → (b ≡ true → B ≡ C) → first_refusal m b B c ≡ first_refusal n b C c
first_same (reads r i) true m n B C k h = rw (k refl, h refl)
first_same (reads r i) false m n B C k h = refl
first_same (updates u i) true m n B C k h = rw (k refl, h refl)
first_same (updates u i) false m n B C k h = refl
first_same (forecasts i) true m n B C k h = rw (k refl, h refl)
first_same (forecasts i) false m n B C k h = refl
first_same (formats nand a i t) b m n B C k h = refl
first_same (commits a i t) true m n B C k h = rw (k refl, h refl)
first_same (commits a i t) false m n B C k h = refl
first_same (mounts nand a i t) b m n B C k h = refl

-- those of a mount or a format read nothing of the state, and give 1 alone
first_boots : (x : Act) (image : ℕ) (m n : Nand) (b d : Bool) (B C : ℕ) → boots x ≡ true → first_refusal m b B (fed x image) ≡ first_refusal n d C (fed x image)
first_boots (read r) i m n b d B C h = clash h refl
first_boots (update u) i m n b d B C h = clash h refl
first_boots forecast i m n b d B C h = clash h refl
first_boots (format nand a t) i m n b d B C h = refl
first_boots (commit a t) i m n b d B C h = clash h refl
first_boots (mount nand a t) i m n b d B C h = refl

pub one_boots : (own : Nand) (x : Act) (image : ℕ) (b : Bool) (B n : ℕ) → boots x ≡ true → first_refusal own b B (fed x image) ≡ suc n → suc n ≡ 1
one_boots own (read r) i b B n h e = clash h refl
one_boots own (update u) i b B n h e = clash h refl
one_boots own forecast i b B n h e = clash h refl
one_boots own (format nand a t) i b B n h e = when_is 1 n (not (is_chip_size (geometry_of nand) i && is_torn_size (geometry_of nand) (length t))) e
one_boots own (commit a t) i b B n h e = clash h refl
one_boots own (mount nand a t) i b B n h e = when_is 1 n (not (is_chip_size (geometry_of nand) i && is_torn_size (geometry_of nand) (length t))) e

-- all of them give 2 or 1
two_most : (a b : Bool) → or_else (when 2 a) (when 1 b) ≤ 2
two_most true b = omega arith
two_most false true = omega arith
two_most false false = omega arith

pub first_most : (own : Nand) (x : Act) (image : ℕ) (b : Bool) (B : ℕ) → first_refusal own b B (fed x image) ≤ 2
first_most own (read r) i b B = two_most (not b) (not (is_chip_size (geometry_of own) i && has_blocks (geometry_of own) B i))
first_most own (update u) i b B = two_most (not b) (not (is_chip_size (geometry_of own) i && has_blocks (geometry_of own) B i))
first_most own forecast i b B = two_most (not b) (not (is_chip_size (geometry_of own) i && has_blocks (geometry_of own) B i))
first_most own (format nand a t) i b B = two_most false (not (is_chip_size (geometry_of nand) i && is_torn_size (geometry_of nand) (length t)))
first_most own (commit a t) i b B = two_most (not b) (not (is_chip_size (geometry_of own) i && (is_torn_size (geometry_of own) (length t) && has_blocks (geometry_of own) B i)))
first_most own (mount nand a t) i b B = two_most false (not (is_chip_size (geometry_of nand) i && is_torn_size (geometry_of nand) (length t)))

-- what passes a test of 2 is on
pub on_of : (b : Bool) (n : ℕ) → or_else (when 2 (not b)) n ≡ 0 → b ≡ true
on_of true n h = refl
on_of false n h = absurd (omega arith)

pub verdict_is : (p : Plain) (c : Call) (ten : Bool) (n : ℕ) → refusal_of p c ≡ n → verdict p c ten ≡ judge n (may_cut p c && ten)
unfolding verdict
verdict_is p c ten n e = ap (λ m. judge m (may_cut p c && ten)) e

cond_nand : (b : Bool) (p q : Plain) → p.nand ≡ q.nand → (cond b p q).nand ≡ q.nand
cond_nand true p q e = e
cond_nand false p q e = refl

-- the part after a call: that of a finished format, else the one before
nand_by : (d : Verdict) (w : Bool) (p : Plain) (x : Act) (image : ℕ) → names_other p.nand x && not (is_one (answer_by d p (fed x image))) ≡ false
    → (after_by d w p (fed x image)).nand ≡ cond (is_accepted (answer_by d p (fed x image))) (formatted_as p.nand x) p.nand
unfolding finished cut_off off resting updated committed accepted_answer
nand_by (denied n) w p x image k = refl
nand_by passed w p (read r) image k = sym (cond_same (is_accepted (r.answer p)) p.nand)
nand_by passed w p (update u) image k = refl
nand_by passed w p forecast image k = refl
nand_by passed w p (format nand n torn) image k = refl
nand_by passed w p (commit n torn) image k = cond_nand (ltb 0 p.pending) (committed p) p refl
nand_by passed w p (mount nand n torn) image k = names_is nand p.nand accepted k (accepted_not 1)
nand_by cut w p (read r) image k = refl
nand_by cut w p (update u) image k = refl
nand_by cut w p forecast image k = refl
nand_by cut w p (format nand n torn) image k = refl
nand_by cut w p (commit n torn) image k = cond_nand w (off (committed p)) (off p) refl
nand_by cut w p (mount nand n torn) image k = refl

-- one empty leaf is not thin
pub leaf_not_thin : (B : ℕ) → thin (leaf B) ≡ false
unfolding leaf
leaf_not_thin B = first_not_thin (8 * B - 1)

-- a number that is the last one's or another
either_or : {M : Type 0} (b : Bool) (m u v : M) → m ≡ cond b u v → (Q : Type 0) → (m ≡ u → Q) → (m ≡ v → Q) → Q
either_or true m u v e Q f h = f e
either_or false m u v e Q f h = h e

module _ (S : Store) where
  -- the choice, by what the image means after the cut
  pub counts_not : (i : S.Image) (x : Step S) → S.meaning (S.nand x.given) x.image ≡ S.meaning (S.nand x.given) i → counts S i x ≡ false
  counts_not i x e =
      let k = number_in (S.meaning (S.nand x.given) i) in
      ap (λ m. not (eqb (number_in m) k)) e ∙ ap not (eq-eqb k k refl)

  pub counts_so : (i : S.Image) (x : Step S) (K P : Table) (G : ℕ) → S.meaning (S.nand x.given) i ≡ means K G → S.meaning (S.nand x.given) x.image ≡ means P (suc G)
      → counts S i x ≡ true
  counts_so i x K P G e f =
      ap (λ m. not (eqb (number_in m) (number_in (S.meaning (S.nand x.given) i)))) f ∙ ap (λ m. not (eqb (suc G) (number_in m))) e
      ∙ ap not (ne_eqb (suc G) G (λ h. omega arith))

  -- the plain store has the part of the last finished format
  pub nand_next : (p : Plain) (i : S.Image) (x : Step S) → strays S p.nand x ≡ false → x.answer ≡ answer_to S p x → (next S p i x).nand ≡ nand_after S p.nand x
  nand_next p i x k e =
      let d = verdict p (fed x.act (S.size x.lent)) (is_ten x.answer) in
      subst (λ (a : Answer). (after_by d (counts S i x) p (fed x.act (S.size x.lent))).nand ≡ cond (is_accepted a) (formatted_as p.nand x.act) p.nand) (sym e)
      (nand_by d (counts S i x) p x.act (S.size x.lent) (subst (λ (a : Answer). names_other p.nand x.act && not (is_one a) ≡ false) e k))

  -- a call on the one image, with what it gave
  abbrev pub step_is : Act → S.State → S.Image → Answer → ℕ → S.State → S.Image → Step S
  step_is x s i a ops s' i' = record { act = x; given = s; lent = i; left = i'; answer = a; ops = ops; state = s'; image = i' }

  -- what every contract says first
  pub first_of_lem : (x : Act) (s : S.State) (i : S.Image) (a : Answer) (ops : ℕ) (s' : S.State) (i' : S.Image) → Allowed S x s i a ops s' i'
      → FirstTests S (fed x (S.size i)) s i a s' i'
  first_of_lem (read r) s i a ops s' i' c = c.first
  first_of_lem (update u) s i a ops s' i' c = c.first
  first_of_lem forecast s i a ops s' i' c = c.first
  first_of_lem (format nand n torn) s i a ops s' i' c = c.first
  first_of_lem (commit n torn) s i a ops s' i' c = c.first
  first_of_lem (mount nand n torn) s i a ops s' i' c = c.first

-- with room throughout, or without: then no commit may be stuck
module _ (S : Store) (rooms : Bool) where
  -- ---- what holds of the plain store and the one image between calls; and of a state at hand
  pub record Kept (p : Plain) (i : S.Image) : Type 0 where
    pub is : S.meaning p.nand i ≡ means p.kept p.number
    pub thick : thin p.kept ≡ false
    pub room : rooms ≡ true → S.Room p.nand i
    pub sized : p.blocks ≡ blocks_of (geometry_of p.nand) (S.size i)

  pub record Invariant (p : Plain) (s : S.State) (i : S.Image) : Type 0 where
    pub image : Kept p i
    pub power : S.on s ≡ p.on
    pub live : p.on ≡ true → (state_of S s i ≡ p) × S.Good s i

  pub record Carried (p : Plain) (H : S.State → Type 0) (i : S.Image) : Type 0 where
    pub image : Kept p i
    pub states : (t : S.State) → H t → Invariant p t i

  -- what is to show of one call
  pub record Conforms (p : Plain) (c : Call) (w : Bool) (a : Answer) (s' : S.State) (i' : S.Image) : Type 0 where
    pub same : a ≡ answer p c (is_ten a)
    pub inv : Invariant (after w p c (is_ten a)) s' i'

  -- a state that is on has the plain store's part
  pub own_nand : (p : Plain) (s : S.State) (i : S.Image) → Invariant p s i → p.on ≡ true → S.nand s ≡ p.nand
  unfolding state_of
  own_nand p s i v o = ap (λ (q : Plain). q.nand) (v.live o).0

  first_is : (p : Plain) (s : S.State) (i : S.Image) (c : Call) → Invariant p s i → first_refusal (S.nand s) (S.on s) (S.blocks s) c ≡ first_refusal p.nand p.on p.blocks c
  unfolding state_of
  first_is p s i c v =
      ap (λ b. first_refusal (S.nand s) b (S.blocks s) c) v.power
      ∙ first_same c p.on (S.nand s) p.nand (S.blocks s) p.blocks (own_nand p s i v) (λ t. ap (λ (q : Plain). q.blocks) (v.live t).0)

  -- ---- a refused call, a finished one, a cut one
  out_denied : (p : Plain) (s : S.State) (i : S.Image) (c : Call) (w : Bool) (a : Answer) (s' : S.State) (i' : S.Image) (n : ℕ)
      → Invariant p s i → refusal_of p c ≡ suc n → a ≡ refuses (suc n) → Same S s i s' i' → Conforms p c w a s' i'
  out_denied p s i c w a s' i' n v r e h =
      let k = verdict_is p c (is_ten a) (suc n) r in
      let f = h.state in
      let m = h.image in
      record { same = e ∙ sym (ap (λ d. answer_by d p c) k); inv = rw (k, f, m) v }

  out_passed : (p : Plain) (c : Call) (w : Bool) (a : Answer) (s' : S.State) (i' : S.Image)
      → refusal_of p c ≡ 0 → may_cut p c && is_ten a ≡ false → a ≡ accepted_answer p c → Invariant (finished p c) s' i' → Conforms p c w a s' i'
  out_passed p c w a s' i' r t e v =
      let k : verdict p c (is_ten a) ≡ passed = verdict_is p c (is_ten a) 0 r ∙ ap (judge 0) t in
      record { same = e ∙ sym (ap (λ d. answer_by d p c) k); inv = rw k v }

  not_cut : (p : Plain) (c : Call) (a : Answer) → a ≡ accepted → may_cut p c && is_ten a ≡ false
  not_cut p c a e = rw e (and_false (may_cut p c))

  out_cut : (p : Plain) (c : Call) (w : Bool) (a : Answer) (s' : S.State) (i' : S.Image)
      → refusal_of p c ≡ 0 → may_cut p c ≡ true → a ≡ refuses 10 → Invariant (cut_off w p c) s' i' → Conforms p c w a s' i'
  out_cut p c w a s' i' r m e v =
      let k : verdict p c (is_ten a) ≡ cut
      = verdict_is p c (is_ten a) 0 r ∙ ap (λ b. judge 0 (may_cut p c && is_ten b)) e ∙ ap (judge 0) (and_true (may_cut p c) ∙ m) in
      record { same = e ∙ sym (ap (λ d. answer_by d p c) k); inv = rw k v }

  refusal_later : (p : Plain) (c : Call) (n : ℕ) → first_refusal p.nand p.on p.blocks c ≡ 0 → later_refusal p c ≡ n → refusal_of p c ≡ n
  refusal_later p c n e l = ap (λ m. or_else m (later_refusal p c)) e ∙ l

  refusal_first : (p : Plain) (c : Call) (n : ℕ) → first_refusal p.nand p.on p.blocks c ≡ suc n → refusal_of p c ≡ suc n
  refusal_first p c n e = ap (λ m. or_else m (later_refusal p c)) e

  moved : (q : Plain) (s s' : S.State) (i i' : S.Image) → Same S s i s' i' → Invariant q s i → Invariant q s' i'
  moved q s s' i i' h v =
      let e = h.state in
      let f = h.image in
      rw (e, f) v

  -- ---- reads and updates, on a state that is on
  read_step : (r : ReadCall) (w : Bool) (s : S.State) (i : S.Image) (a : Answer) (s' : S.State) (i' : S.Image) → Invariant (state_of S s i) s i → S.Good s i
      → first_refusal (S.nand s) (S.on s) (S.blocks s) (reads r (S.size i)) ≡ 0 → Reads S r s i a s' i' → Conforms (state_of S s i) (reads r (S.size i)) w a s' i'
  unfolding state_of finished accepted_answer
  read_step r w s i a s' i' v good t c =
      out_passed (state_of S s i) (reads r (S.size i)) w a s' i' (refusal_later (state_of S s i) (reads r (S.size i)) 0 t refl) refl (c.done good t)
      (moved (state_of S s i) s s' i i' c.same v)

  updated_inv : (t : Table) (q : Plain) (s' : S.State) (i i' : S.Image) → Kept q i → i' ≡ i → state_of S s' i' ≡ updated t q → S.Good s' i' → Invariant (updated t q) s' i'
  unfolding updated state_of
  updated_inv t q s' i i' v m e d =
      record {
        image = record {
          is = ap (S.meaning q.nand) m ∙ v.is;
          thick = v.thick;
          room = λ b. subst (S.Room q.nand) (sym m) (v.room b);
          sized = v.sized ∙ ap (λ j. blocks_of (geometry_of q.nand) (S.size j)) (sym m);
        };
        power = ap (λ (p : Plain). p.on) e;
        live = λ h. (e, d);
      }

  update_by : (u : UpdateCall) (w : Bool) (s : S.State) (i : S.Image) (a : Answer) (s' : S.State) (i' : S.Image) (n : ℕ)
      → later_refusal (state_of S s i) (updates u (S.size i)) ≡ n → Invariant (state_of S s i) s i → S.Good s i
      → first_refusal (S.nand s) (S.on s) (S.blocks s) (updates u (S.size i)) ≡ 0 → Updates S u s i a s' i' → Conforms (state_of S s i) (updates u (S.size i)) w a s' i'
  unfolding state_of finished accepted_answer
  update_by u w s i a s' i' zero e v good t c =
      let C = updates u (S.size i) in
      let d = c.done good t e in
      out_passed (state_of S s i) C w a s' i' (refusal_later (state_of S s i) C 0 t e) refl d.0
      (updated_inv (u.step (S.blocks s) (S.present s i)) (state_of S s i) s' i i' v.image c.image d.1 d.2)
  update_by u w s i a s' i' (suc n) e v good t c =
      let C = updates u (S.size i) in
      let r = c.then good t n e in
      out_denied (state_of S s i) s i C w a s' i' n v (refusal_later (state_of S s i) C (suc n) t e) r (record { state = c.still (suc n) r; image = c.image })

  -- ---- an off store: only the image matters
  off_inv : (q : Plain) (s' : S.State) (i' : S.Image) → Kept q i' → S.on s' ≡ false → Invariant (off q) s' i'
  unfolding off
  off_inv q s' i' k o =
      record { image = record { is = k.is; thick = k.thick; room = k.room; sized = k.sized }; power = o; live = λ t. clash t refl }

  -- ---- a commit or a forecast with updates pending and a number left has a plan: there is room, or it does not answer 6 before the last number
  has_plan : (p : Plain) (s : S.State) (i : S.Image) (a : Answer) → Kept p i → 0 < S.pending s → when 6 (no_number_left (S.pending s) (S.number s)) ≡ 0
      → (S.able s i ≡ false → a ≡ refuses 6) → (S.Room p.nand i → S.able s i ≡ true) → (rooms ≡ false → a ≡ refuses 6 → S.number s ≡ last_number) → S.able s i ≡ true
  has_plan p s i a v z e stuck able y =
      cases rooms (λ r. able (v.room r))
      (λ r. cases (S.able s i) (λ b. b)
      (λ b. let w : ◌≡◌ {A = ℕ} 6 0 = (rw (lt-ltb 0 (S.pending s) z, eq-eqb (S.number s) last_number (y r (stuck b))) at e) in absurd (omega arith)))

  -- ---- forecast: nothing is changed
  forecast_by : (w : Bool) (s : S.State) (i : S.Image) (a : Answer) (ops : ℕ) (s' : S.State) (i' : S.Image) (k : ℕ) → Invariant (state_of S s i) s i → S.Good s i
      → first_refusal (S.nand s) (S.on s) (S.blocks s) (forecasts (S.size i)) ≡ 0 → Forecast S s i a ops s' i' → (rooms ≡ false → a ≡ refuses 6 → S.number s ≡ last_number)
      → numbers_refusal (S.pending s) (S.number s) (forecasts (S.size i)) ≡ k → Conforms (state_of S s i) (forecasts (S.size i)) w a s' i'
  unfolding state_of finished accepted_answer
  forecast_by w s i a ops s' i' (suc k) v good t c y e =
      let C = forecasts (S.size i) in
      out_denied (state_of S s i) s i C w a s' i' k v (refusal_later (state_of S s i) C (suc k) t (rw e)) (c.last t k e) c.same
  forecast_by w s i a ops s' i' zero v good t c y e =
      let C = forecasts (S.size i) in
      let r : a ≡ accepted
      = cases (ltb 0 (S.pending s))
      (λ z. let q : Proceeding S C s = record { passes = t; numbers = e; pending = ltb-true 0 (S.pending s) z } in
      (c.done q (has_plan (state_of S s i) s i a v.image q.pending e (c.stuck q) (c.able good q) y)).0)
      (λ z. let h = ltb-false 0 (S.pending s) z in (c.idle t (omega arith)).0) in
      out_passed (state_of S s i) C w a s' i' (refusal_later (state_of S s i) C 0 t (rw e)) refl r (moved (state_of S s i) s s' i i' c.same v)

  -- ---- commit
  module _ (n : ℕ) (torn : List ℕ) (s : S.State) (i : S.Image) (a : Answer) (ops : ℕ) (s' : S.State) (i' : S.Image) (v : Invariant (state_of S s i) s i) (good : S.Good s i)
      (t : first_refusal (S.nand s) (S.on s) (S.blocks s) (commits n (S.size i) (length torn)) ≡ 0) (c : Commit S n torn s i a ops s' i') where
    commit_idle : numbers_refusal (S.pending s) (S.number s) (commits n (S.size i) (length torn)) ≡ 0 → S.pending s ≡ 0
        → Conforms (state_of S s i) (commits n (S.size i) (length torn)) (counts S i (step_is S (commit n torn) s i a ops s' i')) a s' i'
    unfolding state_of finished accepted_answer
    commit_idle e z =
        let C = commits n (S.size i) (length torn) in
        let d = c.idle t z in
        out_passed (state_of S s i) C (counts S i (step_is S (commit n torn) s i a ops s' i')) a s' i' (refusal_later (state_of S s i) C 0 t (rw e)) (not_cut (state_of S s i) C a d.0) d.0
        (rw (le-ltb 0 (S.pending s) (omega arith)) (moved (state_of S s i) s s' i i' d.2 v))

    commit_done : Committing S n torn s i → S.able s i ≡ true → length (S.commit_ops s i) ≤ n
        → Conforms (state_of S s i) (commits n (S.size i) (length torn)) (counts S i (step_is S (commit n torn) s i a ops s' i')) a s' i'
    unfolding state_of finished accepted_answer committed
    commit_done q b l =
        let C = commits n (S.size i) (length torn) in
        let e = q.proceeds.numbers in
        let r = (c.power q.proceeds b).enough l in
        let d = c.done q b l in
        out_passed (state_of S s i) C (counts S i (step_is S (commit n torn) s i a ops s' i')) a s' i' (refusal_later (state_of S s i) C 0 t (rw e)) (not_cut (state_of S s i) C a r.0) r.0
        (rw (lt-ltb 0 (S.pending s) q.proceeds.pending)
        (record {
          image = record {
            is = c.choice q b ∙ ap (λ o. cond (o || (eqb (suc n) (length (S.commit_ops s i)) && eqb (get_or torn 0 0) 0)) (means (S.present s i) (suc (S.number s))) (S.meaning (S.nand s) i)) (le-leb (length (S.commit_ops s i)) n l);
            thick = c.thick q;
            room = λ r. c.room q b (v.image.room r);
            sized = v.image.sized ∙ ap (blocks_of (geometry_of (S.nand s))) (sym c.first.same_size);
          };
          power = ap (λ (p : Plain). p.on) d.0;
          live = λ h. (d.0, d.1);
        }))

    commit_cut : Committing S n torn s i → S.able s i ≡ true → n < length (S.commit_ops s i)
        → Conforms (state_of S s i) (commits n (S.size i) (length torn)) (counts S i (step_is S (commit n torn) s i a ops s' i')) a s' i'
    unfolding state_of cut_off committed
    commit_cut q b l =
        let C = commits n (S.size i) (length torn) in
        let e = q.proceeds.numbers in
        let r = (c.power q.proceeds b).short l in
        let few = c.few q b in
        let bound = c.bound in
        let o = c.cut q b l in
        let m : rooms ≡ true → S.Room (S.nand s) i' = λ r. c.room q b (v.image.room r) in
        let z : (state_of S s i).blocks ≡ blocks_of (geometry_of (S.nand s)) (S.size i') = v.image.sized ∙ ap (blocks_of (geometry_of (S.nand s))) (sym c.first.same_size) in
        out_cut (state_of S s i) C (counts S i (step_is S (commit n torn) s i a ops s' i')) a s' i' (refusal_later (state_of S s i) C 0 t (rw e))
        (rw (lt-ltb n (enough_writes (S.nand s)) (omega arith), lt-ltb 0 (S.pending s) q.proceeds.pending)) r.0
        (either_or (takes_effect (get_or torn 0 0) n (length (S.commit_ops s i))) (S.meaning (S.nand s) i') (means (S.present s i) (suc (S.number s))) (S.meaning (S.nand s) i) (c.choice q b) _
        (λ h. rw (counts_so S i (step_is S (commit n torn) s i a ops s' i') (tree_in (S.meaning (S.nand s) i)) (S.present s i) (S.number s) v.image.is h)
        (off_inv (committed (state_of S s i)) s' i' (record { is = h; thick = c.thick q; room = m; sized = z }) o))
        (λ h. rw (counts_not S i (step_is S (commit n torn) s i a ops s' i') h) (off_inv (state_of S s i) s' i' (record { is = h ∙ v.image.is; thick = v.image.thick; room = m; sized = z }) o)))

    commit_by : (rooms ≡ false → a ≡ refuses 6 → S.number s ≡ last_number) → (k : ℕ) → numbers_refusal (S.pending s) (S.number s) (commits n (S.size i) (length torn)) ≡ k
        → Conforms (state_of S s i) (commits n (S.size i) (length torn)) (counts S i (step_is S (commit n torn) s i a ops s' i')) a s' i'
    unfolding state_of
    commit_by y (suc k) e =
        let C = commits n (S.size i) (length torn) in
        let r = c.last t k e in
        let h = when_is 6 k (no_number_left (S.pending s) (S.number s)) e in
        out_denied (state_of S s i) s i C (counts S i (step_is S (commit n torn) s i a ops s' i')) a s' i' k v (refusal_later (state_of S s i) C (suc k) t (rw e)) r (c.quiet (suc k) r (λ z. omega arith)).1
    commit_by y zero e =
        cases (ltb 0 (S.pending s))
        (λ z. let q : Committing S n torn s i = record { good = good; proceeds = record { passes = t; numbers = e; pending = ltb-true 0 (S.pending s) z } } in
        let b = has_plan (state_of S s i) s i a v.image q.proceeds.pending e (c.stuck q.proceeds) (c.able q) y in
        cases (leb (length (S.commit_ops s i)) n) (λ l. commit_done q b (leb-true (length (S.commit_ops s i)) n l)) (λ l. commit_cut q b (leb-false (length (S.commit_ops s i)) n l)))
        (λ z. let h = ltb-false 0 (S.pending s) z in commit_idle e (omega arith))

  -- ---- mount that names the part: the state given is of no account
  module _ (n : ℕ) (torn : List ℕ) (w : Bool) (p : Plain) (s : S.State) (i : S.Image) (a : Answer) (ops : ℕ) (s' : S.State) (i' : S.Image) (v : Kept p i)
      (t : first_refusal (S.nand s) (S.on s) (S.blocks s) (mounts p.nand n (S.size i) (length torn)) ≡ 0) (c : Mount S p.nand n torn s i a ops s' i') where
    mounted_kept : Kept p i'
    mounted_kept =
        let k = c.stays t p.kept p.number v.is in
        record { is = k.0; thick = v.thick; room = λ b. k.1 (v.room b); sized = v.sized ∙ ap (blocks_of (geometry_of p.nand)) (sym c.first.same_size) }

    mount_done : length (S.mount_ops p.nand i) ≤ n → Conforms p (mounts p.nand n (S.size i) (length torn)) w a s' i'
    unfolding state_of resting finished accepted_answer
    mount_done l =
        let C = mounts p.nand n (S.size i) (length torn) in
        let r = (c.power t p.kept p.number v.is v.thick).enough l in
        let d = c.done t p.kept p.number v.is v.thick l in
        let k = mounted_kept in
        let q : state_of S s' i' ≡ mounted p.nand p = d.0 ∙ ap (resting p.nand p.kept p.number) (sym v.sized) in
        out_passed p C w a s' i' (refusal_later p C 0 t refl) (not_cut p C a r.0) r.0
        (record { image = record { is = k.is; thick = k.thick; room = k.room; sized = k.sized }; power = ap (λ (x : Plain). x.on) q; live = λ h. (q, d.1) })

    mount_cut : n < length (S.mount_ops p.nand i) → Conforms p (mounts p.nand n (S.size i) (length torn)) w a s' i'
    unfolding cut_off
    mount_cut l =
        let C = mounts p.nand n (S.size i) (length torn) in
        let r = (c.power t p.kept p.number v.is v.thick).short l in
        let few = c.few p.kept p.number v.is in
        out_cut p C w a s' i' (refusal_later p C 0 t refl) (lt-ltb n (enough_marks) (omega arith)) r.0
        (off_inv p s' i' mounted_kept (c.cut t p.kept p.number v.is v.thick l))

    mount_step : Conforms p (mounts p.nand n (S.size i) (length torn)) w a s' i'
    mount_step = cases (leb (length (S.mount_ops p.nand i)) n) (λ l. mount_done (leb-true (length (S.mount_ops p.nand i)) n l)) (λ l. mount_cut (leb-false (length (S.mount_ops p.nand i)) n l))

  -- ---- format
  formatted_start : (nand : Nand) (n : ℕ) (torn : List ℕ) (s : S.State) (i : S.Image) (a : Answer) (ops : ℕ) (s' : S.State) (i' : S.Image)
      → first_refusal (S.nand s) (S.on s) (S.blocks s) (formats nand n (S.size i) (length torn)) ≡ 0 → Format S nand n torn s i a ops s' i' → length (S.format_ops nand (blocks_of (geometry_of nand) (S.size i))) ≤ n
      → Invariant (fresh nand (blocks_of (geometry_of nand) (S.size i))) s' i'
  unfolding state_of resting
  formatted_start nand n torn s i a ops s' i' t c l =
      let d = c.done t l in
      record {
        image = record { is = d.1; thick = leaf_not_thin (blocks_of (geometry_of nand) (S.size i)); room = λ b. d.3; sized = ap (blocks_of (geometry_of nand)) (sym c.first.same_size) };
        power = ap (λ (x : Plain). x.on) d.0;
        live = λ h. (d.0, d.2);
      }

  format_step : (nand : Nand) (n : ℕ) (torn : List ℕ) (w : Bool) (p : Plain) (s : S.State) (i : S.Image) (a : Answer) (ops : ℕ) (s' : S.State) (i' : S.Image)
      → first_refusal (S.nand s) (S.on s) (S.blocks s) (formats nand n (S.size i) (length torn)) ≡ 0 → Format S nand n torn s i a ops s' i' → is_ten a ≡ false
      → Conforms p (formats nand n (S.size i) (length torn)) w a s' i'
  unfolding finished accepted_answer
  format_step nand n torn w p s i a ops s' i' t c u =
      let C = formats nand n (S.size i) (length torn) in
      cases (leb (length (S.format_ops nand (blocks_of (geometry_of nand) (S.size i)))) n)
      (λ l. let h = leb-true (length (S.format_ops nand (blocks_of (geometry_of nand) (S.size i)))) n l in
      let r = (c.power t).enough h in
      out_passed p C w a s' i' (refusal_later p C 0 t refl) (not_cut p C a r.0) r.0 (formatted_start nand n torn s i a ops s' i' t c h))
      (λ l. clash (ap is_ten ((c.power t).short (leb-false (length (S.format_ops nand (blocks_of (geometry_of nand) (S.size i)))) n l)).0) u)

  -- ---- any call on the one image that is refused with neither 1 nor 2
  on_live : (Q : Plain → Type 0) (p : Plain) (s : S.State) (i : S.Image) → Invariant p s i → S.on s ≡ true
      → (Invariant (state_of S s i) s i → S.Good s i → Q (state_of S s i)) → Q p
  on_live Q p s i v o k =
      let l = v.live (sym v.power ∙ o) in
      subst Q l.0 (k (subst (λ q. Invariant q s i) (sym l.0) v) l.1)

  step : (x : Act) (p : Plain) (s : S.State) (i : S.Image) (a : Answer) (ops : ℕ) (s' : S.State) (i' : S.Image) → Kept p i → (boots x ≡ false → Invariant p s i)
      → first_refusal (S.nand s) (S.on s) (S.blocks s) (fed x (S.size i)) ≡ 0 → Allowed S x s i a ops s' i' → cond (is_format x) (is_ten a) false ≡ false
      → names_other p.nand x && not (is_one a) ≡ false → (rooms ≡ false → SixIsLast S x s a) → Conforms p (fed x (S.size i)) (counts S i (step_is S x s i a ops s' i')) a s' i'
  step (read r) p s i a ops s' i' m v t c u k y =
      let d = counts S i (step_is S (read r) s i a ops s' i') in
      on_live (λ q. Conforms q (reads r (S.size i)) d a s' i') p s i (v refl) (on_of (S.on s) _ t) (λ w good. read_step r d s i a s' i' w good t c)
  step (update h) p s i a ops s' i' m v t c u k y =
      let d = counts S i (step_is S (update h) s i a ops s' i') in
      on_live (λ q. Conforms q (updates h (S.size i)) d a s' i') p s i (v refl) (on_of (S.on s) _ t)
      (λ w good. update_by h d s i a s' i' (later_refusal (state_of S s i) (updates h (S.size i))) refl w good t c)
  step forecast p s i a ops s' i' m v t c u k y =
      let d = counts S i (step_is S forecast s i a ops s' i') in
      on_live (λ q. Conforms q (forecasts (S.size i)) d a s' i') p s i (v refl) (on_of (S.on s) _ t)
      (λ w good. forecast_by d s i a ops s' i' (numbers_refusal (S.pending s) (S.number s) (forecasts (S.size i))) w good t c y refl)
  step (format nand n torn) p s i a ops s' i' m v t c u k y =
      format_step nand n torn (counts S i (step_is S (format nand n torn) s i a ops s' i')) p s i a ops s' i' t c u
  step (commit n torn) p s i a ops s' i' m v t c u k y =
      on_live (λ q. Conforms q (commits n (S.size i) (length torn)) (counts S i (step_is S (commit n torn) s i a ops s' i')) a s' i') p s i (v refl) (on_of (S.on s) _ t)
      (λ w good. commit_by n torn s i a ops s' i' w good t c y (numbers_refusal (S.pending s) (S.number s) (commits n (S.size i) (length torn))) refl)
  step (mount nand n torn) p s i a ops s' i' m v t c u k y =
      let d = counts S i (step_is S (mount nand n torn) s i a ops s' i') in
      subst (λ (o : Nand). first_refusal (S.nand s) (S.on s) (S.blocks s) (mounts o n (S.size i) (length torn)) ≡ 0 → Mount S o n torn s i a ops s' i'
      → Conforms p (mounts o n (S.size i) (length torn)) d a s' i') (sym (names_is nand p.nand a k (c.first.not1 t)))
      (λ h e. mount_step n torn d p s i a ops s' i' m h e) t c

  -- ---- any call of a list
  pub image_kept : (i : S.Image) (x : Step S) → Lends S i x → x.left ≡ x.lent → x.image ≡ i
  image_kept i x (one e f) h = f ∙ h ∙ e
  image_kept i x (other r f) h = f

  -- what is to show of a step
  pub record Goes (p : Plain) (H : S.State → Type 0) (i : S.Image) (x : Step S) : Type 0 where
    pub same : x.answer ≡ answer_to S p x
    pub inv : Carried (next S p i x) (Hands S H x) x.image

  -- 2 and 1 are the plain store's: the state given is at hand, or the call reads nothing of it
  first_at : (x : Act) (p : Plain) (s : S.State) (i : S.Image) (image : ℕ) → (boots x ≡ false → Invariant p s i)
      → first_refusal p.nand p.on p.blocks (fed x image) ≡ first_refusal (S.nand s) (S.on s) (S.blocks s) (fed x image)
  first_at x p s i image v =
      cases (boots x) (λ h. first_boots x image p.nand (S.nand s) p.on (S.on s) p.blocks (S.blocks s) h) (λ h. sym (first_is p s i (fed x image) (v h)))

  -- a step refused with 2 or 1 returned the state that it was given, and where that may be handed on it was at hand
  known_at : (p : Plain) (H : S.State → Type 0) (i : S.Image) (x : Step S) (n : ℕ) → Carried p H i → Takes S H i x
      → first_refusal (S.nand x.given) (S.on x.given) (S.blocks x.given) (fed x.act (S.size x.lent)) ≡ suc n → x.answer ≡ refuses (suc n)
      → (x.answer ≡ refuses 1 → H x.given) → Invariant p x.given i
  known_at p H i x n v k e r h =
      v.states x.given
      (cases (boots x.act)
      (λ b. h (r ∙ ap refuses (one_boots (S.nand x.given) x.act (S.size x.lent) (S.on x.given) (S.blocks x.given) n b e))) (λ b. k.handed b))

  go_first : (p : Plain) (H : S.State → Type 0) (i : S.Image) (x : Step S) (n : ℕ) → Carried p H i → Takes S H i x
      → first_refusal (S.nand x.given) (S.on x.given) (S.blocks x.given) (fed x.act (S.size x.lent)) ≡ suc n → Goes p H i x
  go_first p H i x n v k e =
      let c = fed x.act (S.size x.lent) in
      let r = (first_of_lem S x.act x.given x.lent x.answer x.ops x.state x.left k.allowed).refused n e in
      let m = image_kept i x k.lends r.1.image in
      let f = refusal_first p c n (first_at x.act p x.given i (S.size x.lent) (λ b. v.states x.given (k.handed b)) ∙ e) in
      let d = verdict_is p c (is_ten x.answer) (suc n) f in
      record {
        same = r.0 ∙ sym (ap (λ w. answer_by w p c) d);
        inv = subst (λ (q : Plain). Carried q (Hands S H x) x.image) (sym (ap (λ w. after_by w (counts S i x) p c) d))
            (subst (λ (j : S.Image). Carried p (Hands S H x) j) (sym m)
            (record {
              image = v.image;
              states = λ t h. subst (λ (y : S.State). Invariant p y i) (sym (h.returned ∙ r.1.state)) (known_at p H i x n v k e r.0 h.known);
            }));
      }

  go_by : (p : Plain) (H : S.State → Type 0) (i : S.Image) (x : Step S) (n : ℕ) → Carried p H i → Takes S H i x → is_cut_format S x ≡ false
      → strays S p.nand x ≡ false → (rooms ≡ false → SixIsLast S x.act x.given x.answer) → first_refusal (S.nand x.given) (S.on x.given) (S.blocks x.given) (fed x.act (S.size x.lent)) ≡ n → Lends S i x → Goes p H i x
  go_by p H i x (suc n) v k u o y e l = go_first p H i x n v k e
  go_by p H i x zero v k u o y e (one f h) =
      let r : Conforms p (fed x.act (S.size x.lent)) (counts S i x) x.answer x.state x.image
      = subst (λ j. Conforms p (fed x.act (S.size x.lent)) (counts S i (step_is S x.act x.given i x.answer x.ops x.state j)) x.answer x.state j) (sym h)
      (subst (λ j. first_refusal (S.nand x.given) (S.on x.given) (S.blocks x.given) (fed x.act (S.size j)) ≡ 0
      → Allowed S x.act x.given j x.answer x.ops x.state x.left
      → Conforms p (fed x.act (S.size j)) (counts S i (step_is S x.act x.given i x.answer x.ops x.state x.left)) x.answer x.state x.left) (sym f)
      (λ t c. step x.act p x.given i x.answer x.ops x.state x.left v.image (λ b. v.states x.given (k.handed b)) t c u o y) e k.allowed) in
      record {
        same = r.same;
        inv = record {
          image = r.inv.image;
          states = λ t h. subst (λ (y : S.State). Invariant (next S p i x) y x.image) (sym h.returned) r.inv;
        };
      }
  go_by p H i x zero v k u o y e (other r h) =
      let c = first_of_lem S x.act x.given x.lent x.answer x.ops x.state x.left k.allowed in
      absurd (⊎_elim (c.not1 e) (c.not2 e) r)

  pub one_call : (p : Plain) (H : S.State → Type 0) (i : S.Image) (x : Step S) → Carried p H i → Takes S H i x → is_cut_format S x ≡ false
      → strays S p.nand x ≡ false → (rooms ≡ false → SixIsLast S x.act x.given x.answer) → Goes p H i x
  one_call p H i x v k u o y =
      go_by p H i x (first_refusal (S.nand x.given) (S.on x.given) (S.blocks x.given) (fed x.act (S.size x.lent))) v k u o y refl k.lends

  -- ---- starts
  pub begins : (nand : Nand) (K : Table) (G : ℕ) (s : S.State) (i : S.Image) → Mounted S nand K G s i → (rooms ≡ true → S.Room nand i) → Carried (starts S nand K G i) (Only S s) i
  unfolding state_of resting
  begins nand K G s i f r =
      record {
        image = record { is = f.image; thick = f.thick; room = r; sized = refl };
        states = λ t h. subst (λ (y : S.State). Invariant (starts S nand K G i) y i) (sym h)
            (record { image = record { is = f.image; thick = f.thick; room = r; sized = refl }; power = ap (λ (x : Plain). x.on) f.is; live = λ o. (f.is, f.good) });
      }

  -- with no format cut, and each mount naming the part
  pub agrees : (xs : List (Step S)) (p : Plain) (H : S.State → Type 0) (i : S.Image) → Carried p H i → Runs S H i xs → Named S p.nand xs → Uncut S xs
      → (rooms ≡ false → Unstuck S xs) → Agrees S p i xs
  agrees [] p H i v r d u y = tt
  agrees (x ∷ xs) p H i v r d u y =
      let o = one_call p H i x v r.0 u.0 d.0 (λ f. (y f).0) in
      let e = nand_next S p i x d.0 o.same in
      (o.same, o.inv.image.is, agrees xs (next S p i x) (Hands S H x) x.image o.inv r.1 (rw e d.1) u.1 (λ f. (y f).1))

module _ (S : Store) where
  pub started : (nand : Nand) (K : Table) (G : ℕ) (s : S.State) (i : S.Image) → Started S nand K G s i → Carried S true (starts S nand K G i) (Only S s) i
  started nand K G s i f = begins S true nand K G s i f.mounted (λ b. f.room)

  format_passed : (nand : Nand) (n : ℕ) (torn : List ℕ) (s : S.State) (i : S.Image) (ops : ℕ) (s' : S.State) (i' : S.Image) (m : ℕ)
      → first_refusal (S.nand s) (S.on s) (S.blocks s) (formats nand n (S.size i) (length torn)) ≡ m → Format S nand n torn s i accepted ops s' i'
      → Started S nand (leaf (blocks_of (geometry_of nand) (S.size i'))) 1 s' i'
  format_passed nand n torn s i ops s' i' (suc m) e c = absurd (accepted_not (suc m) (c.first.refused m e).0)
  format_passed nand n torn s i ops s' i' zero e c =
      cases (leb (length (S.format_ops nand (blocks_of (geometry_of nand) (S.size i)))) n)
      (λ l. let d = c.done e (leb-true (length (S.format_ops nand (blocks_of (geometry_of nand) (S.size i)))) n l) in
      rw c.first.same_size (record { mounted = record { is = rw c.first.same_size d.0; image = d.1; thick = leaf_not_thin (blocks_of (geometry_of nand) (S.size i)); good = d.2 }; room = d.3 }))
      (λ l. absurd (accepted_not 10 ((c.power e).short (leb-false (length (S.format_ops nand (blocks_of (geometry_of nand) (S.size i)))) n l)).0))

  -- a finished format is a start
  pub format_starts : FormatStarts S
  format_starts nand s i f =
      format_passed nand f.allowance f.torn f.before f.was f.ops s i
      (first_refusal (S.nand f.before) (S.on f.before) (S.blocks f.before) (formats nand f.allowance (S.size f.was) (length f.torn))) refl f.says

  -- ---- a rebuild that is refused with nothing but 10: its image has a meaning, a number is left, and enough blocks are wholly free
  rebuild_passed : (nand : Nand) (n : ℕ) (torn : List ℕ) (s : S.State) (i : S.Image) (a : Answer) (ops : ℕ) (s' : S.State) (i' : S.Image) (K : Table) (G m : ℕ) → S.meaning nand i ≡ means K G
      → Rebuild S nand n torn s i a ops s' i' → ((k : ℕ) → (k ≡ 10 → ⊥) → a ≡ refuses k → ⊥) → start_refusal (geometry_of nand) (S.size i) (length torn) ≡ m → Rebuilding S nand torn i K G
  rebuild_passed nand n torn s i a ops s' i' K G (suc m) k c f e =
      let z = when_is 1 m (not (is_chip_size (geometry_of nand) (S.size i) && is_torn_size (geometry_of nand) (length torn))) e in
      absurd (f (suc m) (λ q. omega arith) (c.size m e).0)
  rebuild_passed nand n torn s i a ops s' i' K G zero k c f e =
      let h : G < last_number
      = cases (ltb G last_number) (λ b. ltb-true G last_number b) (λ b. absurd (f 6 (λ q. omega arith) (c.last e K G k (ltb-false G last_number b)).0)) in
      record {
        sizes = e;
        image = k;
        number = h;
        blocks = cases (S.has_free_blocks nand i) (λ b. b) (λ b. absurd (f 5 (λ q. omega arith) (c.full e K G k h b).0));
      }

  -- a finished one is a start
  pub rebuild_starts : RebuildStarts S
  rebuild_starts nand K G s i f =
      let c = f.says in
      let n = f.allowance in
      let j = f.was in
      let r = rebuild_passed nand n f.torn f.before j accepted f.ops s i K G (start_refusal (geometry_of nand) (S.size j) (length f.torn)) f.image c (λ k q. accepted_not k) refl in
      cases (leb (length (S.rebuild_ops nand j)) n)
      (λ l. let h = leb-true (length (S.rebuild_ops nand j)) n l in
      let d = c.done K G r h in
      let e = c.choice K G r ∙ ap (λ o. cond (o || (eqb (suc n) (length (S.rebuild_ops nand j)) && eqb (get_or f.torn 0 0) 0)) (means (rebuild K) (suc G)) (means K G)) (le-leb (length (S.rebuild_ops nand j)) n h) in
      record { mounted = record { is = rw c.same_size d.0; image = e; thick = d.1; good = d.2 }; room = d.3 })
      (λ l. absurd (accepted_not 10 ((c.power K G r).short (leb-false (length (S.rebuild_ops nand j)) n l)).0))

  -- a cut one leaves the old tree or the new one
  pub rebuild_cut : RebuildCut S
  rebuild_cut nand n torn K G s i ops s' i' k c =
      let r = rebuild_passed nand n torn s i (refuses 10) ops s' i' K G (start_refusal (geometry_of nand) (S.size i) (length torn)) k c (λ m q. apart 10 m (λ z. q (sym z))) refl in
      let few = c.few K G r in
      cases (leb (length (S.rebuild_ops nand i)) n)
      (λ l. absurd (accepted_not 10 (sym ((c.power K G r).enough (leb-true (length (S.rebuild_ops nand i)) n l)).0)))
      (λ l. let h = leb-false (length (S.rebuild_ops nand i)) n l in (
        omega arith,
        ((c.power K G r).short h).1,
        c.cut K G r h,
        either_or (takes_effect (get_or torn 0 0) n (length (S.rebuild_ops nand i))) (S.meaning nand i') (means (rebuild K) (suc G)) (means K G) (c.choice K G r) _ inr inl,
      ))

  -- a finished mount leaves any image that it accepts mounted; where it has room that is a start
  mount_passed : (nand : Nand) (n : ℕ) (torn : List ℕ) (s : S.State) (i : S.Image) (ops : ℕ) (s' : S.State) (i' : S.Image) (K : Table) (G m : ℕ)
      → first_refusal (S.nand s) (S.on s) (S.blocks s) (mounts nand n (S.size i) (length torn)) ≡ m → S.meaning nand i ≡ means K G → Mount S nand n torn s i accepted ops s' i'
      → Mounted S nand K G s' i' × (S.Room nand i → S.Room nand i')
  mount_passed nand n torn s i ops s' i' K G (suc m) e k c = absurd (accepted_not (suc m) (c.first.refused m e).0)
  mount_passed nand n torn s i ops s' i' K G zero e k c =
      let h : thin K ≡ false = cases (thin K) (λ b. absurd (accepted_not 12 (c.refused_thin e K G k b).0)) (λ b. b) in
      cases (leb (length (S.mount_ops nand i)) n)
      (λ l. let d = c.done e K G k h (leb-true (length (S.mount_ops nand i)) n l) in
      let y = c.stays e K G k in
      (record { is = rw c.first.same_size d.0; image = y.0; thick = h; good = d.1 }, y.1))
      (λ l. absurd (accepted_not 10 ((c.power e K G k h).short (leb-false (length (S.mount_ops nand i)) n l)).0))

  pub mount_mounts : (nand : Nand) (n : ℕ) (torn : List ℕ) (s : S.State) (i : S.Image) (ops : ℕ) (s' : S.State) (i' : S.Image) (K : Table) (G : ℕ)
      → S.meaning nand i ≡ means K G → Mount S nand n torn s i accepted ops s' i' → Mounted S nand K G s' i' × (S.Room nand i → Started S nand K G s' i')
  mount_mounts nand n torn s i ops s' i' K G k c =
      let d = mount_passed nand n torn s i ops s' i' K G (first_refusal (S.nand s) (S.on s) (S.blocks s) (mounts nand n (S.size i) (length torn))) refl k c in
      (d.0, λ r. record { mounted = d.0; room = d.1 r })

  -- ---- a finished format in a list
  cond_true : (b d : Bool) → cond b d false ≡ true → (b ≡ true) × (d ≡ true)
  cond_true true d e = (refl, e)
  cond_true false d e = clash e refl

  pub format_again : (nand : Nand) (n : ℕ) (torn : List ℕ) (i : S.Image) (x : Step S) → x.answer ≡ accepted
      → Format S nand n torn x.given x.lent accepted x.ops x.state x.left → Lends S i x → Formatted S nand x.state x.image
  format_again nand n torn i x a c (one h f) =
      subst (Formatted S nand x.state) (sym f) (record { allowance = n; torn = torn; before = x.given; was = x.lent; ops = x.ops; says = c })
  format_again nand n torn i x a c (other r f) = absurd (⊎_elim (λ h. accepted_not 1 (sym a ∙ h)) (λ h. accepted_not 2 (sym a ∙ h)) r)

  -- ---- a cut format: too small an allowance, told as the operations done; the state is off; the plain store of a list before it answers 10 too
  pub record CutFormat (nand : Nand) (n : ℕ) (torn : List ℕ) (p : Plain) (i : S.Image) (ops : ℕ) (s' : S.State) : Type 0 where
    pub few : n < enough_writes nand
    pub told : ops ≡ n
    pub off : S.on s' ≡ false
    pub same : refuses 10 ≡ answer p (formats nand n (S.size i) (length torn)) true

  cut_by : (nand : Nand) (n : ℕ) (torn : List ℕ) (p : Plain) (s : S.State) (i : S.Image) (ops : ℕ) (s' : S.State) (i' : S.Image) (m : ℕ)
      → first_refusal (S.nand s) (S.on s) (S.blocks s) (formats nand n (S.size i) (length torn)) ≡ m → Format S nand n torn s i (refuses 10) ops s' i' → CutFormat nand n torn p i ops s'
  cut_by nand n torn p s i ops s' i' (suc m) e c =
      let k = when_is 1 m (not (is_chip_size (geometry_of nand) (S.size i) && is_torn_size (geometry_of nand) (length torn))) e in
      absurd (apart 10 (suc m) (λ q. omega arith) (c.first.refused m e).0)
  cut_by nand n torn p s i ops s' i' zero e c =
      cases (leb (length (S.format_ops nand (blocks_of (geometry_of nand) (S.size i)))) n)
      (λ l. absurd (accepted_not 10 (sym ((c.power e).enough (leb-true (length (S.format_ops nand (blocks_of (geometry_of nand) (S.size i)))) n l)).0)))
      (λ l. let h = leb-false (length (S.format_ops nand (blocks_of (geometry_of nand) (S.size i)))) n l in
      let k = c.few e in
      let C = formats nand n (S.size i) (length torn) in
      let d : verdict p C true ≡ cut = verdict_is p C true 0 (rw e) ∙ ap (λ b. judge 0 (b && true)) (lt-ltb n (enough_writes nand) (omega arith)) in
      record { few = omega arith; told = ((c.power e).short h).1; off = c.cut e h; same = sym (ap (λ v. answer_by v p C) d) })

  pub cut_format : (nand : Nand) (n : ℕ) (torn : List ℕ) (p : Plain) (s : S.State) (i : S.Image) (ops : ℕ) (s' : S.State) (i' : S.Image)
      → Format S nand n torn s i (refuses 10) ops s' i' → CutFormat nand n torn p i ops s'
  cut_format nand n torn p s i ops s' i' c = cut_by nand n torn p s i ops s' i' (first_refusal (S.nand s) (S.on s) (S.blocks s) (formats nand n (S.size i) (length torn))) refl c

  cut_answer : (y : Act) (p : Plain) (x : Step S) → is_format y ≡ true → Allowed S y x.given x.lent (refuses 10) x.ops x.state x.left
      → refuses 10 ≡ answer p (fed y (S.size x.lent)) true
  cut_answer (read r) p x t c = clash t refl
  cut_answer (update u) p x t c = clash t refl
  cut_answer forecast p x t c = clash t refl
  cut_answer (format nand n torn) p x t c = (cut_format nand n torn p x.given x.lent x.ops x.state x.left c).same
  cut_answer (commit n torn) p x t c = clash t refl
  cut_answer (mount nand n torn) p x t c = clash t refl

  cut_same : (p : Plain) (H : S.State → Type 0) (i : S.Image) (x : Step S) → is_cut_format S x ≡ true → Takes S H i x → x.answer ≡ answer_to S p x
  cut_same p H i x t k =
      let b = cond_true (is_format x.act) (is_ten x.answer) t in
      let a = ten_is x.answer b.1 in
      a ∙ cut_answer x.act p x b.0 (subst (λ (y : Answer). Allowed S x.act x.given x.lent y x.ops x.state x.left) a k.allowed)
      ∙ ap (λ w. answer p (fed x.act (S.size x.lent)) w) (sym b.1)

  -- ---- any list: the plain store is carried along, or nothing is promised
  abbrev pub Held : Mode → (S.State → Type 0) → S.Image → Type 0
  Held (promised p) H i = Carried S true p H i
  Held unpromised H i = Unit {0}

  -- what is to show of a step that is held to m
  pub record Proceeds (m : Mode) (H : S.State → Type 0) (i : S.Image) (x : Step S) : Type 0 where
    pub same : AnswerIs S m x
    pub image : MeaningIs S (next_mode S m i x) x.image
    pub held : Held (next_mode S m i x) (Hands S H x) x.image

  hands_on : (p : Plain) (H : S.State → Type 0) (x : Step S) → Carried S true p (Only S x.state) x.image → Carried S true p (Hands S H x) x.image
  hands_on p H x v = record { image = v.image; states = λ t h. v.states t h.returned }

  -- an accepted call where nothing is promised: a format begins a plain store
  begun_held : (y : Act) (H : S.State → Type 0) (i : S.Image) (x : Step S) → x.answer ≡ accepted
      → Allowed S y x.given x.lent accepted x.ops x.state x.left → Lends S i x
      → MeaningIs S (begun_by y (S.size x.image)) x.image × Held (begun_by y (S.size x.image)) (Hands S H x) x.image
  begun_held (read r) H i x a c l = (tt, tt)
  begun_held (update u) H i x a c l = (tt, tt)
  begun_held forecast H i x a c l = (tt, tt)
  begun_held (format nand n torn) H i x a c l =
      let B = blocks_of (geometry_of nand) (S.size x.image) in
      let w = hands_on (fresh nand B) H x (started nand (leaf B) 1 x.state x.image (format_starts nand x.state x.image (format_again nand n torn i x a c l))) in
      (w.image.is, w)
  begun_held (commit n torn) H i x a c l = (tt, tt)
  begun_held (mount nand n torn) H i x a c l = (tt, tt)

  -- where nothing is promised; and of a plain store, where no mount strays
  proceed_free : (H : S.State → Type 0) (i : S.Image) (x : Step S) → Takes S H i x → Proceeds unpromised H i x
  proceed_free H i x k =
      cases (is_accepted x.answer)
      (λ t. let a = accepted_is x.answer t in
      let w = begun_held x.act H i x a (subst (λ (y : Answer). Allowed S x.act x.given x.lent y x.ops x.state x.left) a k.allowed) k.lends in
      record { same = tt; image = rw t w.0; held = rw t w.1 })
      (λ t. record { same = tt; image = rw t tt; held = rw t tt })

  proceed_held : (p : Plain) (H : S.State → Type 0) (i : S.Image) (x : Step S) → Carried S true p H i → strays S p.nand x ≡ false → Takes S H i x → Proceeds (promised p) H i x
  proceed_held p H i x v d k =
      cases (is_cut_format S x)
      (λ t. record { same = cut_same p H i x t k; image = rw t tt; held = rw t tt })
      (λ t. let o = one_call S true p H i x v k t d (λ b. clash refl b) in record { same = o.same; image = rw t o.inv.image.is; held = rw t o.inv })

  proceed : (m : Mode) (H : S.State → Type 0) (i : S.Image) (x : Step S) → Held m H i → Takes S H i x → Proceeds (mode_for S m x) H i x
  proceed (promised p) H i x v k = cases (strays S p.nand x) (λ t. rw t (proceed_free H i x k)) (λ t. rw t (proceed_held p H i x v t k))
  proceed unpromised H i x v k = proceed_free H i x k

  pub agrees_any : (xs : List (Step S)) (m : Mode) (H : S.State → Type 0) (i : S.Image) → Held m H i → Runs S H i xs → AgreesAny S m i xs
  agrees_any [] m H i v r = tt
  agrees_any (x ∷ xs) m H i v r =
      let o = proceed m H i x v r.0 in
      (o.same, o.image, agrees_any xs (next_mode S (mode_for S m x) i x) (Hands S H x) x.image o.held r.1)
