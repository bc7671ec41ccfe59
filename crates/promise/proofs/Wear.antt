-- Where the mounts name one part, no call is cut and no format finishes: no block is erased by two finished commits in a row, and a commit that erases one leaves a page free. Assumes nothing.
use mathlib.Core.Path.{◌≡◌, refl, sym, ap, ◌∙◌, subst}
use mathlib.Core.Bool.{Bool, true, false, cond, not, ◌&&◌}
use mathlib.Core.List.{List, [], ◌∷◌, ◌++◌}
use Prim.Native.Nat.{ℕ, suc, ◌+◌, ◌*◌, ◌<◌, ◌≤◌}
use native.Mathlib.Omega.{arith}
use lib.Dec.{leb, ltb}
use lib.ListN.{length, take}
use lib.Seq.{take_all}
use borrow.Author.Tests.{leb-true, leb-false, ltb-true, ltb-false}
use Rattle.lists.specs.Lists.{bit}
use Rattle.lists.proofs.Tests.{and_right, cases, clash}
use Rattle.chip.specs.Geometry.{Nand, geometry_of, blocks_of}
use Rattle.chip.specs.Chip.{Op}
use Rattle.chip.specs.Erases.{erases_in}
use Rattle.promise.specs.Plain.{Answer, Plain, resting, is_commit, is_cut, cuts, first_refusal}
use Rattle.promise.specs.Calls.{Store, state_of}
use Rattle.promise.specs.Steps.{Act, read, update, forecast, format, commit, mount, fed, is_one, is_ten, is_accepted, is_format, formatted_as, names_other, boots, Step, strays, Named, Only, Hands, last_hands, last_image, feed, feeds, is_cut_format, is_finished_format, Uncut, NoFormat, Allowed, Takes, Runs}
use Rattle.promise.specs.Erases.{operations_of, done_by, whole_erases}
use Rattle.promise.specs.Wear.{is_finished_commit, finished_commits, NoneCut, Unbroken, RebuiltUnbroken, Erased, OnceEach, ErasesPay, ErasesFew, LeavesFree}
use Rattle.promise.proofs.Promise.{cond_same, names_is, rebuild_starts}
use Rattle.promise.proofs.Effects.{OfPart, part_next, GoodAtHand, Worked, Booted, Effect, idle, worked, cut, booted, effect, good_first, good_next, erases_first}

module _ (S : Store) where
  -- a boot that is no format finished or cut is a mount: it erases nothing, and one that does not stray from n does nothing to an image that calls gave
  -- a state of that part for
  boot_mounts : (x : Act) (s : S.State) (i : S.Image) (a : Answer) (ops : ℕ) (s' : S.State) (i' : S.Image) → boots x ≡ true
      → first_refusal (S.nand s) (S.on s) (S.blocks s) (fed x (S.size i)) ≡ 0 → Allowed S x s i a ops s' i' → cond (is_format x) (is_ten a) false ≡ false
      → cond (is_format x) (is_accepted a) false ≡ false
      → (is_commit (fed x (S.size i)) ≡ false) × (is_format x ≡ false) × ((b : ℕ) → erases_in b (take ops (operations_of S x s i)) ≡ 0)
      × ((n : Nand) → names_other n x && not (is_one a) ≡ false → (t : S.State) → S.Good t i → S.nand t ≡ n → (take ops (operations_of S x s i) ≡ []) × (i' ≡ i))
  boot_mounts (read r) s i a ops s' i' e p c u f = clash e refl
  boot_mounts (update d) s i a ops s' i' e p c u f = clash e refl
  boot_mounts forecast s i a ops s' i' e p c u f = clash e refl
  boot_mounts (format nand n torn) s i a ops s' i' e p c u f =
      let os = S.format_ops nand (blocks_of (geometry_of nand) (S.size i)) in
      cases (leb (length os) n)
      (λ y. clash (ap is_accepted ((c.power p).enough (leb-true (length os) n y)).0) f) (λ y. clash (ap is_ten ((c.power p).short (leb-false (length os) n y)).0) u)
  boot_mounts (commit n torn) s i a ops s' i' e p c u f = clash e refl
  boot_mounts (mount nand n torn) s i a ops s' i' e p c u f = (
    refl,
    refl,
    λ b. let k = erases_first b ops (S.mount_ops nand i) in let z = c.no_erase b in omega arith,
    λ m d t good o.
        let k = c.still t good (o ∙ sym (names_is nand m a d (c.first.not1 p))) in
        (ap (λ (l : List Op). take ops l) k.0 ∙ take_all ops [] (omega arith), k.1),
  )

  -- the same of a step
  record MountsOnly (i : S.Image) (x : Step S) : Type 0 where
    finished : is_finished_commit S x ≡ false
    format : is_format x.act ≡ false
    none : (b : ℕ) → erases_in b (done_by S x) ≡ 0
    still : (n : Nand) → strays S n x ≡ false → (t : S.State) → S.Good t i → S.nand t ≡ n → (done_by S x ≡ []) × (x.image ≡ i)

  mounts_only : (H : S.State → Type 0) (i : S.Image) (x : Step S) → Takes S H i x → is_cut_format S x ≡ false → is_finished_format S x ≡ false → Booted S i x → MountsOnly i x
  mounts_only H i x k u f e =
      let q = boot_mounts x.act x.given x.lent x.answer x.ops x.state x.left e.boots e.passes k.allowed u f in
      let c = q.0 in
      record {
        finished = rw c;
        format = q.1;
        none = q.2;
        still = λ n d t good o. let w = q.3 n d t (subst (λ (j : S.Image). S.Good t j) (sym e.lent) good) o in (w.0, e.left ∙ w.1 ∙ e.lent);
      }

  -- no call of a list is cut: so no format is
  whole_format : (x : Step S) → is_ten x.answer ≡ false → is_cut_format S x ≡ false
  whole_format x u = cases (is_format x.act) (λ t. rw t u) (λ t. rw t)

-- no format is finished: the part stays
same_part : (n : Nand) (x : Act) (a : Answer) → cond (is_format x) (is_accepted a) false ≡ false → cond (is_accepted a) (formatted_as n x) n ≡ n
same_part n (read r) a f = cond_same (is_accepted a) n
same_part n (update u) a f = cond_same (is_accepted a) n
same_part n forecast a f = cond_same (is_accepted a) n
same_part n (format nand k torn) a f = rw f
same_part n (commit k torn) a f = cond_same (is_accepted a) n
same_part n (mount nand k torn) a f = cond_same (is_accepted a) n

-- the mounts name the part n
module _ (S : Store) (n : Nand) where
  -- the mounts of the rest of a list name it too
  named_next : (x : Step S) (xs : List (Step S)) → is_finished_format S x ≡ false → Named S n (x ∷ xs) → Named S n xs
  named_next x xs f d = subst (λ (m : Nand). Named S m xs) (same_part n x.act x.answer f) d.1

  parts_next : (H : S.State → Type 0) (i : S.Image) (x : Step S) → Takes S H i x → OfPart S n H → is_cut_format S x ≡ false → is_finished_format S x ≡ false → strays S n x ≡ false
      → Effect S H i x → OfPart S n (Hands S H x)
  parts_next H i x k p u f d e = part_next S n H i x e p d (λ q. (mounts_only S H i x k u f q).format)

  -- a step of such a list does nothing and leaves the one image as it was, or it is a commit with pending updates that finished
  data IdleOrWorked (H : S.State → Type 0) (i : S.Image) (x : Step S) : Type 0 where
    nothing : done_by S x ≡ [] → x.image ≡ i → is_finished_commit S x ≡ false → IdleOrWorked H i x
    work : S.Good x.given i → S.nand x.given ≡ n → Worked S H i x → IdleOrWorked H i x

  -- any step, by its effect
  did_by : (H : S.State → Type 0) (i : S.Image) (x : Step S) → Takes S H i x → GoodAtHand S H i → OfPart S n H → strays S n x ≡ false → is_ten x.answer ≡ false
      → is_finished_format S x ≡ false → (t : S.State) → S.Good t i → S.nand t ≡ n → Effect S H i x → IdleOrWorked H i x
  did_by H i x k v p d u f t good own (idle e) = nothing e.done e.image e.finished
  did_by H i x k v p d u f t good own (worked e) = work (v x.given e.hand e.on) (p x.given e.hand e.on) e
  did_by H i x k v p d u f t good own (cut e) = clash (and_right (is_commit (fed x.act (S.size x.lent))) (is_ten x.answer) e.is) u
  did_by H i x k v p d u f t good own (booted e) =
      let m = mounts_only S H i x k (whole_format S x u) f e in
      let q = m.still n d t good own in
      nothing q.0 q.1 m.finished

  -- ---- a place of the list, with what follows: calls gave some state of the part for the one image, and every state at hand that is on
  record Place (H : S.State → Type 0) (i : S.Image) (xs : List (Step S)) : Type 0 where
    hands : GoodAtHand S H i
    parts : OfPart S n H
    known : S.State
    good : S.Good known i
    own : S.nand known ≡ n
    runs : Runs S H i xs
    named : Named S n xs
    uncut : NoneCut S xs
    unformatted : NoFormat S xs

  did_at : (H : S.State → Type 0) (i : S.Image) (x : Step S) (xs : List (Step S)) → Place H i (x ∷ xs) → IdleOrWorked H i x
  did_at H i x xs a =
      did_by H i x a.runs.0 a.hands a.parts a.named.0 a.uncut.0 a.unformatted.0 a.known a.good a.own (effect S H i x a.hands a.runs.0)

  -- the next place
  at_by : (H : S.State → Type 0) (i : S.Image) (x : Step S) (xs : List (Step S)) → Place H i (x ∷ xs) → (t : S.State) → S.Good t x.image → S.nand t ≡ n
      → Place (Hands S H x) x.image xs
  at_by H i x xs a t good own =
      let e = effect S H i x a.hands a.runs.0 in
      record {
        hands = good_next S H i x e;
        parts = parts_next H i x a.runs.0 a.parts (whole_format S x a.uncut.0) a.unformatted.0 a.named.0 e;
        known = t;
        good = good;
        own = own;
        runs = a.runs.1;
        named = named_next x xs a.unformatted.0 a.named;
        uncut = a.uncut.1;
        unformatted = a.unformatted.1;
      }

  at_did : (H : S.State → Type 0) (i : S.Image) (x : Step S) (xs : List (Step S)) → Place H i (x ∷ xs) → IdleOrWorked H i x → Place (Hands S H x) x.image xs
  at_did H i x xs a (nothing d e f) = at_by H i x xs a a.known (subst (λ (j : S.Image). S.Good a.known j) (sym e) a.good) a.own
  at_did H i x xs a (work q o w) = at_by H i x xs a x.state w.good (w.nand ∙ o)

  at_next : (H : S.State → Type 0) (i : S.Image) (x : Step S) (xs : List (Step S)) → Place H i (x ∷ xs) → Place (Hands S H x) x.image xs
  at_next H i x xs a = at_did H i x xs a (did_at H i x xs a)

  -- any place
  along : (xs ys : List (Step S)) (H : S.State → Type 0) (i : S.Image) → Place H i (xs ++ ys) → Place (last_hands S H xs) (last_image S i xs) ys
  along [] ys H i a = a
  along (x ∷ xs) ys H i a = along xs ys (Hands S H x) x.image (at_next H i x (xs ++ ys) a)

  -- ---- one step
  once_by : (H : S.State → Type 0) (i : S.Image) (x : Step S) (b : ℕ) → IdleOrWorked H i x → erases_in b (done_by S x) ≤ 1
  once_by H i x b (nothing d e f) = let z = ap (erases_in b) d in omega arith
  once_by H i x b (work q o w) =
      let z = ap (erases_in b) w.done in
      let y = w.once b in
      omega arith

  -- one that erased a block is a finished commit on a state of the part
  worked_by : (H : S.State → Type 0) (i : S.Image) (x : Step S) (b : ℕ) → Erased S b x → IdleOrWorked H i x → (S.nand x.given ≡ n) × Worked S H i x
  worked_by H i x b h (nothing d e f) = let z = ap (erases_in b) d in absurd (omega arith)
  worked_by H i x b h (work q o w) = (o, w)

  -- ---- a block rests on an image: no commit of a state of the part that calls gave for it erases the block
  abbrev Rests : ℕ → S.Image → Type 0
  Rests b i = (t : S.State) → S.Good t i → S.nand t ≡ n → erases_in b (S.commit_ops t i) ≡ 0

  rests_after : (H : S.State → Type 0) (i : S.Image) (x : Step S) (b : ℕ) → Erased S b x → S.nand x.given ≡ n → Worked S H i x → Rests b x.image
  rests_after H i x b h o w t good own = w.rests b (subst (λ (l : List Op). 0 < erases_in b l) w.done h) t good (own ∙ sym o)

  -- then a step does not erase it; it is erased only after another finished commit
  none_by : (H : S.State → Type 0) (i : S.Image) (x : Step S) (b : ℕ) → Rests b i → IdleOrWorked H i x → erases_in b (done_by S x) ≡ 0
  none_by H i x b r (nothing d e f) = ap (erases_in b) d
  none_by H i x b r (work q o w) = ap (erases_in b) w.done ∙ r x.given q o

  pay_next : (H : S.State → Type 0) (i : S.Image) (x : Step S) (ys : List (Step S)) (b : ℕ) → IdleOrWorked H i x → (Rests b x.image → 0 < finished_commits S ys)
      → Rests b i → 0 < finished_commits S (x ∷ ys)
  pay_next H i x ys b (nothing d e f) h r = let k = h (subst (Rests b) (sym e) r) in omega arith
  pay_next H i x ys b (work q o w) h r = let k = ap bit w.finished in omega arith

  pay_by : (ys zs : List (Step S)) (y : Step S) (H : S.State → Type 0) (i : S.Image) (b : ℕ) → Place H i (ys ++ (y ∷ zs)) → Erased S b y → Rests b i → 0 < finished_commits S ys
  pay_by [] zs y H i b a h r = let k = none_by H i y b r (did_at H i y zs a) in absurd (omega arith)
  pay_by (x ∷ ys) zs y H i b a h r =
      pay_next H i x ys b (did_at H i x (ys ++ (y ∷ zs)) a) (pay_by ys zs y (Hands S H x) x.image b (at_next H i x (ys ++ (y ∷ zs)) a) h) r

  -- ---- the erases of a block in a list, calls cut or not; one fewer where it rests on an image that calls gave a state of the part for
  abbrev Few : ℕ → S.Image → List (Step S) → Type 0
  Few b i xs =
      (2 * whole_erases S b xs ≤ suc (finished_commits S xs + 2 * cuts (feeds S xs)))
      × ((t : S.State) → S.Good t i → S.nand t ≡ n → Rests b i → 2 * whole_erases S b xs ≤ finished_commits S xs + 2 * cuts (feeds S xs))

  -- a step more has no fewer cuts
  cuts_more : (c : Bool) (k : ℕ) → k ≤ cond c (suc k) k
  cuts_more true k = omega arith
  cuts_more false k = omega arith

  -- a step that erases nothing and leaves the image, or erases nothing where no state is known
  few_idle : (i : S.Image) (x : Step S) (xs : List (Step S)) (b : ℕ) → erases_in b (done_by S x) ≡ 0 → ((t : S.State) → S.Good t i → S.nand t ≡ n → x.image ≡ i)
      → Few b x.image xs → Few b i (x ∷ xs)
  few_idle i x xs b z e h =
      let l = h.0 in
      let m = cuts_more (is_cut (feed S x)) (cuts (feeds S xs)) in (
        omega arith,
        λ t good own r. let j = sym (e t good own) in let k = h.1 t (subst (λ (y : S.Image). S.Good t y) j good) own (subst (Rests b) j r) in omega arith,
      )

  few_next : (H : S.State → Type 0) (i : S.Image) (x : Step S) (xs : List (Step S)) (b : ℕ) → Takes S H i x → GoodAtHand S H i → OfPart S n H → strays S n x ≡ false
      → is_cut_format S x ≡ false → is_finished_format S x ≡ false → Effect S H i x → Few b x.image xs → Few b i (x ∷ xs)
  few_next H i x xs b k v p d u f (idle e) h = few_idle i x xs b (ap (erases_in b) e.done) (λ t good own. e.image) h
  few_next H i x xs b k v p d u f (worked e) h =
      let bits = ap bit e.finished in
      let z = ap (erases_in b) e.done in
      let one = e.once b in
      let l = h.0 in
      let o = p x.given e.hand e.on in
      let m = cuts_more (is_cut (feed S x)) (cuts (feeds S xs)) in (
        cases (ltb 0 (erases_in b (done_by S x)))
            (λ t. let q = h.1 x.state e.good (e.nand ∙ o) (rests_after H i x b (ltb-true 0 (erases_in b (done_by S x)) t) o e) in omega arith)
            (λ t. let q = ltb-false 0 (erases_in b (done_by S x)) t in omega arith),
        λ t good own r. let q = r x.given (v x.given e.hand e.on) o in omega arith,
      )
  few_next H i x xs b k v p d u f (cut e) h =
      let more : cuts (feeds S (x ∷ xs)) ≡ suc (cuts (feeds S xs)) = ap (λ (c : Bool). cond c (suc (cuts (feeds S xs))) (cuts (feeds S xs))) e.is in
      let few = e.few b in
      let one = e.once b in
      let l = h.0 in
      (omega arith, λ t good own r. let q = r x.given (v x.given e.hand e.on) (p x.given e.hand e.on) in omega arith)
  few_next H i x xs b k v p d u f (booted e) h =
      let m = mounts_only S H i x k u f e in
      few_idle i x xs b (m.none b) (λ t good own. (m.still n d t good own).1) h

  few_by : (xs : List (Step S)) (H : S.State → Type 0) (i : S.Image) (b : ℕ) → GoodAtHand S H i → OfPart S n H → Runs S H i xs → Named S n xs → Uncut S xs → NoFormat S xs → Few b i xs
  few_by [] H i b v p r d u f = (omega arith, λ t good own r. omega arith)
  few_by (x ∷ xs) H i b v p r d u f =
      let e = effect S H i x v r.0 in
      few_next H i x xs b r.0 v p d.0 u.0 f.0 e
      (few_by xs (Hands S H x) x.image b (good_next S H i x e) (parts_next H i x r.0 p u.0 f.0 d.0 e) r.1 (named_next x xs f.0 d) u.1 f.1)

-- ---- the statements
module _ (S : Store) where
  pub rebuilt_unbroken : RebuiltUnbroken S
  unfolding state_of resting
  rebuilt_unbroken nand K G s i xs f r d u n =
      let m = (rebuild_starts S nand K G s i f).mounted in
      let own : S.nand s ≡ nand = ap (λ (p : Plain). p.nand) m.is in
      record { good = m.good; runs = r; named = subst (λ (k : Nand). Named S k xs) (sym own) d; uncut = u; unformatted = n }

  at_place : (s : S.State) (i : S.Image) (xs ys : List (Step S)) → Unbroken S s i (xs ++ ys) → Place S (S.nand s) (last_hands S (Only S s) xs) (last_image S i xs) ys
  at_place s i xs ys q =
      along S (S.nand s) xs ys (Only S s) i
      (record {
        hands = good_first S s i q.good;
        parts = λ t e o. ap S.nand e;
        known = s;
        good = q.good;
        own = refl;
        runs = q.runs;
        named = q.named;
        uncut = q.uncut;
        unformatted = q.unformatted;
      })

  did_place : (s : S.State) (i : S.Image) (xs ys : List (Step S)) (x : Step S) → Unbroken S s i (xs ++ (x ∷ ys))
      → IdleOrWorked S (S.nand s) (last_hands S (Only S s) xs) (last_image S i xs) x
  did_place s i xs ys x q = did_at S (S.nand s) (last_hands S (Only S s) xs) (last_image S i xs) x ys (at_place s i xs (x ∷ ys) q)

  pub once_each : OnceEach S
  once_each s i xs ys x q b = once_by S (S.nand s) (last_hands S (Only S s) xs) (last_image S i xs) x b (did_place s i xs ys x q)

  pub leaves_free_lem : LeavesFree S
  leaves_free_lem s i xs ys x q b h =
      let w = worked_by S (S.nand s) (last_hands S (Only S s) xs) (last_image S i xs) x b h (did_place s i xs ys x q) in
      (w.1.finished, subst (λ (m : Nand). 0 < S.free m x.image) w.0 w.1.free)

  pub erases_pay : ErasesPay S
  erases_pay s i xs ys zs x y q b h k =
      let n = S.nand s in
      let H = last_hands S (Only S s) xs in
      let j = last_image S i xs in
      let a = at_place s i xs (x ∷ (ys ++ (y ∷ zs))) q in
      let w = worked_by S n H j x b h (did_at S n H j x (ys ++ (y ∷ zs)) a) in
      let m = pay_by S n ys zs y (Hands S H x) x.image b (at_next S n H j x (ys ++ (y ∷ zs)) a) k (rests_after S n H j x b h w.0 w.1) in
      let bits = ap bit w.1.finished in
      omega arith

  pub erases_few : ErasesFew S
  erases_few s i xs good r d u f b = (few_by S (S.nand s) xs (Only S s) i b (good_first S s i good) (λ t e o. ap S.nand e) r d u f).0
