-- What a call of a list did, by its contract, where calls gave every state at hand that is on. Assumes nothing.
use mathlib.Core.Path.{◌≡◌, refl, sym, ap, ◌∙◌, subst}
use mathlib.Core.Logic.{⊎_elim}
use mathlib.Core.Bool.{Bool, true, false, ◌&&◌}
use mathlib.Core.List.{List, []}
use Prim.Native.Nat.{ℕ, zero, suc, ◌+◌, ◌<◌, ◌≤◌}
use native.Mathlib.Omega.{arith}
use lib.Dec.{ltb, leb}
use lib.ListN.{length, take, drop, take-append-drop}
use lib.Seq.{take_all, take-length}
use borrow.Author.Tests.{ltb-true, ltb-false, leb-true, leb-false}
use Rattle.lists.proofs.Tests.{cases, clash}
use Rattle.chip.specs.Geometry.{Nand, geometry_of, blocks_of}
use Rattle.chip.specs.Chip.{Op}
use Rattle.chip.specs.Erases.{erases_in}
use Rattle.chip.proofs.EraseLaws.{erases_append}
use Rattle.tree.specs.Thick.{thin}
use Rattle.promise.specs.Plain.{Answer, is_commit, is_cut, refuses, Plain, UpdateCall, updates, commits, mounts, first_refusal, numbers_refusal, later_refusal, no_number_left, resting, updated, committed}
use Rattle.promise.specs.Calls.{Meaning, invalid, means, Store, state_of, Same, Updates, Committing, Commit, Mount}
use Rattle.promise.specs.Steps.{Act, read, update, forecast, format, commit, mount, fed, is_ten, is_accepted, is_format, boots, strays, Step, Lends, one, other, Only, Hands, feed, Allowed, Takes}
use Rattle.promise.specs.Erases.{begins, operations_of, done_by, Unworn}
use Rattle.promise.specs.Wear.{is_finished_commit}
use Rattle.promise.proofs.Promise.{and_false, when_is, one_boots, first_most, on_of, names_is, step_is, first_of_lem, image_kept}

-- the first operations erase no more than all
pub erases_first : (b n : ℕ) (os : List Op) → erases_in b (take n os) ≤ erases_in b os
erases_first b n os = omega (arith, ap (erases_in b) (take-append-drop n os), erases_append b (take n os) (drop n os))

module _ (S : Store) where
  -- a call that is refused, but not cut, does nothing
  none_done : (x : Act) (s : S.State) (i : S.Image) (a : Answer) (ops : ℕ) (s' : S.State) (i' : S.Image) (n : ℕ) → Allowed S x s i a ops s' i'
      → a ≡ refuses n → (n ≡ 10 → ⊥) → take ops (operations_of S x s i) ≡ []
  none_done (read r) s i a ops s' i' n c e d = take_all ops [] (omega arith)
  none_done (update u) s i a ops s' i' n c e d = take_all ops [] (omega arith)
  none_done forecast s i a ops s' i' n c e d = take_all ops [] (omega arith)
  none_done (format nand l torn) s i a ops s' i' n c e d = ap (λ (k : ℕ). take k (S.format_ops nand (blocks_of (geometry_of nand) (S.size i)))) (c.quiet n e d)
  none_done (commit l torn) s i a ops s' i' n c e d = ap (λ (k : ℕ). take k (S.commit_ops s i)) (c.quiet n e d).0
  none_done (mount nand l torn) s i a ops s' i' n c e d = ap (λ (k : ℕ). take k (S.mount_ops nand i)) (c.quiet n e d)

  -- a call that its first tests pass is lent the one image
  lent_one : (i : S.Image) (x : Step S) → Lends S i x → first_refusal (S.nand x.given) (S.on x.given) (S.blocks x.given) (fed x.act (S.size x.lent)) ≡ 0
      → Allowed S x.act x.given x.lent x.answer x.ops x.state x.left → (x.lent ≡ i) × (x.image ≡ x.left)
  lent_one i x (one f h) e k = (f, h)
  lent_one i x (other r h) e k =
      let c = first_of_lem S x.act x.given x.lent x.answer x.ops x.state x.left k in
      absurd (⊎_elim (c.not1 e) (c.not2 e) r)

  -- calls gave every state at hand that is on, for the one image
  abbrev pub GoodAtHand : (S.State → Type 0) → S.Image → Type 0
  GoodAtHand H i = (t : S.State) → H t → S.on t ≡ true → S.Good t i

  pub good_first : (s : S.State) (i : S.Image) → S.Good s i → GoodAtHand (Only S s) i
  good_first s i good t e o = subst (λ (y : S.State). S.Good y i) (sym e) good

  -- t comes from a state at hand s with its figures, its part and its number
  pub record From (H : S.State → Type 0) (i : S.Image) (s t : S.State) : Type 0 where
    pub hand : H s
    pub on : S.on s ≡ true
    pub figures : (b : ℕ) → S.erases t b ≡ S.erases s b
    pub nand : S.nand t ≡ S.nand s
    pub number : S.number t ≡ S.number s
    pub good : S.Good t i

  -- no operation, and the one image as it was
  pub record Idle (H : S.State → Type 0) (i : S.Image) (x : Step S) : Type 0 where
    pub done : done_by S x ≡ []
    pub image : x.image ≡ i
    pub begins : begins S x ≡ false
    pub finished : is_finished_commit S x ≡ false
    pub states : (t : S.State) → Hands S H x t → S.on t ≡ true → From H i x.given t

  -- a commit with pending updates that finished
  pub record Worked (H : S.State → Type 0) (i : S.Image) (x : Step S) : Type 0 where
    pub hand : H x.given
    pub on : S.on x.given ≡ true
    pub done : done_by S x ≡ S.commit_ops x.given i
    pub begins : begins S x ≡ false
    pub finished : is_finished_commit S x ≡ true
    pub nand : S.nand x.state ≡ S.nand x.given
    pub number : S.number x.state ≡ suc (S.number x.given)
    pub good : S.Good x.state x.image
    pub once : (b : ℕ) → erases_in b (S.commit_ops x.given i) ≤ 1
    pub adds : (b : ℕ) → S.erases x.given b ≤ S.number x.given → S.erases x.state b ≡ S.erases x.given b + erases_in b (S.commit_ops x.given i)
    pub free : 0 < S.free (S.nand x.given) x.image
    pub rests : (b : ℕ) → 0 < erases_in b (S.commit_ops x.given i) → (t : S.State) → S.Good t x.image → S.nand t ≡ S.nand x.given → erases_in b (S.commit_ops t x.image) ≡ 0

  -- a mount or a format that its first tests pass: where it leaves the store on it finished, and a mount that does not stray from n left a state of that part
  pub record Booted (i : S.Image) (x : Step S) : Type 0 where
    pub boots : boots x.act ≡ true
    pub passes : first_refusal (S.nand x.given) (S.on x.given) (S.blocks x.given) (fed x.act (S.size x.lent)) ≡ 0
    pub lent : x.lent ≡ i
    pub left : x.image ≡ x.left
    pub finished : S.on x.state ≡ true → (begins S x ≡ true) × S.Good x.state x.image × Unworn S x.state
    pub nand : (n : Nand) → is_format x.act ≡ false → strays S n x ≡ false → S.on x.state ≡ true → S.nand x.state ≡ n

  -- a commit that was cut: of its operations the first ones, and the store is off
  pub record CutShort (H : S.State → Type 0) (i : S.Image) (x : Step S) : Type 0 where
    pub hand : H x.given
    pub on : S.on x.given ≡ true
    pub is : is_cut (feed S x) ≡ true
    pub off : S.on x.state ≡ false
    pub few : (b : ℕ) → erases_in b (done_by S x) ≤ erases_in b (S.commit_ops x.given i)
    pub once : (b : ℕ) → erases_in b (S.commit_ops x.given i) ≤ 1

  -- one of the four
  pub data Effect (H : S.State → Type 0) (i : S.Image) (x : Step S) : Type 0 where
    idle : Idle H i x → Effect H i x
    worked : Worked H i x → Effect H i x
    cut : CutShort H i x → Effect H i x
    booted : Booted i x → Effect H i x

  -- the same state, where it is at hand
  same_from : (H : S.State → Type 0) (i : S.Image) (s t : S.State) → GoodAtHand H i → t ≡ s → H s → S.on t ≡ true → From H i s t
  same_from H i s t v e h o =
      let w : S.on s ≡ true = sym (ap S.on e) ∙ o in
      record {
        hand = h;
        on = w;
        figures = λ b. ap (λ (y : S.State). S.erases y b) e;
        nand = ap S.nand e;
        number = ap S.number e;
        good = subst (λ (y : S.State). S.Good y i) (sym e) (v s h w);
      }

  -- ---- a call on the one image that its first tests pass
  module _ (H : S.State → Type 0) (s : S.State) (i : S.Image) (a : Answer) (ops : ℕ) (s' : S.State) (i' : S.Image) (v : GoodAtHand H i) where
    -- an update that leaves the store on
    update_from : (u : UpdateCall) (k : ℕ) → later_refusal (state_of S s i) (updates u (S.size i)) ≡ k → H s
        → first_refusal (S.nand s) (S.on s) (S.blocks s) (updates u (S.size i)) ≡ 0 → Updates S u s i a s' i' → S.on s' ≡ true → From H i s s'
    unfolding state_of updated
    update_from u zero e h t c o =
        let w = on_of (S.on s) _ t in
        let d = c.done (v s h w) t e in
        record { hand = h; on = w; figures = c.figures; nand = ap (λ (p : Plain). p.nand) d.1; number = ap (λ (p : Plain). p.number) d.1; good = subst (λ (j : S.Image). S.Good s' j) c.image d.2 }
    update_from u (suc k) e h t c o = same_from H i s s' v (c.still (suc k) (c.then (v s h (on_of (S.on s) _ t)) t k e)) h o

    module _ (n : ℕ) (torn : List ℕ) (h : H s) (t : first_refusal (S.nand s) (S.on s) (S.blocks s) (commits n (S.size i) (length torn)) ≡ 0) (c : Commit S n torn s i a ops s' i') where
      -- refused, or nothing pending
      commit_idle : is_accepted a && ltb 0 (S.pending s) ≡ false → (ops ≡ 0) × Same S s i s' i' → Effect H i (step_is S (commit n torn) s i a ops s' i')
      commit_idle f q =
          idle (record {
            done = ap (λ (k : ℕ). take k (S.commit_ops s i)) q.0;
            image = q.1.image;
            begins = refl;
            finished = f;
            states = λ y r o. same_from H i s y v (r.returned ∙ q.1.state) h o;
          })

      refused_idle : (k : ℕ) → a ≡ refuses k → (k ≡ 10 → ⊥) → Effect H i (step_is S (commit n torn) s i a ops s' i')
      refused_idle k e f = commit_idle (ap (λ (b : Answer). is_accepted b && ltb 0 (S.pending s)) e) (c.quiet k e f)

      -- finished
      commit_worked : Committing S n torn s i → S.able s i ≡ true → length (S.commit_ops s i) ≤ n → ltb 0 (S.pending s) ≡ true → Worked H i (step_is S (commit n torn) s i a ops s' i')
      unfolding state_of committed
      commit_worked q y l z =
          let d = c.done q y l in
          let p = (c.power q.proceeds y).enough l in
          record {
            hand = h;
            on = on_of (S.on s) _ t;
            done = ap (λ (k : ℕ). take k (S.commit_ops s i)) p.1 ∙ take-length (S.commit_ops s i);
            begins = refl;
            finished = ap (λ (b : Answer). is_accepted b && ltb 0 (S.pending s)) p.0 ∙ z;
            nand = ap (λ (p : Plain). p.nand) d.0;
            number = ap (λ (p : Plain). p.number) d.0;
            good = d.1;
            once = c.once q y;
            adds = c.adds q y l;
            free = c.leaves_free q y l;
            rests = c.rests q y l;
          }

      -- cut
      commit_cut : Committing S n torn s i → S.able s i ≡ true → n < length (S.commit_ops s i) → CutShort H i (step_is S (commit n torn) s i a ops s' i')
      commit_cut q y l =
          record {
            hand = h;
            on = on_of (S.on s) _ t;
            is = ap is_ten ((c.power q.proceeds y).short l).0;
            off = c.cut q y l;
            few = λ b. erases_first b ops (S.commit_ops s i);
            once = c.once q y;
          }

      -- any, by its number
      commit_effect : (k : ℕ) → numbers_refusal (S.pending s) (S.number s) (commits n (S.size i) (length torn)) ≡ k → Effect H i (step_is S (commit n torn) s i a ops s' i')
      commit_effect (suc k) e =
          let w = when_is 6 k (no_number_left (S.pending s) (S.number s)) e in
          refused_idle (suc k) (c.last t k e) (λ z. omega arith)
      commit_effect zero e =
          cases (ltb 0 (S.pending s))
          (λ z. let q : Committing S n torn s i = record { good = v s h (on_of (S.on s) _ t); proceeds = record { passes = t; numbers = e; pending = ltb-true 0 (S.pending s) z } } in
          cases (S.able s i)
          (λ y. cases (leb (length (S.commit_ops s i)) n)
          (λ l. worked (commit_worked q y (leb-true (length (S.commit_ops s i)) n l) z))
          (λ l. cut (commit_cut q y (leb-false (length (S.commit_ops s i)) n l))))
          (λ y. refused_idle 6 (c.stuck q.proceeds y) (λ z. omega arith)))
          (λ z. let y = ltb-false 0 (S.pending s) z in
          let d = c.idle t (omega arith) in
          commit_idle (ap (λ (b : Bool). is_accepted a && b) z ∙ and_false (is_accepted a)) (d.1, d.2))

    -- a mount, by what the image means
    mount_finished : (nand : Nand) (n : ℕ) (torn : List ℕ) (m : Meaning) → S.meaning nand i ≡ m
        → first_refusal (S.nand s) (S.on s) (S.blocks s) (mounts nand n (S.size i) (length torn)) ≡ 0 → Mount S nand n torn s i a ops s' i' → S.on s' ≡ true
        → (is_accepted a ≡ true) × S.Good s' i' × Unworn S s' × (S.nand s' ≡ nand)
    unfolding state_of resting
    mount_finished nand n torn (invalid m) d t c o = clash o (c.refused t m d).2
    mount_finished nand n torn (means K G) d t c o =
        let h : thin K ≡ false = cases (thin K) (λ b. clash o (c.refused_thin t K G d b).2) (λ b. b) in
        cases (leb (length (S.mount_ops nand i)) n)
        (λ y. let l = leb-true (length (S.mount_ops nand i)) n y in
        let r = ((c.power t K G d h).enough l).0 in
        let e = c.done t K G d h l in
        (ap is_accepted r, e.1, c.zeros r, ap (λ (p : Plain). p.nand) e.0))
        (λ y. clash o (c.cut t K G d h (leb-false (length (S.mount_ops nand i)) n y)))

    -- a look up or a forecast
    read_idle : (x : Act) → operations_of S x s i ≡ [] → boots x ≡ false → is_commit (fed x (S.size i)) ≡ false → Same S s i s' i' → H s
        → Effect H i (step_is S x s i a ops s' i')
    read_idle x e b f q h =
        idle (record {
          done = ap (take ops) e ∙ take_all ops [] (omega arith);
          image = q.image;
          begins = rw b;
          finished = rw f;
          states = λ y r o. same_from H i s y v (r.returned ∙ q.state) h o;
        })

    -- any call
    effect_by : (x : Act) → first_refusal (S.nand s) (S.on s) (S.blocks s) (fed x (S.size i)) ≡ 0 → Allowed S x s i a ops s' i' → (boots x ≡ false → H s)
        → Effect H i (step_is S x s i a ops s' i')
    effect_by (read r) t c h = read_idle (read r) refl refl refl c.same (h refl)
    effect_by (update u) t c h =
        idle (record {
          done = take_all ops [] (omega arith);
          image = c.image;
          begins = refl;
          finished = refl;
          states = λ y r o.
              let f = update_from u (later_refusal (state_of S s i) (updates u (S.size i))) refl (h refl) t c (sym (ap S.on r.returned) ∙ o) in
              subst (λ (z : S.State). From H i s z) (sym r.returned) f;
        })
    effect_by forecast t c h = read_idle forecast refl refl refl c.same (h refl)
    effect_by (format nand n torn) t c h =
        let os = S.format_ops nand (blocks_of (geometry_of nand) (S.size i)) in
        booted (record {
          boots = refl;
          passes = t;
          lent = refl;
          left = refl;
          finished = λ o. cases (leb (length os) n)
              (λ y. let l = leb-true (length os) n y in
              let r = ((c.power t).enough l).0 in
              (ap is_accepted r, (c.done t l).2, c.zeros r))
              (λ y. clash o (c.cut t (leb-false (length os) n y)));
          nand = λ m f. clash refl f;
        })
    effect_by (commit n torn) t c h = commit_effect n torn (h refl) t c (numbers_refusal (S.pending s) (S.number s) (commits n (S.size i) (length torn))) refl
    effect_by (mount nand n torn) t c h =
        let q = mount_finished nand n torn (S.meaning nand i) refl t c in
        booted (record {
          boots = refl;
          passes = t;
          lent = refl;
          left = refl;
          finished = λ o. let r = q o in (r.0, r.1, r.2);
          nand = λ m f k o. (q o).3 ∙ names_is nand m a k (c.first.not1 t);
        })

  -- ---- any step, by its first tests: a call that they refuse changes nothing
  effect_first : (H : S.State → Type 0) (i : S.Image) (x : Step S) (m : ℕ) → first_refusal (S.nand x.given) (S.on x.given) (S.blocks x.given) (fed x.act (S.size x.lent)) ≡ m
      → GoodAtHand H i → Takes S H i x → Effect H i x
  effect_first H i x (suc m) e v k =
      let r = (first_of_lem S x.act x.given x.lent x.answer x.ops x.state x.left k.allowed).refused m e in
      let lim = first_most (S.nand x.given) x.act (S.size x.lent) (S.on x.given) (S.blocks x.given) in
      idle (record {
        done = none_done x.act x.given x.lent x.answer x.ops x.state x.left (suc m) k.allowed r.0 (λ z. omega arith);
        image = image_kept S true i x k.lends r.1.image;
        begins = ap (λ (a : Answer). boots x.act && is_accepted a) r.0 ∙ and_false (boots x.act);
        finished = ap (λ (a : Answer). is_commit (fed x.act (S.size x.lent)) && (is_accepted a && ltb 0 (S.pending x.given))) r.0 ∙ and_false (is_commit (fed x.act (S.size x.lent)));
        states = λ t y o. same_from H i x.given t v (y.returned ∙ r.1.state)
            (cases (boots x.act)
            (λ z. y.known (r.0 ∙ ap refuses (one_boots (S.nand x.given) x.act (S.size x.lent) (S.on x.given) (S.blocks x.given) m z e))) (λ z. k.handed z)) o;
      })
  effect_first H i x zero e v k =
      let l = lent_one i x k.lends e k.allowed in
      subst (λ (j : S.Image). Effect H j x) l.0
      (subst (λ (j : S.Image). Effect H x.lent (record { act = x.act; given = x.given; lent = x.lent; left = x.left; answer = x.answer; ops = x.ops; state = x.state; image = j }))
      (sym l.1)
      (effect_by H x.given x.lent x.answer x.ops x.state x.left (subst (λ (j : S.Image). GoodAtHand H j) (sym l.0) v) x.act e k.allowed k.handed))

  pub effect : (H : S.State → Type 0) (i : S.Image) (x : Step S) → GoodAtHand H i → Takes S H i x → Effect H i x
  effect H i x v k = effect_first H i x (first_refusal (S.nand x.given) (S.on x.given) (S.blocks x.given) (fed x.act (S.size x.lent))) refl v k

  -- and then calls gave every state at hand that is on
  pub good_next : (H : S.State → Type 0) (i : S.Image) (x : Step S) → Effect H i x → GoodAtHand (Hands S H x) x.image
  good_next H i x (idle e) t y o = subst (λ (j : S.Image). S.Good t j) (sym e.image) (e.states t y o).good
  good_next H i x (worked e) t y o = subst (λ (z : S.State). S.Good z x.image) (sym y.returned) e.good
  good_next H i x (cut e) t y o = clash (sym (ap S.on y.returned) ∙ o) e.off
  good_next H i x (booted e) t y o = subst (λ (z : S.State). S.Good z x.image) (sym y.returned) (e.finished (sym (ap S.on y.returned) ∙ o)).1

  -- ---- the states at hand that are on have the part n; so after a step that does not stray, where no format passes its first tests
  abbrev pub OfPart : Nand → (S.State → Type 0) → Type 0
  OfPart n H = (t : S.State) → H t → S.on t ≡ true → S.nand t ≡ n

  pub part_next : (n : Nand) (H : S.State → Type 0) (i : S.Image) (x : Step S) → Effect H i x → OfPart n H → strays S n x ≡ false
      → (Booted i x → is_format x.act ≡ false) → OfPart n (Hands S H x)
  part_next n H i x (idle e) p k f t y o = let q = e.states t y o in q.nand ∙ p x.given q.hand q.on
  part_next n H i x (worked e) p k f t y o = ap S.nand y.returned ∙ e.nand ∙ p x.given e.hand e.on
  part_next n H i x (cut e) p k f t y o = clash (sym (ap S.on y.returned) ∙ o) e.off
  part_next n H i x (booted e) p k f t y o = ap S.nand y.returned ∙ e.nand n (f e) k (sym (ap S.on y.returned) ∙ o)
