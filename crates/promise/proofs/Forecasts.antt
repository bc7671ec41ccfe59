-- A forecast tells what a commit on the same state and image does, in any list; and a call that changes nothing may be left out. Assumes nothing.
use mathlib.Core.Path.{◌≡◌, refl, sym, ap, ◌∙◌, subst}
use mathlib.Core.Logic.{⊎_elim}
use mathlib.Core.Bool.{Bool, true, false, not, ◌&&◌}
use mathlib.Core.List.{List, [], ◌∷◌, ◌++◌}
use Prim.Native.Nat.{ℕ, zero, suc}
use native.Mathlib.Omega.{arith}
use lib.Dec.{ltb}
use lib.ListN.{length}
use borrow.Author.Tests.{eq-eqb, ltb-true, ltb-false}
use Rattle.lists.proofs.Tests.{cases, clash}
use Rattle.chip.specs.Geometry.{Nand, geometry_of, page_size}
use Rattle.promise.specs.Plain.{Answer, refuses, accepted, Call, forecasts, commits, or_else, when, has_blocks, is_chip_size, is_torn_size, first_refusal, numbers_refusal, no_number_left}
use Rattle.promise.specs.Calls.{Store, OpsTold, Same, FirstTests, Proceeding, Commit, Forecast}
use Rattle.promise.specs.Steps.{Act, read, update, forecast, format, commit, mount, boots, Step, Lends, one, other, Hands, last_hands, last_image, Allowed, Runs}
use Rattle.promise.specs.Forecasts.{Foresees, is_read, Still, AllStill, ForecastNow, ForecastHolds, ReadStill, RefusedStill, StillOut}
use Rattle.promise.proofs.Promise.{accepted_not, when_is, first_most, image_kept}
use Rattle.promise.proofs.Lists.{runs_split, wider_runs}

-- ---- with a torn slice of the right length a commit passes the first tests where a forecast does
pub first_torn : (own : Nand) (on : Bool) (B n image torn : ℕ) → torn ≡ page_size (geometry_of own) → first_refusal own on B (commits n image torn) ≡ first_refusal own on B (forecasts image)
unfolding is_torn_size
first_torn own on B n image torn e = rw (eq-eqb torn (page_size (geometry_of own)) e)

module _ (S : Store) (n image torn : ℕ) (s : S.State) (e : torn ≡ page_size (geometry_of (S.nand s))) where
  -- so the commit has something to do where the forecast has
  pub commit_proceeds : Proceeding S (forecasts image) s → Proceeding S (commits n image torn) s
  commit_proceeds q = record { passes = first_torn (S.nand s) (S.on s) (S.blocks s) n image torn e ∙ q.passes; numbers = q.numbers; pending = q.pending }

-- ---- both are refused with one number; or the forecast is accepted, and what it foretold is what the commit has to do
both_refused : (f a : Answer) (foretold n ops j : ℕ) → f ≡ refuses j → a ≡ refuses j → ops ≡ 0 → Foresees f foretold n a ops
both_refused f a foretold n ops j e h o =
    record {
      enough = λ y l. absurd (accepted_not j (sym y ∙ e));
      short = λ y l. absurd (accepted_not j (sym y ∙ e));
      refused = λ k y. (h ∙ sym e ∙ y, o);
    }

has_to_do : (f a : Answer) (foretold need n ops : ℕ) → f ≡ accepted → foretold ≡ need → OpsTold need n a ops → Foresees f foretold n a ops
has_to_do f a foretold need n ops e h p =
    rw h (record { enough = λ y. p.enough; short = λ y. p.short; refused = λ k y. absurd (accepted_not k (sym e ∙ y)) })

module _ (S : Store) (s : S.State) (i : S.Image) (f : Answer) (foretold : ℕ) (t : S.State) (j : S.Image) (F : Forecast S s i f foretold t j)
    (n : ℕ) (torn : List ℕ) (sized : length torn ≡ page_size (geometry_of (S.nand s))) (a : Answer) (ops : ℕ) (s' : S.State) (i' : S.Image) (c : Commit S n torn s i a ops s' i') where
  -- by the first tests, then the last number, then what is pending
  foresees : (m k : ℕ) → first_refusal (S.nand s) (S.on s) (S.blocks s) (forecasts (S.size i)) ≡ m
      → numbers_refusal (S.pending s) (S.number s) (forecasts (S.size i)) ≡ k → Foresees f foretold n a ops
  foresees (suc m) k e l =
      let lim = first_most (S.nand s) forecast (S.size i) (S.on s) (S.blocks s) in
      let r = (c.first.refused m (first_torn (S.nand s) (S.on s) (S.blocks s) n (S.size i) (length torn) sized ∙ e)).0 in
      both_refused f a foretold n ops (suc m) (F.first.refused m e).0 r (c.quiet (suc m) r (λ z. omega arith)).0
  foresees zero (suc k) e l =
      let six = when_is 6 k (no_number_left (S.pending s) (S.number s)) l in
      let r = c.last (first_torn (S.nand s) (S.on s) (S.blocks s) n (S.size i) (length torn) sized ∙ e) k l in
      both_refused f a foretold n ops (suc k) (F.last e k l) r (c.quiet (suc k) r (λ z. omega arith)).0
  foresees zero zero e l =
      cases (ltb 0 (S.pending s))
      (λ z. let q : Proceeding S (forecasts (S.size i)) s = record { passes = e; numbers = l; pending = ltb-true 0 (S.pending s) z } in
      let w = commit_proceeds S n (S.size i) (length torn) s sized q in
      cases (S.able s i)
      (λ b. let d = F.done q b in has_to_do f a foretold (length (S.commit_ops s i)) n ops d.0 d.1 (c.power w b))
      (λ b. let r = c.stuck w b in both_refused f a foretold n ops 6 (F.stuck q b) r (c.quiet 6 r (λ z. omega arith)).0))
      (λ z. let h = ltb-false 0 (S.pending s) z in
      let d = F.idle e (omega arith) in
      let w = c.idle (first_torn (S.nand s) (S.on s) (S.blocks s) n (S.size i) (length torn) sized ∙ e) (omega arith) in
      has_to_do f a foretold 0 n ops d.0 d.1 (record { enough = λ b. (w.0, w.1); short = λ b. absurd (omega arith) }))

module _ (S : Store) where
  -- ---- a commit on the same state and image
  pub forecast_now : ForecastNow S
  forecast_now s i f foretold t j F n torn sized a ops s' i' c =
      foresees S s i f foretold t j F n torn sized a ops s' i' c (first_refusal (S.nand s) (S.on s) (S.blocks s) (forecasts (S.size i)))
      (numbers_refusal (S.pending s) (S.number s) (forecasts (S.size i))) refl refl

  -- ---- the calls that change nothing
  still_by : (x : Step S) → boots x.act ≡ false → Same S x.given x.lent x.state x.left → Still S x
  still_by x b q = record { booted = b; state = q.state; image = q.image }

  read_same : (y : Act) (s : S.State) (i : S.Image) (a : Answer) (ops : ℕ) (s' : S.State) (i' : S.Image) → Allowed S y s i a ops s' i' → is_read y ≡ true
      → (boots y ≡ false) × Same S s i s' i'
  read_same (read r) s i a ops s' i' c e = (refl, c.same)
  read_same (update u) s i a ops s' i' c e = clash e refl
  read_same forecast s i a ops s' i' c e = (refl, c.same)
  read_same (format nand n torn) s i a ops s' i' c e = clash e refl
  read_same (commit n torn) s i a ops s' i' c e = clash e refl
  read_same (mount nand n torn) s i a ops s' i' c e = clash e refl

  pub read_still : ReadStill S
  read_still x c e = let q = read_same x.act x.given x.lent x.answer x.ops x.state x.left c e in still_by x q.0 q.1

  refused_same : (y : Act) (s : S.State) (i : S.Image) (a : Answer) (ops : ℕ) (s' : S.State) (i' : S.Image) (k : ℕ) → Allowed S y s i a ops s' i' → boots y ≡ false
      → a ≡ refuses k → (k ≡ 10 → ⊥) → Same S s i s' i'
  refused_same (read r) s i a ops s' i' k c b e h = c.same
  refused_same (update u) s i a ops s' i' k c b e h = record { state = c.still k e; image = c.image }
  refused_same forecast s i a ops s' i' k c b e h = c.same
  refused_same (format nand n torn) s i a ops s' i' k c b e h = clash refl b
  refused_same (commit n torn) s i a ops s' i' k c b e h = (c.quiet k e h).1
  refused_same (mount nand n torn) s i a ops s' i' k c b e h = clash refl b

  pub refused_still : RefusedStill S
  refused_still x k c b e h = still_by x b (refused_same x.act x.given x.lent x.answer x.ops x.state x.left k c b e h)

  -- ---- after such calls a call that is no mount or format is given the state that was at hand before them
  given_still : (zs ys : List (Step S)) (x : Step S) (H : S.State → Type 0) (i : S.Image) (s : S.State) → ((t : S.State) → H t → t ≡ s) → AllStill S zs
      → Runs S H i (zs ++ (x ∷ ys)) → boots x.act ≡ false → x.given ≡ s
  given_still [] ys x H i s h u r b = h x.given (r.0.handed b)
  given_still (z ∷ zs) ys x H i s h u r b =
      given_still zs ys x (Hands S H z) z.image s (λ t y. y.returned ∙ u.0.state ∙ h z.given (r.0.handed u.0.booted)) u.1 r.1 b

  -- and the one image is as it was before them
  image_still : (zs : List (Step S)) (H : S.State → Type 0) (i : S.Image) → AllStill S zs → Runs S H i zs → last_image S i zs ≡ i
  image_still [] H i u r = refl
  image_still (z ∷ zs) H i u r = image_still zs (Hands S H z) z.image u.1 r.1 ∙ image_kept S true i z r.0.lends u.0.image

  -- a call that is refused with 2 is given a state that is off
  two_off : (c : Call) (s : S.State) (i : S.Image) (a : Answer) (s' : S.State) (i' : S.Image) (b : Bool)
      → first_refusal (S.nand s) (S.on s) (S.blocks s) c ≡ or_else (when 2 (not (S.on s))) (when 1 b) → FirstTests S c s i a s' i' → a ≡ refuses 2 → S.on s ≡ false
  two_off c s i a s' i' b e t r =
      cases (S.on s) (λ o. absurd (by_first (first_refusal (S.nand s) (S.on s) (S.blocks s) c) refl (e ∙ ap (λ (x : Bool). or_else (when 2 (not x)) (when 1 b)) o))) (λ o. o)
    where
      by_first : (m : ℕ) → first_refusal (S.nand s) (S.on s) (S.blocks s) c ≡ m → first_refusal (S.nand s) (S.on s) (S.blocks s) c ≡ when 1 b → ⊥
      by_first zero f o = t.not2 f r
      by_first (suc m) f o =
          let d : suc m ≡ 1 = when_is 1 m b (sym o ∙ f) in
          let k : refuses 1 ≡ refuses 2 = ap refuses (sym d) ∙ sym (t.refused m f).0 ∙ r in
          let z : ◌≡◌ {A = ℕ} 1 2 = cc in
          omega arith

  -- ---- a forecast and a commit that are given one state, each lent the image i or refused with 1 or 2
  module _ (i : S.Image) (y x : Step S) (n : ℕ) (torn : List ℕ) (sized : length torn ≡ page_size (geometry_of (S.nand x.given)))
      (F : Forecast S y.given y.lent y.answer y.ops y.state y.left) (C : Commit S n torn x.given x.lent x.answer x.ops x.state x.left)
      (given : x.given ≡ y.given) (y-not1 : y.answer ≡ refuses 1 → ⊥) (x-not1 : x.answer ≡ refuses 1 → ⊥) where
    -- off: both are refused with 2
    both_off : S.on y.given ≡ false → Foresees y.answer y.ops n x.answer x.ops
    both_off o =
        let p : S.on x.given ≡ false = ap S.on given ∙ o in
        let r = (C.first.refused 1 (rw p)).0 in
        both_refused y.answer x.answer y.ops n x.ops 2 (F.first.refused 1 (rw o)).0 r (C.quiet 2 r (λ z. omega arith)).0

    lent_at : Lends S i y → Lends S i x → Foresees y.answer y.ops n x.answer x.ops
    lent_at (one e f) (one d h) =
        forecast_now y.given y.lent y.answer y.ops y.state y.left F n torn (subst (λ (s : S.State). length torn ≡ page_size (geometry_of (S.nand s))) given sized) x.answer x.ops x.state x.left
        (subst (λ (s : S.State). Commit S n torn s y.lent x.answer x.ops x.state x.left) given
        (subst (λ (j : S.Image). Commit S n torn x.given j x.answer x.ops x.state x.left) (d ∙ sym e) C))
    lent_at (other r f) l =
        both_off (two_off (forecasts (S.size y.lent)) y.given y.lent y.answer y.state y.left
        (not (is_chip_size (geometry_of (S.nand y.given)) (S.size y.lent) && has_blocks (geometry_of (S.nand y.given)) (S.blocks y.given) (S.size y.lent))) refl F.first (⊎_elim (λ h. absurd (y-not1 h)) (λ h. h) r))
    lent_at (one e f) (other r h) =
        both_off (ap S.on (sym given)
        ∙ two_off (commits n (S.size x.lent) (length torn)) x.given x.lent x.answer x.state x.left
        (not (is_chip_size (geometry_of (S.nand x.given)) (S.size x.lent) && (is_torn_size (geometry_of (S.nand x.given)) (length torn) && has_blocks (geometry_of (S.nand x.given)) (S.blocks x.given) (S.size x.lent)))) refl C.first (⊎_elim (λ h. absurd (x-not1 h)) (λ h. h) r))

  pub forecast_holds : ForecastHolds S
  forecast_holds H i xs zs ys y x r e u n torn k sized y1 x1 =
      let q = (runs_split S xs (y ∷ (zs ++ (x ∷ ys))) H i r).1 in
      let F : Forecast S y.given y.lent y.answer y.ops y.state y.left
      = subst (λ (b : Act). Allowed S b y.given y.lent y.answer y.ops y.state y.left) e q.0.allowed in
      let p = runs_split S zs (x ∷ ys) (Hands S (last_hands S H xs) y) y.image q.1 in
      let w = p.1.0 in
      let d = given_still zs ys x (Hands S (last_hands S H xs) y) y.image y.given (λ t h. h.returned ∙ F.same.state) u q.1 (ap boots k) in
      let j : last_image S y.image zs ≡ last_image S i xs
      = image_still zs (Hands S (last_hands S H xs) y) y.image u p.0 ∙ image_kept S true (last_image S i xs) y q.0.lends F.same.image in
      lent_at (last_image S i xs) y x n torn sized F
      (subst (λ (b : Act). Allowed S b x.given x.lent x.answer x.ops x.state x.left) k w.allowed) d y1 x1
      q.0.lends (subst (λ (m : S.Image). Lends S m x) j w.lends)

  -- ---- a list without a call that changes nothing
  pub still_out : StillOut S
  still_out H i [] ys x r u =
      let k = r.0 in
      let m = image_kept S true i x k.lends u.image in
      subst (λ (j : S.Image). Runs S H j ys) m
      (wider_runs S ys (Hands S H x) H (λ t y. subst H (sym (y.returned ∙ u.state)) (k.handed u.booted)) x.image r.1)
  still_out H i (y ∷ xs) ys x r u = (r.0, still_out (Hands S H y) y.image xs ys x r.1 u)
