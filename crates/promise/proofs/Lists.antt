-- Lists in parts, and what holds at a place of a list. Assumes nothing.
use mathlib.Core.Path.{◌≡◌, refl}
use mathlib.Core.Bool.{true}
use mathlib.Core.List.{List, [], ◌∷◌, ◌++◌}
use Prim.Native.Nat.{ℕ}
use Rattle.lists.proofs.Tests.{clash}
use Rattle.chip.specs.Geometry.{Nand}
use Rattle.tree.specs.Tree.{Table}
use Rattle.promise.specs.Plain.{Plain, resting}
use Rattle.promise.specs.Calls.{Store}
use Rattle.promise.specs.Steps.{Step, Only, Hands, last_hands, last_image, Named, Uncut, Takes, Runs, starts, next, last_plain, answer_to, Agrees}
use Rattle.promise.specs.History.{History, next_history, last_history, AllLawful}
use Rattle.promise.specs.Promise.{Course}
use Rattle.promise.proofs.Promise.{Carried, nand_next, one_call, started, agrees}

module _ (S : Store) where
  -- a list in two parts: what holds of the whole holds of each
  pub agrees_split : (xs ys : List (Step S)) (p : Plain) (i : S.Image) → Agrees S p i (xs ++ ys)
      → Agrees S p i xs × Agrees S (last_plain S p i xs) (last_image S i xs) ys
  agrees_split [] ys p i h = (tt, h)
  agrees_split (x ∷ xs) ys p i h = let r = agrees_split xs ys (next S p i x) x.image h.2 in ((h.0, h.1, r.0), r.1)

  pub history_split : (xs ys : List (Step S)) (p : Plain) (i : S.Image) (l : History)
      → last_history S p i (xs ++ ys) l ≡ last_history S (last_plain S p i xs) (last_image S i xs) ys (last_history S p i xs l)
  history_split [] ys p i l = refl
  history_split (x ∷ xs) ys p i l = history_split xs ys (next S p i x) x.image (next_history S p i x l)

  pub runs_split : (xs ys : List (Step S)) (H : S.State → Type 0) (i : S.Image) → Runs S H i (xs ++ ys)
      → Runs S H i xs × Runs S (last_hands S H xs) (last_image S i xs) ys
  runs_split [] ys H i r = (tt, r)
  runs_split (x ∷ xs) ys H i r = let q = runs_split xs ys (Hands S H x) x.image r.1 in ((r.0, q.0), q.1)

  -- with more states at hand the same steps can be taken
  pub wider_hands : (H J : S.State → Type 0) → ((s : S.State) → H s → J s) → (x : Step S) (s : S.State) → Hands S H x s → Hands S J x s
  wider_hands H J f x s h = record { returned = h.returned; known = λ e. f x.given (h.known e) }

  pub wider_runs : (xs : List (Step S)) (H J : S.State → Type 0) → ((s : S.State) → H s → J s) → (i : S.Image) → Runs S H i xs → Runs S J i xs
  wider_runs [] H J f i r = tt
  wider_runs (x ∷ xs) H J f i r = (
    record { allowed = r.0.allowed; lends = r.0.lends; handed = λ b. f x.given (r.0.handed b) },
    wider_runs xs (Hands S H x) (Hands S J x) (wider_hands H J f x) x.image r.1,
  )

  pub lawful_split : (xs ys : List (Step S)) → AllLawful S (xs ++ ys) → AllLawful S xs × AllLawful S ys
  lawful_split [] ys h = (tt, h)
  lawful_split (x ∷ xs) ys h = let r = lawful_split xs ys h.1 in ((h.0, r.0), r.1)

  -- a place of a list: the plain store there is carried by a state at hand, and the step is taken from it
  pub record Place (p : Plain) (H : S.State → Type 0) (i : S.Image) (x : Step S) : Type 0 where
    pub carried : Carried S true p H i
    pub takes : Takes S H i x

  place_by : (xs ys : List (Step S)) (x : Step S) (p : Plain) (H : S.State → Type 0) (i : S.Image) → Carried S true p H i → Runs S H i (xs ++ (x ∷ ys))
      → Named S p.nand (xs ++ (x ∷ ys)) → Uncut S (xs ++ (x ∷ ys)) → Place (last_plain S p i xs) (last_hands S H xs) (last_image S i xs) x
  place_by [] ys x p H i v r d u = record { carried = v; takes = r.0 }
  place_by (y ∷ xs) ys x p H i v r d u =
      let o = one_call S true p H i y v r.0 u.0 d.0 (λ b. clash refl b) in
      let e = nand_next S p i y d.0 o.same in
      place_by xs ys x (next S p i y) (Hands S H y) y.image o.inv r.1 (rw e d.1) u.1

  module _ (nand : Nand) (K : Table) (G : ℕ) (s : S.State) (i : S.Image) where
    -- the promise
    pub promise : (xs : List (Step S)) → Course S nand K G s i xs → Agrees S (starts S nand K G i) i xs
    unfolding resting
    promise xs c = agrees S true xs (starts S nand K G i) (Only S s) i (started S nand K G s i c.started) c.runs c.named c.uncut (λ b. clash refl b)

    module _ (xs ys : List (Step S)) (x : Step S) (c : Course S nand K G s i (xs ++ (x ∷ ys))) where
      pub place : Place (last_plain S (starts S nand K G i) i xs) (last_hands S (Only S s) xs) (last_image S i xs) x
      unfolding resting
      place = place_by xs ys x (starts S nand K G i) (Only S s) i (started S nand K G s i c.started) c.runs c.named c.uncut

      pub answer_at : x.answer ≡ answer_to S (last_plain S (starts S nand K G i) i xs) x
      answer_at = (agrees_split xs (x ∷ ys) (starts S nand K G i) i (promise (xs ++ (x ∷ ys)) c)).1.0
