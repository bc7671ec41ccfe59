-- Calls made one after the other. Assumes nothing.
use mathlib.Core.Path.{◌≡◌, refl, sym, ap, subst, ◌∙◌}
use mathlib.Core.List.{List, [], ◌∷◌, ◌++◌, map}
use Prim.Native.Nat.{ℕ}
use Rattle.promise.specs.Plain.{Answer}
use Rattle.promise.specs.Steps.{Act, Step, one, Only, Hands, Allowed, Runs, last_hands, last_image}
use Rattle.promise.proofs.Lists.{wider_hands, wider_runs}
use Rattle.store.specs.declared.state.State.{State}
use Rattle.store.specs.declared.step.Call.{Call}
use Rattle.store.specs.Ensured.{index}
use Rattle.store.specs.Step.{act_of}
use Rattle.store.specs.RunsTo.{RunsTo}

-- ---- lists of steps
abbrev Steps : Type 0
Steps = List (Step index)

-- with more states at hand there are more at the end
wider_last : (xs : Steps) (H J : State → Type 0) → ((s : State) → H s → J s) → (t : State) → last_hands index H xs t → last_hands index J xs t
wider_last [] H J f t h = f t h
wider_last (x ∷ xs) H J f t h = wider_last xs (Hands index H x) (Hands index J x) (wider_hands index H J f x) t h

runs_append : (xs ys : Steps) (H : State → Type 0) (i : List ℕ) → Runs index H i xs
    → Runs index (last_hands index H xs) (last_image index i xs) ys → Runs index H i (xs ++ ys)
runs_append [] ys H i h k = k
runs_append (x ∷ xs) ys H i h k = (h.0, runs_append xs ys (Hands index H x) x.image h.1 k)

hands_append : (xs ys : Steps) (H : State → Type 0) → last_hands index H (xs ++ ys) ≡ last_hands index (last_hands index H xs) ys
hands_append [] ys H = refl
hands_append (x ∷ xs) ys H = hands_append xs ys (Hands index H x)

image_append : (xs ys : Steps) (i : List ℕ) → last_image index i (xs ++ ys) ≡ last_image index (last_image index i xs) ys
image_append [] ys i = refl
image_append (x ∷ xs) ys i = image_append xs ys x.image

map_append : {A B : Type 0} (f : A → B) (xs ys : List A) → map f (xs ++ ys) ≡ map f xs ++ map f ys
map_append f [] ys = refl
map_append f (x ∷ xs) ys = ap (λ zs. f x ∷ zs) (map_append f xs ys)

module _ (torn : List ℕ) where
  -- no call
  pub runs_none : (s : State) (i : List ℕ) → RunsTo torn [] s i s i
  runs_none s i = record { steps = []; acts = refl; runs = tt; state = refl; image = refl }

  -- one call
  pub runs_one : (c : Call) (s : State) (i : List ℕ) (a : Answer) (ops : ℕ) (s' : State) (i' : List ℕ)
      → Allowed index (act_of c torn) s i a ops s' i' → RunsTo torn (c ∷ []) s i s' i'
  runs_one c s i a ops s' i' h =
      record {
        steps = record { act = act_of c torn; given = s; lent = i; left = i'; answer = a; ops = ops; state = s'; image = i' } ∷ [];
        acts = refl;
        runs = (record { allowed = h; lends = one refl refl; handed = λ _. refl }, tt);
        state = record { returned = refl; known = λ _. refl };
        image = refl;
      }

  -- calls behind calls
  pub runs_then : (cs ds : List Call) (s : State) (i : List ℕ) (t : State) (j : List ℕ) (s' : State) (i' : List ℕ) → RunsTo torn cs s i t j → RunsTo torn ds t j s' i'
      → RunsTo torn (cs ++ ds) s i s' i'
  runs_then cs ds s i t j s' i' a b =
      let H = last_hands index (Only index s) a.steps in
      let f : (u : State) → Only index t u → H u = λ u e. subst H (sym e) a.state in
      record {
        steps = a.steps ++ b.steps;
        acts =
            map_append (λ (x : Step index). x.act) a.steps b.steps
            ∙ ap (λ (us : List Act). us ++ map (λ (x : Step index). x.act) b.steps) a.acts
            ∙ ap (λ (us : List Act). map (λ (c : Call). act_of c torn) cs ++ us) b.acts
            ∙ sym (map_append (λ (c : Call). act_of c torn) cs ds);
        runs =
            runs_append a.steps b.steps (Only index s) i a.runs
            (subst (λ (k : List ℕ). Runs index H k b.steps) (sym a.image) (wider_runs index b.steps (Only index t) H f j b.runs));
        state =
            subst (λ (J : State → Type 0). J s') (sym (hands_append a.steps b.steps (Only index s)))
            (wider_last b.steps (Only index t) H f s' b.state);
        image =
            image_append a.steps b.steps i ∙ ap (λ (k : List ℕ). last_image index k b.steps) a.image ∙ b.image;
      }
