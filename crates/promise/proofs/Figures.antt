-- Each figure is the whole erases of its block since the last finished mount or format, or since the start of the list. Assumes nothing.
use mathlib.Core.Path.{◌≡◌, refl, sym, ap, ◌∙◌, subst}
use mathlib.Core.Bool.{Bool, true, false, cond}
use mathlib.Core.List.{List, [], ◌∷◌}
use Prim.Native.Nat.{ℕ, ◌+◌, ◌≤◌}
use native.Mathlib.Omega.{arith}
use Rattle.lists.specs.Lists.{any}
use Rattle.lists.proofs.Tests.{cases, clash, and_left, and_right}
use Rattle.chip.specs.Chip.{Op}
use Rattle.chip.specs.Erases.{erases_in}
use Rattle.promise.specs.Plain.{Answer, accepted}
use Rattle.promise.specs.Calls.{Store}
use Rattle.promise.specs.Steps.{Act, read, update, forecast, format, commit, mount, is_accepted, boots, Step, Only, Hands, last_hands, Allowed, Runs}
use Rattle.promise.specs.Erases.{begins, since_start, done_by, whole_erases, Unworn, StartsUnworn, RebuiltUnworn, FiguresTell, FiguresAny, FiguresFit}
use Rattle.promise.proofs.Promise.{accepted_is}
use Rattle.promise.proofs.Effects.{GoodAtHand, Effect, idle, worked, cut, booted, effect, good_first, good_next}

-- 0 either way
zero_either : (c : Bool) → ◌≡◌ {A = ℕ} (cond c 0 0) 0
zero_either true = refl
zero_either false = refl

module _ (S : Store) where
  -- the figure of b in a state is n, and no more than the state's number
  record Stands (b n : ℕ) (s : S.State) : Type 0 where
    is : S.erases s b ≡ n
    most : n ≤ S.number s

  -- so of the states at hand that are on
  abbrev Holds : ℕ → ℕ → (S.State → Type 0) → Type 0
  Holds b n H = (t : S.State) → H t → S.on t ≡ true → Stands b n t

  -- the figure after a step
  abbrev after : ℕ → ℕ → Step S → ℕ
  after b n x = cond (begins S x) 0 (n + erases_in b (done_by S x))

  go_by : (H : S.State → Type 0) (i : S.Image) (x : Step S) → Effect S H i x → (b n : ℕ) → Holds b n H → Holds b (after b n x) (Hands S H x)
  go_by H i x (idle e) b n h t y o =
      let f = e.states t y o in
      let w = h x.given f.hand f.on in
      let m : n + erases_in b (done_by S x) ≡ n = ap (λ (l : List Op). n + erases_in b l) e.done ∙ omega arith in
      let q = e.begins in
      rw (q, m) (record { is = f.figures b ∙ w.is; most = subst (λ (k : ℕ). n ≤ k) (sym f.number) w.most })
  go_by H i x (worked e) b n h t y o =
      let w = h x.given e.hand e.on in
      let is = w.is in
      let most = w.most in
      let r = e.adds b (omega arith) in
      let once = e.once b in
      let number = e.number in
      let k = y.returned in
      let q = e.begins in
      let d = e.done in
      rw (q, d, k) (record { is = omega arith; most = omega arith })
  go_by H i x (cut e) b n h t y o = clash (sym (ap S.on y.returned) ∙ o) e.off
  go_by H i x (booted e) b n h t y o =
      let f = e.finished (sym (ap S.on y.returned) ∙ o) in
      let z = f.2 b in
      let q = f.0 in
      let k = y.returned in
      rw (q, k) (record { is = z; most = omega arith })

  -- ---- a list: the figure after it, from a figure n
  abbrev figure : ℕ → ℕ → List (Step S) → ℕ
  figure b n xs = cond (any (begins S) xs) 0 n + whole_erases S b (since_start S xs)

  -- without a finished mount or format it is the whole list
  none_since : (xs : List (Step S)) → any (begins S) xs ≡ false → since_start S xs ≡ xs
  none_since [] e = refl
  none_since (x ∷ xs) e = rw e

  -- a step, then the rest
  figure_next : (b n : ℕ) (x : Step S) (xs : List (Step S)) → figure b (after b n x) xs ≡ figure b n (x ∷ xs)
  figure_next b n x xs =
      cases (begins S x)
      (λ t. rw t (ap (λ (k : ℕ). k + whole_erases S b (since_start S xs)) (zero_either (any (begins S) xs))))
      (λ t. cases (any (begins S) xs)
      (λ y. rw (t, y))
      (λ y. rw (t, y, none_since xs y) (omega arith)))

  -- of any list, by its steps
  list_stands : (xs : List (Step S)) (H : S.State → Type 0) (i : S.Image) → Runs S H i xs → GoodAtHand S H i → (b n : ℕ) → Holds b n H → Holds b (figure b n xs) (last_hands S H xs)
  list_stands [] H i r v b n h = let e : n + 0 ≡ n = omega arith in rw e h
  list_stands (x ∷ xs) H i r v b n h =
      let e = effect S H i x v r.0 in
      subst (λ (k : ℕ). Holds b k (last_hands S (Hands S H x) xs)) (figure_next b n x xs)
      (list_stands xs (Hands S H x) x.image r.1 (good_next S H i x e) b (after b n x) (go_by H i x e b n h))

  -- from a state with figures of 0
  stands_at : (s : S.State) (i : S.Image) (xs : List (Step S)) → S.Good s i → Runs S (Only S s) i xs → Unworn S s
      → (t : S.State) → last_hands S (Only S s) xs t → S.on t ≡ true → (b : ℕ) → Stands b (figure b 0 xs) t
  stands_at s i xs good r z t h o b =
      list_stands xs (Only S s) i r (good_first S s i good) b 0 (λ y e w. rw e (record { is = z b; most = omega arith })) t h o

  -- ---- the statements
  pub figures_any : FiguresAny S
  figures_any s i xs good r z t h o b =
      let f = stands_at s i xs good r z t h o b in
      let k = zero_either (any (begins S) xs) in
      f.is ∙ omega arith

  pub figures_tell : FiguresTell S
  figures_tell nand K G s i xs c z t h o b = figures_any s i xs c.started.mounted.good c.runs z t h o b

  pub figures_fit : FiguresFit S
  figures_fit s i xs good r z t h o b =
      let f = stands_at s i xs good r z t h o b in
      let e = f.is in
      let l = f.most in
      omega arith

  -- ---- a finished mount, format or rebuild leaves each figure 0
  unworn_by : (x : Act) (s : S.State) (i : S.Image) (a : Answer) (ops : ℕ) (s' : S.State) (i' : S.Image) → boots x ≡ true → a ≡ accepted → Allowed S x s i a ops s' i' → Unworn S s'
  unworn_by (read r) s i a ops s' i' t e c = clash t refl
  unworn_by (update u) s i a ops s' i' t e c = clash t refl
  unworn_by forecast s i a ops s' i' t e c = clash t refl
  unworn_by (format nand n torn) s i a ops s' i' t e c = c.zeros e
  unworn_by (commit n torn) s i a ops s' i' t e c = clash t refl
  unworn_by (mount nand n torn) s i a ops s' i' t e c = c.zeros e

  pub starts_unworn : StartsUnworn S
  starts_unworn x t c =
      unworn_by x.act x.given x.lent x.answer x.ops x.state x.left (and_left (boots x.act) (is_accepted x.answer) t)
      (accepted_is x.answer (and_right (boots x.act) (is_accepted x.answer) t)) c

  pub rebuilt_unworn : RebuiltUnworn S
  rebuilt_unworn nand K G s i f = f.says.zeros refl
