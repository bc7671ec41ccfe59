-- Laws of tab, flat and map, of all over joined lists, and of what modify leaves at each index. Assumes nothing.
use mathlib.Core.Path.{◌≡◌, refl, sym, ap, ◌∙◌}
use mathlib.Core.Bool.{Bool, true, ◌&&◌}
use mathlib.Core.List.{List, [], ◌∷◌, ◌++◌, map, append_assoc}
use Prim.Native.Nat.{ℕ, zero, suc, ◌+◌, ◌<◌}
use native.Mathlib.Omega.{arith}
use lib.ListN.{length, take, drop, get_or}
use Rattle.lists.specs.Lists.{all, All, none, more, tab, flat}
use Rattle.lists.proofs.Tests.{cases, and_left, and_right}
use Rattle.lists.proofs.Alls.{All-append}

-- ---- f k, f (k + 1), ..
module _ {A : Type 0} where
  pub tab_same : (f h : ℕ → A) (k m : ℕ) → ((n : ℕ) → n < k + m → f n ≡ h n) → tab k m f ≡ tab k m h
  tab_same f h k zero e = refl
  tab_same f h k (suc m) e = rw (e k (omega arith), tab_same f h (suc k) m (λ n l. e n (omega arith)))

  pub length_tab : (f : ℕ → A) (k m : ℕ) → length (tab k m f) ≡ m
  length_tab f k zero = refl
  length_tab f k (suc m) = ap suc (length_tab f (suc k) m)

  pub get_d_tab : (f : ℕ → A) (k m n : ℕ) (d : A) → n < m → get_or (tab k m f) n d ≡ f (k + n)
  get_d_tab f k zero n d h = absurd (omega arith)
  get_d_tab f k (suc m) zero d h = ap f (let e : k ≡ k + 0 = omega arith in e)
  get_d_tab f k (suc m) (suc n) d h = get_d_tab f (suc k) m n d (omega arith) ∙ ap f (let e : suc k + n ≡ k + suc n = omega arith in e)

  -- all of them pass if each does, and each if all do
  -- one more at the end
  pub tab_last : (f : ℕ → A) (k m : ℕ) → tab k (suc m) f ≡ tab k m f ++ (f (k + m) ∷ [])
  tab_last f k zero = let e : k + 0 ≡ k = omega arith in rw e
  tab_last f k (suc m) = let e : suc k + m ≡ k + suc m = omega arith in ap (λ (l : List A). f k ∷ l) (tab_last f (suc k) m ∙ rw e)

  pub all_tab : (p : A → Bool) (f : ℕ → A) (k m : ℕ) → ((n : ℕ) → n < k + m → p (f n) ≡ true) → all p (tab k m f) ≡ true
  all_tab p f k zero h = refl
  all_tab p f k (suc m) h = rw (h k (omega arith), all_tab p f (suc k) m (λ n l. h n (omega arith)))

  pub tab_all : (p : A → Bool) (f : ℕ → A) (k m n : ℕ) → all p (tab k m f) ≡ true → n < m → p (f (k + n)) ≡ true
  tab_all p f k zero n e h = absurd (omega arith)
  tab_all p f k (suc m) zero e h =
      ap (λ (i : ℕ). p (f i)) (let z : k + 0 ≡ k = omega arith in z) ∙ and_left (p (f k)) (all p (tab (suc k) m f)) e
  tab_all p f k (suc m) (suc n) e h =
      ap (λ (i : ℕ). p (f i)) (let z : k + suc n ≡ suc k + n = omega arith in z)
      ∙ tab_all p f (suc k) m n (and_right (p (f k)) (all p (tab (suc k) m f)) e) (omega arith)

-- ---- f of each element, joined
module _ {A B : Type 0} where
  pub flat_append : (f : A → List B) (xs ys : List A) → flat f (xs ++ ys) ≡ flat f xs ++ flat f ys
  flat_append f [] ys = refl
  flat_append f (x ∷ xs) ys = rw (flat_append f xs ys) (sym (append_assoc (f x) (flat f xs) (flat f ys)))

  -- what holds of each part holds of all
  pub All-flat : {P : B → Type 0} (f : A → List B) {xs : List A} → All (λ (x : A). All P (f x)) xs → All P (flat f xs)
  All-flat f none = none
  All-flat f (more h hs) = All-append h (All-flat f hs)

  pub map_append : (f : A → B) (xs ys : List A) → map f (xs ++ ys) ≡ map f xs ++ map f ys
  map_append f [] ys = refl
  map_append f (x ∷ xs) ys = ap (λ (l : List B). f x ∷ l) (map_append f xs ys)

-- ---- every element of joined lists
module _ {A : Type 0} where
  pub all_append : (p : A → Bool) (xs ys : List A) → all p (xs ++ ys) ≡ (all p xs && all p ys)
  all_append p [] ys = refl
  all_append p (x ∷ xs) ys = cases (p x) (λ e. rw (e, all_append p xs ys)) (λ e. rw e)

  pub all_joined : (p : A → Bool) (xss : List (List A)) → all p (flat (λ (xs : List A). xs) xss) ≡ all (all p) xss
  all_joined p [] = refl
  all_joined p (xs ∷ xss) = all_append p xs (flat (λ (ys : List A). ys) xss) ∙ ap (λ (t : Bool). all p xs && t) (all_joined p xss)

-- ---- map of a part
module _ {A B : Type 0} where
  pub map_take : (f : A → B) (n : ℕ) (a : List A) → map f (take n a) ≡ take n (map f a)
  map_take f zero a = refl
  map_take f (suc n) [] = refl
  map_take f (suc n) (x ∷ a) = rw (map_take f n a)

  pub map_drop : (f : A → B) (n : ℕ) (a : List A) → map f (drop n a) ≡ drop n (map f a)
  map_drop f zero a = refl
  map_drop f (suc n) [] = refl
  map_drop f (suc n) (x ∷ a) = map_drop f n a
