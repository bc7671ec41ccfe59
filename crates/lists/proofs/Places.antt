-- Laws of modify, map_from, replicate and At: one element altered, each altered by its index, all of one value. Assumes nothing.
use mathlib.Core.Path.{◌≡◌, refl, sym, ap, ap₂, ◌∙◌}
use mathlib.Core.List.{List, [], ◌∷◌, ◌++◌}
use Prim.Native.Nat.{ℕ, zero, suc, ◌+◌, ◌<◌, ◌≤◌}
use native.Mathlib.Nat.{not-suc-le-zero}
use native.Mathlib.Omega.{arith}
use lib.ListN.{length, get_or, set, replicate}
use Rattle.lists.specs.Lists.{At, modify, map_from, patch}

module _ {A : Type 0} where
  pub length_modify : (n : ℕ) (f : A → A) (xs : List A) → length (modify n f xs) ≡ length xs
  length_modify n f [] = refl
  length_modify zero f (x ∷ xs) = refl
  length_modify (suc n) f (x ∷ xs) = ap suc (length_modify n f xs)

  pub length_map_from : (i : ℕ) (f : ℕ → A → A) (xs : List A) → length (map_from i f xs) ≡ length xs
  length_map_from i f [] = refl
  length_map_from i f (x ∷ xs) = ap suc (length_map_from (suc i) f xs)

  -- an element altered by its index
  pub get_d_map_from : (i : ℕ) (f : ℕ → A → A) (xs : List A) (b : ℕ) (d : A) → b < length xs → get_or (map_from i f xs) b d ≡ f (i + b) (get_or xs b d)
  get_d_map_from i f [] b d h = absurd (omega arith)
  get_d_map_from i f (x ∷ xs) zero d h = let e : i ≡ i + 0 = omega arith in ap (λ (k : ℕ). f k x) e
  get_d_map_from i f (x ∷ xs) (suc b) d h = let e : suc i + b ≡ i + suc b = omega arith in get_d_map_from (suc i) f xs b d (omega arith) ∙ ap (λ (k : ℕ). f k (get_or xs b d)) e

  -- two alterations that agree from index i on
  pub map_from_same : (i : ℕ) (f h : ℕ → A → A) (xs : List A) → ((c : ℕ) (x : A) → i ≤ c → f c x ≡ h c x) → map_from i f xs ≡ map_from i h xs
  map_from_same i f h [] e = refl
  map_from_same i f h (x ∷ xs) e = rw (e i x (omega arith), map_from_same (suc i) f h xs (λ c y l. e c y (omega arith)))

  -- two that agree but at one index
  pub map_from_set : (i : ℕ) (f h : ℕ → A → A) (xs : List A) (b : ℕ) (v d : A) → b < length xs → v ≡ h (i + b) (get_or xs b d) → ((c : ℕ) (x : A) → (c ≡ i + b → ⊥) → f c x ≡ h c x)
      → set (map_from i f xs) b v ≡ map_from i h xs
  map_from_set i f h [] b v d l e o = absurd (omega arith)
  map_from_set i f h (x ∷ xs) zero v d l e o =
      let z : i + 0 ≡ i = omega arith in
      rw (e, z, map_from_same (suc i) f h xs (λ c y m. o c y (λ q. omega arith)))
  map_from_set i f h (x ∷ xs) (suc b) v d l e o =
      let z : i + suc b ≡ suc i + b = omega arith in
      rw (o i x (λ q. omega arith), map_from_set (suc i) f h xs b v d (omega arith) (e ∙ ap (λ (k : ℕ). h k (get_or xs b d)) z) (λ c y n. o c y (λ q. n (q ∙ z))))

  -- an element of a list that has one value, and past its end
  pub get_d_same : (k n : ℕ) (v : A) → get_or (replicate k v) n v ≡ v
  get_d_same zero n v = refl
  get_d_same (suc k) zero v = refl
  get_d_same (suc k) (suc n) v = get_d_same k n v

  pub At-same : (f : A → A) (n : ℕ) (x : A) (xs : List A) → At n x xs → At n (f x) (modify n f xs)
  At-same f n x [] h = h
  At-same f zero x (y ∷ ys) h = ap f h
  At-same f (suc n) x (y ∷ ys) h = At-same f n x ys h

  pub At-other : (f : A → A) (m n : ℕ) (x : A) (xs : List A) → (m ≡ n → ⊥) → At n x xs → At n x (modify m f xs)
  At-other f m n x [] d h = h
  At-other f zero zero x (y ∷ ys) d h = absurd (d refl)
  At-other f zero (suc n) x (y ∷ ys) d h = h
  At-other f (suc m) zero x (y ∷ ys) d h = h
  At-other f (suc m) (suc n) x (y ∷ ys) d h = At-other f m n x ys (λ e. d (ap suc e)) h

  pub At-map_from : (f : ℕ → A → A) (i n : ℕ) (x : A) (xs : List A) → At n x xs → At n (f (i + n) x) (map_from i f xs)
  At-map_from f i n x [] h = h
  At-map_from f i zero x (y ∷ ys) h = let e : i + 0 ≡ i = omega arith in ap₂ f e h
  At-map_from f i (suc n) x (y ∷ ys) h =
      let e : i + suc n ≡ suc i + n = omega arith in rw e (At-map_from f (suc i) n x ys h)

  -- an element below the length stands somewhere
  pub At-get_or : (n : ℕ) (xs : List A) (d : A) → n < length xs → At n (get_or xs n d) xs
  At-get_or n [] d h = absurd (not-suc-le-zero h)
  At-get_or zero (x ∷ xs) d h = refl
  At-get_or (suc n) (x ∷ xs) d h = At-get_or n xs d (omega arith)

  -- and is what is found there
  pub At-is : (n : ℕ) (x : A) (xs : List A) (d : A) → At n x xs → get_or xs n d ≡ x
  At-is n x [] d h = absurd h
  At-is zero x (y ∷ ys) d h = sym h
  At-is (suc n) x (y ∷ ys) d h = At-is n x ys d h

  -- the element behind a part
  pub at_seam : (pre : List A) (x : A) (xs : List A) → At (length pre) x (pre ++ x ∷ xs)
  at_seam [] x xs = refl
  at_seam (p ∷ pre) x xs = at_seam pre x xs

  pub modify_id : (n : ℕ) (xs : List A) → modify n (λ x. x) xs ≡ xs
  modify_id n [] = refl
  modify_id zero (x ∷ xs) = refl
  modify_id (suc n) (x ∷ xs) = rw (modify_id n xs)

  pub modify_modify : (n : ℕ) (f g : A → A) (xs : List A) → modify n g (modify n f xs) ≡ modify n (λ x. g (f x)) xs
  modify_modify n f g [] = refl
  modify_modify zero f g (x ∷ xs) = refl
  modify_modify (suc n) f g (x ∷ xs) = rw (modify_modify n f g xs)

  -- an alteration of one element as a patch
  pub modify_patch : (n : ℕ) (f : A → A) (xs : List A) (d : A) → n < length xs → modify n f xs ≡ patch xs n 1 (f (get_or xs n d) ∷ [])
  modify_patch n f [] d h = absurd (not-suc-le-zero h)
  modify_patch zero f (x ∷ xs) d h = refl
  modify_patch (suc n) f (x ∷ xs) d h = rw (modify_patch n f xs d (omega arith))

  -- below the length the default is of no account
  pub get_d_default : (xs : List A) (n : ℕ) (d e : A) → n < length xs → get_or xs n d ≡ get_or xs n e
  get_d_default [] n d e h = absurd (not-suc-le-zero h)
  get_d_default (x ∷ xs) zero d e h = refl
  get_d_default (x ∷ xs) (suc n) d e h = get_d_default xs n d e (omega arith)
