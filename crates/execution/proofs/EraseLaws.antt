-- The turns of the loops that erase the blocks of a plan and count the erases. Assumes nothing.
use Rattle.std.proofs.Common.{◌≡◌, ℕ, zero, suc, arith, ◌+◌, ◌%◌, ◌^◌, ◌<◌, List, [], ◌∷◌, ◌++◌, map, length, get_or, take, set, sym, ap, ◌∙◌, add-one, take-suc}
use Rattle.lists.specs.Lists.{All, more}
use Rattle.lists.proofs.Flats.{map_append}
use Rattle.chip.specs.declared.progress.Progress.{Progress}
use Rattle.chip.specs.Geometry.{Geometry}
use Rattle.chip.specs.Chip.{Op, erase}
use Rattle.chip.specs.Erases.{figures_after}
use Rattle.chip.specs.RunCode.{Ran, Stepped}
use Rattle.chip.proofs.EraseLaws.{figures_more}
use Rattle.chip.proofs.Runs.{ran_append, ran_one}

-- what holds of the first n holds of each of them
pub first_at : {P : ℕ → Type 0} (n i : ℕ) (xs : List ℕ) → All P (take n xs) → i < n → i < length xs → P (get_or xs i 0)
first_at zero i xs h l k = absurd (omega arith)
first_at (suc n) i [] h l k = absurd (omega arith)
first_at (suc n) zero (x ∷ xs) (more h hs) l k = h
first_at (suc n) (suc i) (x ∷ xs) (more h hs) l k = first_at n i xs hs (omega arith) (omega arith)

-- one block more
first_more : (bs : List ℕ) (i : ℕ) → i < length bs → map erase (take (i + 1) bs) ≡ map erase (take i bs) ++ (erase (get_or bs i 0) ∷ [])
first_more bs i h = ap (λ (n : ℕ). map erase (take n bs)) (add-one i) ∙ ap (map erase) (take-suc bs i 0 h) ∙ map_append erase (take i bs) (get_or bs i 0 ∷ [])

-- it is erased
pub erased_more : (g : Geometry) (torn bs : List ℕ) (i : ℕ) (p q r : Progress) (xs ys zs : List ℕ) → i < length bs
    → Ran g torn (map erase (take i bs)) p q xs ys → Stepped g torn (erase (get_or bs i 0)) q r ys zs → Ran g torn (map erase (take (i + 1) bs)) p r xs zs
erased_more g torn bs i p q r xs ys zs h a s =
    rw (first_more bs i h) (ran_append g torn (map erase (take i bs)) (erase (get_or bs i 0) ∷ []) p q r xs ys zs a (ran_one g torn (erase (get_or bs i 0)) q r ys zs s))

-- and its figure is one more
pub counted_more : (bs figures : List ℕ) (i : ℕ) (xs ys : List ℕ) → i < length bs → get_or bs i 0 < length figures → xs ≡ figures_after (map erase (take i bs)) figures
    → ys ≡ set xs (get_or bs i 0) ((get_or xs (get_or bs i 0) 0 + 1) % 2 ^ 64) → ys ≡ figures_after (map erase (take (i + 1) bs)) figures
counted_more bs figures i xs ys h l e s =
    s ∙ ap (λ (zs : List ℕ). set zs (get_or bs i 0) ((get_or zs (get_or bs i 0) 0 + 1) % 2 ^ 64)) e
    ∙ figures_more (map erase (take i bs)) (get_or bs i 0) figures l ∙ ap (λ (os : List Op). figures_after os figures) (sym (first_more bs i h))
