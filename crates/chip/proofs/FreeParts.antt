-- Whether bytes are all 255, a part first and then the rest, and four bytes one by one. Assumes nothing.
use Rattle.std.proofs.Common.{◌≡◌, ℕ, suc, ◌+◌, ◌≤◌, Bool, true, false, not, ◌&&◌, eqb, List, length, get_or, take, drop, sym, refl, ap, ◌∙◌, ap₂, arith, take-append-drop, drop-cons, drop-drop}
use Rattle.lists.specs.Lists.{all, part}
use Rattle.lists.proofs.Flats.{all_append}
use Rattle.lists.proofs.Tests.{clash}
use Rattle.chip.specs.Page.{is_free}

-- a part first, then the rest: r is the part's answer
module _ (xs : List ℕ) (i n : ℕ) (r : Bool) (e : r ≡ is_free (part i n xs)) where
  part_first : is_free (drop i xs) ≡ (r && is_free (drop (i + n) xs))
  unfolding is_free
  part_first =
      ap (all (λ (b : ℕ). eqb b 255)) (sym (take-append-drop n (drop i xs)))
      ∙ all_append (λ (b : ℕ). eqb b 255) (take n (drop i xs)) (drop n (drop i xs))
      ∙ ap₂ ◌&&◌ (sym e) (ap is_free (drop-drop n i xs))

  pub part_stop : not r ≡ true → is_free (drop i xs) ≡ false
  part_stop t = part_first ∙ go r t
    where
      go : (r : Bool) → not r ≡ true → (r && is_free (drop (i + n) xs)) ≡ false
      go true t = clash t refl
      go false t = refl

  pub part_pass : not r ≡ false → is_free (drop (i + n) xs) ≡ is_free (drop i xs)
  part_pass t = sym (part_first ∙ go r t)
    where
      go : (r : Bool) → not r ≡ false → (r && is_free (drop (i + n) xs)) ≡ is_free (drop (i + n) xs)
      go true t = refl
      go false t = clash refl t

-- four bytes
pub free_four : (xs : List ℕ) (i : ℕ) → i + 4 ≤ length xs
    → is_free (part i 4 xs) ≡ (eqb (get_or xs i 0) 255 && (eqb (get_or xs (i + 1) 0) 255 && (eqb (get_or xs (i + 2) 0) 255 && eqb (get_or xs (i + 3) 0) 255)))
unfolding is_free
free_four xs i h =
    let a : suc i ≡ i + 1 = omega arith in
    let b : suc (suc i) ≡ i + 2 = omega arith in
    let d : suc (suc (suc i)) ≡ i + 3 = omega arith in
    rw (
      sym a,
      sym b,
      sym d,
      drop-cons xs i 0 (omega arith),
      drop-cons xs (suc i) 0 (omega arith),
      drop-cons xs (suc (suc i)) 0 (omega arith),
      drop-cons xs (suc (suc (suc i))) 0 (omega arith),
    )
    (ap (λ (t : Bool). eqb (get_or xs i 0) 255 && (eqb (get_or xs (suc i) 0) 255 && (eqb (get_or xs (suc (suc i)) 0) 255 && t))) (and_true (eqb (get_or xs (suc (suc (suc i))) 0) 255)))
  where
    and_true : (t : Bool) → (t && true) ≡ t
    and_true true = refl
    and_true false = refl
