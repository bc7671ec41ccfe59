-- The loop of a format over the blocks, and the data of its page. Assumes nothing.
use mathlib.Core.Path.{◌≡◌, sym, ap, ◌∙◌}
use mathlib.Core.List.{List, [], ◌∷◌, ◌++◌, append-nil}
use Prim.Native.Nat.{ℕ, ◌+◌}
use native.Mathlib.Numerals.{add-one}
use native.Mathlib.Omega.{arith}
use Rattle.lists.specs.Lists.{tab}
use Rattle.lists.proofs.Flats.{tab_last}
use Rattle.chip.specs.declared.progress.Progress.{Progress}
use Rattle.chip.specs.Geometry.{Geometry}
use Rattle.chip.specs.Chip.{erase}
use Rattle.chip.specs.RunCode.{Stepped, Ran}
use Rattle.chip.proofs.Runs.{ran_one, ran_append}
use Rattle.pages.specs.Units.{encode}
use Rattle.pages.specs.Data.{laid}
use Rattle.pages.specs.Write.{writes}
use Rattle.journal.specs.Format.{root_reset, format_data, format_ops}

-- one block more
pub erased_more : (g : Geometry) (torn : List ℕ) (b : ℕ) (p q r : Progress) (xs ys zs : List ℕ) → Ran g torn (tab 0 b erase) p q xs ys
    → Stepped g torn (erase b) q r ys zs → Ran g torn (tab 0 (b + 1) erase) p r xs zs
erased_more g torn b p q r xs ys zs a s =
    let e : 0 + b ≡ b = omega arith in
    let t : tab 0 (b + 1) erase ≡ tab 0 b erase ++ (erase b ∷ []) =
    ap (λ (n : ℕ). tab 0 n erase) (add-one b) ∙ tab_last erase 0 b ∙ ap (λ (n : ℕ). tab 0 b erase ++ (erase n ∷ [])) e in
    rw t (ran_append g torn (tab 0 b erase) (erase b ∷ []) p q r xs ys zs a (ran_one g torn (erase b) q r ys zs s))

-- the page of commit 1, laid out from the bytes of its one unit
pub first_data : (g : Geometry) (bytes page : List ℕ) → bytes ≡ encode root_reset → page ≡ laid g 1 0 1 1 bytes → page ≡ format_data g
first_data g bytes page e h = h ∙ ap (laid g 1 0 1 1) (e ∙ sym (append-nil (encode root_reset)))

-- the blocks erased, and then the page written
pub first_written : (g : Geometry) (torn : List ℕ) (b : ℕ) (p q r : Progress) (xs ys zs : List ℕ)
    → Ran g torn (tab 0 b erase) p q xs ys → Ran g torn (writes 0 (format_data g)) q r ys zs → Ran g torn (format_ops g b) p r xs zs
first_written g torn b p q r xs ys zs a w = ran_append g torn (tab 0 b erase) (writes 0 (format_data g)) p q r xs ys zs a w
