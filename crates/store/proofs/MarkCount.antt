-- How many marks a mount sets: an image with a meaning is a chip, and has fewer than 255 void pages. Assumes nothing.
use mathlib.Core.Path.{◌≡◌, refl, ap, ◌∙◌}
use mathlib.Core.Bool.{true}
use mathlib.Core.List.{List, [], ◌∷◌}
use Prim.Native.Nat.{ℕ, ◌*◌, ◌≤◌, ◌<◌}
use native.Mathlib.Omega.{arith}
use lib.Dec.{ltb}
use lib.ListN.{length, get_or}
use borrow.Author.Tests.{ltb-true, ltb-false}
use Rattle.lists.proofs.Tests.{cases, clash}
use Rattle.chip.specs.Geometry.{Geometry, Fits, blocks_of}
use Rattle.chip.specs.Chip.{pages_of}
use Rattle.tree.specs.Tree.{Table}
use Rattle.tree.specs.Step6.{step6}
use Rattle.journal.specs.Mount.{mount_ops}
use Rattle.journal.proofs.MountLaws.{mount_few}
use Rattle.promise.specs.Calls.{means}
use Rattle.promise.specs.Image.{image_meaning}
use Rattle.promise.proofs.Images.{image_tree}
use Rattle.store.proofs.SizeLaws.{chip_of, chip_pages}

-- an image that is no chip has no meaning: it has no node
no_tree : (t : Table) → length t ≡ 0 → step6 t ≡ true → ⊥
unfolding step6
no_tree [] l h = clash h refl
no_tree (w ∷ t) l h = omega arith

pub not_chip : (g : Geometry) (i : List ℕ) → blocks_of g (length i) ≡ 0 → (K : Table) (G : ℕ) → image_meaning g i ≡ means K G → ⊥
not_chip g i e K G m =
    let r = image_tree g i K G m in
    no_tree K (r.size ∙ ap (λ (b : ℕ). 8 * b) e) r.tree.passes

-- an image with a meaning gets fewer than 255 marks
pub marks_few : (g : Geometry) (fit : Fits g) (i : List ℕ) → ((j : ℕ) → get_or i j 0 < 256) → (K : Table) (G : ℕ) → image_meaning g i ≡ means K G → length (mount_ops g (pages_of g i)) ≤ 255
marks_few g fit i bytes K G m =
    cases (ltb 0 (blocks_of g (length i)))
    (λ t. let c = chip_of g (blocks_of g (length i)) (length i) refl (λ z. omega (arith, ltb-true 0 (blocks_of g (length i)) t)) in
    let l = mount_few g i bytes (chip_pages g fit (blocks_of g (length i)) (length i) c) in
    omega arith)
    (λ t. let l = ltb-false 0 (blocks_of g (length i)) t in absurd (not_chip g i (omega arith) K G m))
