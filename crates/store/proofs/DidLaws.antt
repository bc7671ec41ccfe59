-- The operations that the figures are counted from (`operations_of`, `done_by`) are those that the bytes of the image follow, by the contracts alone. Assumes nothing.
use mathlib.Core.Path.{◌≡◌, sym, ap, ◌∙◌, subst}
use mathlib.Core.Bool.{false}
use mathlib.Core.List.{List}
use Prim.Native.Nat.{ℕ, min}
use native.Mathlib.Omega.{arith}
use lib.Dec.{leb}
use lib.ListN.{length, take, length-map}
use lib.Seq.{take_all}
use borrow.Author.Tests.{leb-true, leb-false}
use Rattle.lists.proofs.Tests.{cases}
use Rattle.chip.specs.declared.progress.Counts.{Counts}
use Rattle.chip.specs.Geometry.{Nand, geometry_of}
use Rattle.chip.specs.Counts.{total}
use Rattle.chip.specs.Chip.{Op, kind_of, kinds_of}
use Rattle.chip.proofs.CountLaws.{told_sum}
use Rattle.promise.specs.Plain.{start_refusal}
use Rattle.promise.specs.Calls.{means}
use Rattle.promise.specs.Image.{image_meaning}
use Rattle.promise.specs.Steps.{format, mount, commit}
use Rattle.promise.specs.Erases.{operations_of}
use Rattle.tree.specs.Tree.{Table}
use Rattle.tree.specs.Thick.{thin}
use Rattle.store.specs.declared.state.State.{State}
use Rattle.store.specs.State.{geometry_in}
use Rattle.store.specs.declared.state.Wrote.{Wrote}
use Rattle.store.specs.Ensured.{index, told_of, Proceeds, Formats, Mounts, Commits}
use Rattle.store.specs.Did.{Did}
use Rattle.store.proofs.CommitGood.{ops_some}

-- as many as are told are those that the allowance covers
first_told_lem : (n : ℕ) (os : List Op) (c : Counts) → c ≡ told_of n os → take (total c) os ≡ take n os
first_told_lem n os c e =
    let t : total c ≡ min n (length os) = ap total e ∙ told_sum n (kinds_of os) ∙ ap (min n) (length-map os kind_of) in
    cases (leb (length os) n)
    (λ h. let l = leb-true (length os) n h in
    let z : total c ≡ length os = omega arith in
    rw z (take_all (length os) os (omega arith) ∙ sym (take_all n os l)))
    (λ h. let l = leb-false (length os) n h in
    let z : total c ≡ n = omega arith in
    rw z)

module _ (n : ℕ) (torn : List ℕ) (s : State) (i : List ℕ) (r : Wrote) (i' : List ℕ) where
  pub format_did : (m : Nand) → Formats m n torn s i r i' → start_refusal (geometry_of m) (length i) (length torn) ≡ 0
      → Did (geometry_of m) (operations_of index (format m n torn) s i) n torn i (total r.ops) i'
  format_did m f z = record { whole = first_told_lem n _ r.ops (f.kinds z); bytes = f.bytes z }

  pub mount_did : (m : Nand) → Mounts m n torn s i r i' → start_refusal (geometry_of m) (length i) (length torn) ≡ 0 → (K : Table) (G : ℕ)
      → image_meaning (geometry_of m) i ≡ means K G → thin K ≡ false → Did (geometry_of m) (operations_of index (mount m n torn) s i) n torn i (total r.ops) i'
  mount_did m f z K G e h = record { whole = first_told_lem n _ r.ops (f.kinds z K G e h); bytes = f.bytes z K G e h }

  pub commit_did : Commits n torn s i r i' → Proceeds n torn s i → Did (geometry_in s) (operations_of index (commit n torn) s i) n torn i (total r.ops) i'
  commit_did f c =
      subst (λ (os : List Op). Did (geometry_in s) os n torn i (total r.ops) i') (sym (ops_some (geometry_in s) s i c.pending))
      (record { whole = first_told_lem n _ r.ops (f.kinds c); bytes = f.bytes c })
