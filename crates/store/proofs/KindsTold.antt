-- What the counts told say of a call, by its contract alone: a finished format 1, 2, B; a finished commit the pages and erases of its plan; a mount
-- marks alone; a call refused otherwise than with 10 nothing. Assumes nothing.
use mathlib.Core.Path.{◌≡◌, refl, sym, ap, ◌∙◌}
use mathlib.Core.Bool.{true, not, ◌&&◌}
use mathlib.Core.List.{List}
use Prim.Native.Nat.{ℕ, zero, suc, ◌*◌, ◌≤◌, ◌<◌}
use native.Mathlib.Omega.{arith}
use lib.Dec.{leb, ltb}
use lib.ListN.{length, length-map}
use lib.Seq.{take_all}
use borrow.Author.Tests.{leb-true, leb-false, ltb-true, ltb-false}
use Rattle.lists.proofs.Tests.{cases}
use Rattle.chip.specs.declared.progress.Counts.{Counts}
use Rattle.chip.specs.Geometry.{Geometry, blocks_of, Nand, geometry_of}
use Rattle.chip.specs.Counts.{counts_of, nothing, total}
use Rattle.chip.specs.Chip.{Op, kind_of, kinds_of, pages_of}
use Rattle.chip.proofs.CountLaws.{total_nothing}
use Rattle.tree.specs.Thick.{thin}
use Rattle.journal.specs.Format.{format_ops}
use Rattle.journal.proofs.KindLaws.{format_kinds, mount_kinds, commit_kinds}
use Rattle.promise.specs.Plain.{refuses, accepted, commits, formats, first_refusal, is_chip_size, is_torn_size, no_number_left, numbers_refusal, start_refusal}
use Rattle.promise.specs.Plain as Plain
use Rattle.promise.specs.Calls as P
use Rattle.promise.specs.Calls.{Meaning, invalid, means}
use Rattle.promise.specs.Image.{image_meaning}
use Rattle.promise.specs.Steps.{commit}
use Rattle.promise.proofs.Promise.{accepted_not, first_most, when_is}
use Rattle.store.specs.declared.state.State.{State}
use Rattle.store.specs.declared.state.Wrote.{Wrote}
use Rattle.store.specs.Answers.{answer_of}
use Rattle.store.specs.State.{commit_ops, geometry_in, plan_at}
use Rattle.store.specs.Ensured.{index, the_ops, told_of, Proceeds, Formats, Mounts, Commits}
use Rattle.store.proofs.CommitGood.{ops_some}
use Rattle.store.proofs.EndedTests.{other}

-- with an allowance for all operations, all are told
pub all_told : (n : ℕ) (os : List Op) → length os ≤ n → told_of n os ≡ counts_of (kinds_of os)
all_told n os h = ap counts_of (take_all n (kinds_of os) (omega (arith, length-map os kind_of)))

module _ (n : ℕ) (torn : List ℕ) (s : State) (i : List ℕ) (r : Wrote) (i' : List ℕ) where
  -- an accepted call passed the first tests
  passed : (c : Plain.Call) (m : ℕ) → first_refusal s.nand s.on s.blocks c ≡ m
      → P.FirstTests index c s i (answer_of r.answer) r.state i' → answer_of r.answer ≡ accepted → first_refusal s.nand s.on s.blocks c ≡ 0
  passed c zero e f a = e
  passed c (suc m) e f a = absurd (accepted_not (suc m) (sym a ∙ (f.refused m e).0))

  -- and had power for all its operations
  powered : (need : ℕ) → P.OpsTold need n (answer_of r.answer) (total r.ops) → answer_of r.answer ≡ accepted → need ≤ n
  powered need p a =
      cases (leb need n) (λ t. leb-true need n t) (λ t. absurd (accepted_not 10 (sym a ∙ (p.short (leb-false need n t)).0)))

  -- ---- format and mount, as the part named
  module _ (nand : Nand) where
    pub format_refused : Formats nand n torn s i r i' → (k : ℕ) → answer_of r.answer ≡ refuses k → (k ≡ 10 → ⊥) → r.ops ≡ nothing
    format_refused f k a d = total_nothing r.ops (f.says.quiet k a d)

    pub format_told : Formats nand n torn s i r i' → answer_of r.answer ≡ accepted → r.ops ≡ record { programs = 1; marks = 2; erases = blocks_of (geometry_of nand) (length i) }
    format_told f a =
        let z = passed (formats nand n (length i) (length torn)) _ refl f.says.first a in
        f.kinds z
        ∙ all_told n (format_ops (geometry_of nand) (blocks_of (geometry_of nand) (length i))) (powered (length (format_ops (geometry_of nand) (blocks_of (geometry_of nand) (length i)))) (f.says.power z) a)
        ∙ format_kinds (geometry_of nand) (blocks_of (geometry_of nand) (length i))

    pub mount_refused : Mounts nand n torn s i r i' → (k : ℕ) → answer_of r.answer ≡ refuses k → (k ≡ 10 → ⊥) → r.ops ≡ nothing
    mount_refused f k a d = total_nothing r.ops (f.says.quiet k a d)

    -- finished, cut or refused: marks alone
    abbrev MarksAlone : Counts → Type 0
    MarksAlone c = (c.programs ≡ 0) × (c.erases ≡ 0)

    alone : (c : Counts) → c ≡ nothing → MarksAlone c
    alone c e = (ap (λ (d : Counts). d.programs) e, ap (λ (d : Counts). d.erases) e)

    by_meaning : Mounts nand n torn s i r i' → start_refusal (geometry_of nand) (length i) (length torn) ≡ 0
        → (m : Meaning) → image_meaning (geometry_of nand) i ≡ m → MarksAlone r.ops
    by_meaning f z (invalid k) e = alone r.ops (total_nothing r.ops (f.says.refused z k e).1)
    by_meaning f z (means K G) e =
        cases (thin K) (λ t. alone r.ops (total_nothing r.ops (f.says.refused_thin z K G e t).1))
        (λ t. let q = f.kinds z K G e t ∙ mount_kinds (geometry_of nand) n (pages_of (geometry_of nand) i) in
        (ap (λ (d : Counts). d.programs) q, ap (λ (d : Counts). d.erases) q))

    ten_not : (m : ℕ) → start_refusal (geometry_of nand) (length i) (length torn) ≡ suc m → suc m ≡ 10 → ⊥
    ten_not m e t = omega (arith, when_is 1 m (not (is_chip_size (geometry_of nand) (length i) && is_torn_size (geometry_of nand) (length torn))) e, t)

    by_first : Mounts nand n torn s i r i' → (m : ℕ) → start_refusal (geometry_of nand) (length i) (length torn) ≡ m → MarksAlone r.ops
    by_first f zero e = by_meaning f e (image_meaning (geometry_of nand) i) refl
    by_first f (suc m) e = alone r.ops (mount_refused f (suc m) (f.says.first.refused m e).0 (λ t. ten_not m e t))

    pub mount_told : Mounts nand n torn s i r i' → MarksAlone r.ops
    mount_told f = by_first f (start_refusal (geometry_of nand) (length i) (length torn)) refl

  -- ---- commit
  abbrev g : Geometry
  g = geometry_in s

  pub commit_refused : Commits n torn s i r i' → (k : ℕ) → answer_of r.answer ≡ refuses k → (k ≡ 10 → ⊥) → r.ops ≡ nothing
  commit_refused f k a d = total_nothing r.ops (f.says.quiet k a d).0

  -- on any state: accepted or cut, it passed its tests
  abbrev call : Plain.Call
  call = commits n (length i) (length torn)

  tested : Commits n torn s i r i' → (x y : ℕ) → first_refusal s.nand s.on s.blocks call ≡ x → numbers_refusal s.pending s.commit call ≡ y
      → ((k : ℕ) → k ≤ 6 → answer_of r.answer ≡ refuses k → ⊥) → (first_refusal s.nand s.on s.blocks call ≡ 0) × (numbers_refusal s.pending s.commit call ≡ 0)
  tested f (suc x) y e l d =
      let w = first_most s.nand (commit n torn) (length i) s.on s.blocks in
      absurd (d (suc x) (omega arith) (f.says.first.refused x e).0)
  tested f zero (suc y) e l d =
      let w = when_is 6 y (no_number_left s.pending s.commit) l in
      absurd (d (suc y) (omega arith) (f.says.last e y l))
  tested f zero zero e l d = (e, l)

  -- finished with updates pending: a data program and two marks for each page of the plan, and its erases
  pub commit_told : Commits n torn s i r i' → 0 < s.pending → answer_of r.answer ≡ accepted
      → r.ops ≡ record { programs = length (plan_at g s i).written; marks = 2 * length (plan_at g s i).written; erases = length (plan_at g s i).erased }
  commit_told f h a =
      f.kinds c
      ∙ all_told n (the_ops g s i) enough
      ∙ commit_kinds g s.commit (plan_at g s i)
    where
      c : Proceeds n torn s i
      c = let t = tested f _ _ refl refl (λ k l q. accepted_not k (sym a ∙ q)) in record { passes = t.0; numbers = t.1; pending = h }

      able : index.able s i ≡ true
      able = cases (index.able s i) (λ t. t) (λ t. absurd (accepted_not 6 (sym a ∙ f.says.stuck c t)))

      enough : length (the_ops g s i) ≤ n
      enough =
          let p : length (commit_ops g s i) ≤ n = powered (length (commit_ops g s i)) (f.says.power c able) a in
          omega (arith, p, ap length (ops_some g s i h))

  -- cut: the counts add up to the allowance
  pub commit_spent : Commits n torn s i r i' → answer_of r.answer ≡ refuses 10 → total r.ops ≡ n
  commit_spent f a =
      cases (ltb 0 s.pending)
      (λ t. let c : Proceeds n torn s i = record { passes = z.0; numbers = z.1; pending = ltb-true 0 s.pending t } in
      cases (index.able s i)
      (λ b. cases (leb (length (commit_ops g s i)) n)
      (λ l. absurd (accepted_not 10 (sym ((f.says.power c b).enough (leb-true (length (commit_ops g s i)) n l)).0 ∙ a)))
      (λ l. ((f.says.power c b).short (leb-false (length (commit_ops g s i)) n l)).1))
      (λ b. absurd (apart 6 (omega arith) (f.says.stuck c b))))
      (λ t. absurd (accepted_not 10 (sym (f.says.idle z.0 (let h = ltb-false 0 s.pending t in omega arith)).0 ∙ a)))
    where
      apart : (k : ℕ) → k ≤ 6 → answer_of r.answer ≡ refuses k → ⊥
      apart k l q = other 10 k (λ u. omega arith) (sym a ∙ q)

      z : (first_refusal s.nand s.on s.blocks call ≡ 0) × (numbers_refusal s.pending s.commit call ≡ 0)
      z = tested f _ _ refl refl apart
