-- The words of a state read back as its numbers: a call leaves blocks and units below 2 to the power 32. Assumes nothing.
use mathlib.Core.Path.{◌≡◌, refl, sym, subst}
use mathlib.Core.Bool.{Bool, true, false}
use mathlib.Core.Logic.{⊎_elim}
use mathlib.Core.List.{List}
use Prim.Native.Nat.{ℕ, zero, suc, ◌%◌, ◌<◌}
use native.Mathlib.Omega.{arith}
use lib.Dec.{eqb}
use lib.ListN.{length}
use Rattle.lists.proofs.Tests.{below_or_not, cases}
use Rattle.chip.specs.declared.geometry.Nand.TheVariants.{Small, Large}
use Rattle.chip.specs.Geometry.{Nand, geometry_of, blocks_of}
use Rattle.chip.proofs.Sizes.{chip_size}
use Rattle.tree.specs.Thick.{thin}
use Rattle.promise.specs.Plain.{formats, mounts, first_refusal, last_number, start_refusal}
use Rattle.promise.specs.Calls.{Meaning, invalid, means, Rebuilding}
use Rattle.promise.specs.Image.{image_meaning}
use Rattle.store.specs.declared.state.Numbers as N
use Rattle.store.specs.declared.state.State.{State}
use Rattle.store.specs.declared.state.Wrote.{Wrote}
use Rattle.store.specs.State.{turned_off, geometry_in, Good}
use Rattle.store.specs.Ensured.{index, Formats, Mounts, Rebuilds, KeepsBounds}
use Rattle.store.specs.Rebuild.{has_free_blocks}
use Rattle.exports.specs.Words.{bit, part_in, part_word, numbers_in, words_of}

-- blocks and units of a state in 32 bits
pub record Narrow (s : State) : Type 0 where
  pub blocks : s.blocks < 4294967296
  pub units : s.count < 4294967296

bit_back : (b : Bool) → eqb (bit b) 1 ≡ b
bit_back true = refl
bit_back false = refl

pub part_back : (m : Nand) → part_in (part_word m) ≡ m
part_back Small = refl
part_back Large = refl

narrow_back : (n : ℕ) → n < 4294967296 → n % 4294967296 ≡ n
narrow_back n h = omega arith

-- numbers with parts that are theirs
made : (n : N.Numbers) (o : Bool) (m : Nand) (b u : ℕ) → o ≡ n.on → m ≡ n.nand → b ≡ n.blocks → u ≡ n.count
    → ◌≡◌ {A = N.Numbers} (record { on = o; nand = m; blocks = b; commit = n.commit; pending = n.pending; free = n.free; count = u }) n
made n o m b u e d f g = rw (e, d, f, g) refl

-- what is written is read
pub words_back : (n : N.Numbers) → n.blocks < 4294967296 → n.count < 4294967296 → numbers_in (words_of n) n.free ≡ n
words_back n h k = made n _ _ _ _ (bit_back n.on) (part_back n.nand) (narrow_back n.blocks h) (narrow_back n.count k)

-- ---- what each call leaves, on any state
same_narrow : (s s' : State) → s' ≡ s → Narrow s → Narrow s'
same_narrow s s' e h = subst Narrow (sym e) h

pub bounds_narrow : (s s' : State) → KeepsBounds s s' → Narrow s → Narrow s'
bounds_narrow s s' b h = record { blocks = omega (arith, b.blocks, h.blocks); units = omega (arith, b.units, h.units) }

good_narrow : (s : State) (i : List ℕ) → Good (geometry_in s) s i → Narrow s
good_narrow s i g =
    let z = chip_size (geometry_in s) (length i) s.blocks g.blocks (λ e. omega (arith, g.chip)) in
    record { blocks = omega (arith, z.most); units = omega (arith, g.few, g.pending) }

module _ (m : Nand) (n : ℕ) (torn : List ℕ) (s : State) (i : List ℕ) (r : Wrote) (i' : List ℕ) (h : Narrow s) where
  off_narrow : r.state ≡ turned_off s → Narrow r.state
  off_narrow e = subst Narrow (sym e) (record { blocks = h.blocks; units = h.units })

  format_by : Formats m n torn s i r i' → (k : ℕ) → first_refusal s.nand s.on s.blocks (formats m n (length i) (length torn)) ≡ k → Narrow r.state
  format_by f (suc k) e = same_narrow s r.state (f.says.first.refused k e).1.state h
  format_by f zero e =
      ⊎_elim (λ l. off_narrow (f.off ((f.says.power e).short l).0)) (λ l. good_narrow r.state i' (f.says.done e l).2)
      (below_or_not n (length (index.format_ops m (blocks_of (geometry_of m) (length i)))))

  pub format_narrow : Formats m n torn s i r i' → Narrow r.state
  format_narrow f = format_by f _ refl

  mount_by : Mounts m n torn s i r i' → (k : ℕ) → first_refusal s.nand s.on s.blocks (mounts m n (length i) (length torn)) ≡ k
      → (v : Meaning) → image_meaning (geometry_of m) i ≡ v → Narrow r.state
  mount_by f (suc k) e v q = same_narrow s r.state (f.says.first.refused k e).1.state h
  mount_by f zero e (invalid k) q = off_narrow (f.off e k (f.says.refused e k q).0)
  mount_by f zero e (means K G) q =
      cases (thin K) (λ t. off_narrow (f.off e 12 (f.says.refused_thin e K G q t).0))
      (λ t. ⊎_elim (λ l. off_narrow (f.off e 10 ((f.says.power e K G q t).short l).0)) (λ l. good_narrow r.state i' (f.says.done e K G q t l).1)
      (below_or_not n (length (index.mount_ops m i))))

  pub mount_narrow : Mounts m n torn s i r i' → Narrow r.state
  mount_narrow f = mount_by f _ refl _ refl

  rebuild_by : Rebuilds m n torn s i r i' → (k : ℕ) → start_refusal (geometry_of m) (length i) (length torn) ≡ k → (v : Meaning) → image_meaning (geometry_of m) i ≡ v → Narrow r.state
  rebuild_by f (suc k) e v q = same_narrow s r.state (f.says.size k e).2.state h
  rebuild_by f zero e (invalid k) q = off_narrow (f.off e k q)
  rebuild_by f zero e (means K G) q =
      ⊎_elim
      (λ (l : G < last_number). cases (has_free_blocks (geometry_of m) i)
      (λ t. let b : Rebuilding index m torn i K G = record { sizes = e; image = q; number = l; blocks = t } in
      ⊎_elim (λ k. off_narrow (f.cut ((f.says.power K G b).short k).0)) (λ k. good_narrow r.state i' (f.says.done K G b k).2)
      (below_or_not n (length (index.rebuild_ops m i))))
      (λ t. same_narrow s r.state (f.says.full e K G q l t).2.state h))
      (λ l. same_narrow s r.state (f.says.last e K G q l).2.state h)
      (below_or_not G last_number)

  pub rebuild_narrow : Rebuilds m n torn s i r i' → Narrow r.state
  rebuild_narrow f = rebuild_by f _ refl _ refl
