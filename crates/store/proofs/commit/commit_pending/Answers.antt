use mathlib.Core.Path.{◌≡◌, refl}
use Prim.Native.Nat.{ℕ, ◌<◌}
use native.Mathlib.Omega.{arith}
use lib.ListN.{length, get_or}
use Rattle.chip.proofs.Sizes.{nand_fits}
use Rattle.store.specs.Parts.{joined, with_free}
use Rattle.store.proofs.CommitTests.{Planning, planning}
use Rattle.store.proofs.EndingLaws.{ended_kept, ended_free}
use Rattle.store.proofs.CommitState.{commit_stuck, commit_ended}
use borrow.Author.Rules.{rules}
use Rattle.store.proofs.commit.commit_pending.Goals as goal

pub execute-e-requires : goal.execute-e-requires
execute-e-requires c =
    let past : (Planning c.args.numbers (length c.args.image.now) (length c.args.torn.now)) = let h : c.args.numbers.commit < 4294967296 = search rules in planning c.args.numbers (length c.args.image.now) (length c.args.torn.now) h c.requires in
    let p = past in
    rw c.basis_of-basis.ensures (p.chip.size, p.chip.least, p.chip.most, p.fits, p.slice, p.number, nand_fits c.args.numbers.nand)

pub returns-in_default : goal.returns-in_default
returns-in_default c =
    let bytes : (j : ℕ) → get_or c.args.image.now j 0 < 256 = (λ j. omega (arith, c.slice_known-1.given j)) in
    let low : c.args.allowance < 4294967296 = search rules in
    let past : (Planning c.args.numbers (length c.args.image.now) (length c.args.torn.now)) = let h : c.args.numbers.commit < 4294967296 = search rules in planning c.args.numbers (length c.args.image.now) (length c.args.torn.now) h c.requires in
    let slots : length c.args.slots.now ≡ 1024 = search rules in
    let figured : length c.args.erases.now ≡ 32 = search rules in
    let g = past in
    rw c.quiet.ensures
    (record {
      kept = refl;
      says = λ free. commit_stuck c.args.allowance c.args.torn.now (joined (with_free c.args.numbers free) c.args.buffer.now c.args.lens.now c.args.slots.now c.args.erases.now) c.args.image.now g.first g.pending g.number g.slice g.fits slots figured bytes _ _ _ _
          c.execute-e.result low c.begin-start.result c.begin-start.ensures (rw c.basis_of-basis.ensures at c.execute-e.ensures) c.in_default.is;
    })

pub overflow_add-n : goal.overflow_add-n
overflow_add-n c =
    let past : (Planning c.args.numbers (length c.args.image.now) (length c.args.torn.now)) = let h : c.args.numbers.commit < 4294967296 = search rules in planning c.args.numbers (length c.args.image.now) (length c.args.torn.now) h c.requires in
    let g = past in
    record { fits = omega (arith, g.number) }

pub returns : goal.returns
returns c =
    let bytes : (j : ℕ) → get_or c.args.image.now j 0 < 256 = (λ j. omega (arith, c.slice_known-1.given j)) in
    let low : c.args.allowance < 4294967296 = search rules in
    let past : (Planning c.args.numbers (length c.args.image.now) (length c.args.torn.now)) = let h : c.args.numbers.commit < 4294967296 = search rules in planning c.args.numbers (length c.args.image.now) (length c.args.torn.now) h c.requires in
    let slots : length c.args.slots.now ≡ 1024 = search rules in
    let figured : length c.args.erases.now ≡ 32 = search rules in
    let g = past in
    let d = c.ended.ensures c.args.buffer.now in
    let s = joined c.args.numbers c.args.buffer.now c.args.lens.now c.args.slots.now c.args.erases.now in
    record {
      kept = ended_kept _ s _ _ d c.args.numbers.free refl refl;
      says = λ free. commit_ended c.args.allowance c.args.torn.now (joined (with_free c.args.numbers free) c.args.buffer.now c.args.lens.now c.args.slots.now c.args.erases.now) c.args.image.now g.first g.pending g.number g.slice g.fits slots figured bytes _ _ _ _
          c.execute-e.result low c.begin-start.result c.begin-start.ensures (rw c.basis_of-basis.ensures at c.execute-e.ensures) _ c.in-Some.is (λ j. omega (arith, c.slice_known-2-1.given j)) _ (ended_free _ s _ _ d free);
    }
