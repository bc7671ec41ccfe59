use mathlib.Core.Path.{◌≡◌, sym, ap, ◌∙◌}
use mathlib.Core.List.{[], ◌∷◌, ◌++◌}
use Prim.Native.Nat.{ℕ, ◌+◌, ◌*◌}
use native.Mathlib.Omega.{arith}
use lib.ListN.{drop, length, take}
use Rattle.std.specs.Slice.Iter.{chunks_exact_rest}
use Rattle.std.proofs.Common.{rules}
use Rattle.std.proofs.lemmas.List.{length_push}
use Rattle.contents.proofs.OwnLaws.{next_unit, last_unit}
use Rattle.contents.proofs.TallyLaws.{tallying_start, tallying_next, tallying_done}
use Rattle.contents.proofs.tally.tally.Goals as goal

pub loop-bytes-init : goal.loop-bytes-init
loop-bytes-init c = record {
  size = search rules;
  rest = search rules;
  within = omega arith;
  tally = tallying_start c.args.limit c.args.count c.args.buffer.now c.args.parts.now c.args.resets.now c.requires.2 c.requires.3;
}

pub tally_unit-requires : goal.tally_unit-requires
tally_unit-requires c = let s = c.in-Some.ensures.steps in
    let u = next_unit c.args.limit c.args.count c.args.buffer.now (omega (arith, c.told-buffer)) (length c.loop-bytes.yielded) c.in-Some.bytes.now (chunks_exact_rest c.next.new.self)
    (sym c.loop-bytes.invariant.rest ∙ s.1.0) (s.1.1 ∙ c.loop-bytes.invariant.size) in (
      omega (arith, s.1.1, c.loop-bytes.invariant.size),
      c.requires.1,
      c.loop-bytes.invariant.tally.numbers,
      c.loop-bytes.invariant.tally.marks,
      λ n. omega (arith, c.loop-bytes.invariant.tally.few n, u.below, c.requires.0),
    )

pub loop-bytes-preserved : goal.loop-bytes-preserved
loop-bytes-preserved c = let s = c.in-Some.ensures.steps in
    let i : ℕ = length c.loop-bytes.yielded in
    let k : length (c.loop-bytes.yielded ++ (c.in-Some.bytes ∷ [])) ≡ i + 1 = length_push c.loop-bytes.yielded c.in-Some.bytes in
    let u = next_unit c.args.limit c.args.count c.args.buffer.now (omega (arith, c.told-buffer)) i c.in-Some.bytes.now (chunks_exact_rest c.next.new.self)
    (sym c.loop-bytes.invariant.rest ∙ s.1.0) (s.1.1 ∙ c.loop-bytes.invariant.size) in
    record {
      size = s.0 ∙ c.loop-bytes.invariant.size;
      rest = u.rest ∙ ap (λ (n : ℕ). drop (12 * n) (take (12 * c.args.count) c.args.buffer.now)) (sym k);
      within = omega (arith, k, u.below);
      tally = rw k (tallying_next c.args.limit c.args.count c.args.buffer.now i c.loop-bytes.parts c.loop-bytes.resets _ _ _ c.loop-bytes.invariant.tally u.below c.requires.1 u.same
          c.tally_unit.ensures.0 c.tally_unit.ensures.1);
    }

pub returns : goal.returns
returns c = let s = c.in-None.ensures.steps in
    let i : ℕ = length c.loop-bytes.yielded in
    let e = last_unit c.args.limit c.args.count c.args.buffer.now (omega (arith, c.told-buffer)) i (rw (← c.loop-bytes.invariant.rest, ← c.loop-bytes.invariant.size) s.1.0) in
    tallying_done c.args.limit c.args.count c.args.buffer.now i c.loop-bytes.parts c.loop-bytes.resets c.loop-bytes.invariant.tally c.loop-bytes.invariant.within e c.requires.0
