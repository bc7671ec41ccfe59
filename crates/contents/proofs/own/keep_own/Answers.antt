use mathlib.Core.Path.{◌≡◌, sym, ap, ◌∙◌}
use mathlib.Core.List.{[], ◌∷◌, ◌++◌}
use Prim.Native.Nat.{ℕ, ◌+◌, ◌*◌}
use lib.ListN.{drop, length, take}
use Rattle.std.specs.Slice.Iter.{chunks_exact_rest}
use Rattle.std.proofs.Common.{rules}
use Rattle.std.proofs.lemmas.List.{length_push}
use Rattle.contents.proofs.OwnLaws.{next_unit, last_unit}
use Rattle.contents.proofs.KeepLaws.{keeping_start, keeping_next, keeping_done}
use Rattle.contents.proofs.own.keep_own.Goals as goal

pub loop-bytes-init : goal.loop-bytes-init
loop-bytes-init c = record {
  size = search rules;
  rest = search rules;
  keeping = keeping_start c.args.limit c.args.number c.args.count c.args.buffer.now c.args.units.now c.requires.2;
}

pub loop-bytes-preserved : goal.loop-bytes-preserved
loop-bytes-preserved c = let s = c.in-Some.ensures.steps in
    let i : ℕ = length c.loop-bytes.yielded in
    let k : length (c.loop-bytes.yielded ++ (c.in-Some.bytes ∷ [])) ≡ i + 1 = length_push c.loop-bytes.yielded c.in-Some.bytes in
    let u = next_unit c.args.limit c.args.count c.args.buffer.now c.requires.0 i c.in-Some.bytes.now (chunks_exact_rest c.next.new.self)
    (sym c.loop-bytes.invariant.rest ∙ s.1.0) (s.1.1 ∙ c.loop-bytes.invariant.size) in
    record {
      size = s.0 ∙ c.loop-bytes.invariant.size;
      rest = u.rest ∙ ap (λ (n : ℕ). drop (12 * n) (take (12 * c.args.count) c.args.buffer.now)) (sym k);
      keeping = rw k (keeping_next c.args.limit c.args.number c.args.count c.args.buffer.now c.args.units.now i c.loop-bytes.k c.keep_one-k.result c.loop-bytes.units _ c.requires.1
          u.below c.loop-bytes.invariant.keeping (rw u.same at c.keep_one-k.ensures));
    }

pub returns : goal.returns
returns c = let s = c.in-None.ensures.steps in
    let i : ℕ = length c.loop-bytes.yielded in
    let e = last_unit c.args.limit c.args.count c.args.buffer.now c.requires.0 i (rw (← c.loop-bytes.invariant.rest, ← c.loop-bytes.invariant.size) s.1.0) in
    keeping_done c.args.limit c.args.number c.args.count c.args.buffer.now c.args.units.now i c.loop-bytes.k c.loop-bytes.units c.requires.1 c.requires.2 e c.loop-bytes.invariant.keeping
