use mathlib.Core.Path.{◌≡◌}
use Prim.Native.Nat.{◌*◌, ◌≤◌}
use lib.ListN.{drop, length, take}
use Rattle.std.specs.Slice.Iter.{chunks_exact_rest, chunks_exact_size}
use Rattle.contents.proofs.TallyLaws.{Tallying}
use Rattle.contents.proofs.tally.tally.Given as goal

abbrev pub invariant-loop-bytes : goal.invariant-loop-bytes
invariant-loop-bytes l = record {
  size : chunks_exact_size l.bytes-iterator ≡ 12;
  rest : chunks_exact_rest l.bytes-iterator ≡ drop (12 * length l.yielded) (take (12 * l.fn.count) l.buffer);
  within : length l.yielded ≤ l.fn.count;
  tally : Tallying l.limit l.fn.count l.buffer (length l.yielded) l.parts l.resets;
}
