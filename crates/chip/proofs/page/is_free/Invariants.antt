use Rattle.std.proofs.Common.{◌≡◌, ◌-◌, ◌%◌, ◌≤◌, length, drop}
use Rattle.std.specs.Slice.Iter.{chunks_exact_rest, chunks_exact_size}
use Rattle.chip.specs.Page.{is_free}
use Rattle.chip.proofs.page.is_free.Given as goal

abbrev pub invariant-loop-four : goal.invariant-loop-four
invariant-loop-four l = record {
  four : chunks_exact_size l.four-iterator ≡ 4;
  within : length (chunks_exact_rest l.four-iterator) ≤ length l.page;
  rest : chunks_exact_rest l.four-iterator ≡ drop (length l.page - length (chunks_exact_rest l.four-iterator)) l.page;
  whole : length (chunks_exact_rest l.four-iterator) % 4 ≡ length l.page % 4;
  free : is_free (chunks_exact_rest l.four-iterator) ≡ is_free l.page;
}
