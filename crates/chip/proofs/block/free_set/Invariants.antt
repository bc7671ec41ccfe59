use Rattle.std.proofs.Common.{◌≡◌, ◌*◌, ◌≤◌, take, drop}
use Rattle.std.specs.Slice.Iter.{chunks_exact_rest, chunks_exact_size}
use Rattle.lists.specs.Lists.{cut}
use Rattle.chip.specs.Page.{is_free}
use Rattle.chip.specs.SetCode.{set_of}
use Rattle.chip.proofs.block.free_set.Given as goal

abbrev pub invariant-loop-i : goal.invariant-loop-i
invariant-loop-i l = record {
  size : chunks_exact_size l.i-iterator.iter ≡ l.size;
  rest : chunks_exact_rest l.i-iterator.iter ≡ drop (l.i-iterator.count * l.size) l.block;
  within : l.i-iterator.count ≤ l.fn.geometry.pages;
  free : l.free ≡ set_of is_free (take l.i-iterator.count (cut l.size l.fn.geometry.pages l.block));
}
