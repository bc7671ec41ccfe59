-- The erases of each block. Document 02, note 5: 'for each block, a 64-bit figure of the erases done'.
use Rattle.std.specs.Prelude.{ℕ, ◌+◌, ◌%◌, ◌^◌, Bool, false, List, ◌==◌}
use Rattle.lists.specs.Lists.{count, map_from}
use Rattle.chip.specs.Chip.{Op, program, mark, erase}

-- an erase of block b
abbrev pub is_erase_of : ℕ → Op → Bool
is_erase_of b (program p bytes) = false
is_erase_of b (mark p m) = false
is_erase_of b (erase c) = b == c

-- how many of these operations are erases of block b
abbrev pub erases_in : ℕ → List Op → ℕ
erases_in b os = count (is_erase_of b) os

-- the figures of the blocks, from block 0 on, after these operations: each grows by the erases of its block, in 64 bits
abbrev pub figures_after : List Op → List ℕ → List ℕ
figures_after os figures = map_from 0 (λ b n. (n + erases_in b os) % 2 ^ 64) figures
