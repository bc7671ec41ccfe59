-- The states that a finished format, a finished mount and a finished commit give.
use Rattle.std.specs.Prelude.{true, List, ◌∷◌, ℕ, ◌+◌, replicate}
use Rattle.chip.specs.Geometry.{Nand}
use Rattle.store.specs.declared.state.State.{State}

-- with nothing pending, the node table and the free numbers read from the image, and no erase of any block
abbrev pub mounted_state : Nand → ℕ → ℕ → List ℕ → List ℕ → List ℕ → List ℕ → State
mounted_state n b commit free buffer lens slots =
    record { on = true; nand = n; blocks = b; commit = commit; pending = 0; free = free; count = 0; buffer = buffer; lens = lens; slots = slots; erases = replicate 32 0 }

-- node 0 has a list of one page, page 0; all other lists are empty
abbrev pub fresh_state : Nand → ℕ → List ℕ → List ℕ → State
fresh_state n b free buffer = mounted_state n b 1 free buffer (1 ∷ replicate 255 0) (replicate 1024 0)

-- the next commit number, nothing pending, the node table with the pages of the commit, the figures with its erases; the free numbers stay
abbrev pub committed_state : State → List ℕ → List ℕ → List ℕ → State
committed_state s lens slots erases =
    record {
      on = s.on;
      nand = s.nand;
      blocks = s.blocks;
      commit = s.commit + 1;
      pending = 0;
      free = s.free;
      count = 0;
      buffer = s.buffer;
      lens = lens;
      slots = slots;
      erases = erases;
    }
