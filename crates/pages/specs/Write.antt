-- Writing a page: used mark, data, valid mark.
use Rattle.std.specs.Prelude.{List, [], ◌∷◌, ℕ}
use Rattle.chip.specs.declared.page.Mark.TheVariants.{Used, Valid}
use Rattle.chip.specs.Chip.{Op, program, mark}

-- the operations that write page p
abbrev pub writes : ℕ → List ℕ → List Op
writes p bytes = mark p Used ∷ program p bytes ∷ mark p Valid ∷ []
