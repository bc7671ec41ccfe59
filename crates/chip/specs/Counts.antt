-- Operations by kind. Document 02, note 4: 'three counts: data programs, marks set, erases'.
use Rattle.std.specs.Prelude.{ℕ, ◌+◌, Bool, true, false, List}
use Rattle.lists.specs.Lists.{count}
use Rattle.chip.specs.declared.operation.Kind as K
use Rattle.chip.specs.declared.operation.Kind.TheVariants.{Program, Mark, Erase}
use Rattle.chip.specs.declared.progress.Counts.{Counts}

-- the same kind
abbrev pub is_kind : K.Kind → K.Kind → Bool
is_kind Program Program = true
is_kind Program Mark = false
is_kind Program Erase = false
is_kind Mark Program = false
is_kind Mark Mark = true
is_kind Mark Erase = false
is_kind Erase Program = false
is_kind Erase Mark = false
is_kind Erase Erase = true

-- how many of each kind
abbrev pub counts_of : List K.Kind → Counts
counts_of ks = record { programs = count (is_kind Program) ks; marks = count (is_kind Mark) ks; erases = count (is_kind Erase) ks }

-- no operation
abbrev pub nothing : Counts
nothing = record { programs = 0; marks = 0; erases = 0 }

-- their sum
abbrev pub total : Counts → ℕ
total c = c.programs + c.marks + c.erases
