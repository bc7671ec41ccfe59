-- The lines that the probe writes, as lists of bytes with their line feed.
use Rattle.std.specs.Prelude.{List, [], ◌∷◌, ◌++◌, ℕ, Option, Some, None, Result, Ok, Err}
use Rattle.lists.specs.Lists.{flat}
use Rattle.chip.specs.declared.progress.Counts.{Counts}
use Rattle.frames.specs.Frames.{hex_text}
use Rattle.store.specs.declared.answer.Look.{Look}
use Rattle.store.specs.declared.answer.Refusal.{Refusal}
use Rattle.store.specs.declared.answer.Report.{Report}
use Rattle.store.specs.Answers.{number_of}

-- a line feed
abbrev pub feed : List ℕ
feed = 10 ∷ []

-- a refusal alone; 255 makes FF
abbrev pub short_line : ℕ → List ℕ
short_line refusal = hex_text refusal 2 ++ feed

-- a refusal and a number
abbrev pub counted_line : ℕ → ℕ → List ℕ
counted_line refusal n = hex_text refusal 2 ++ (hex_text n 8 ++ feed)

-- a refusal and the operations done by kind: data programs, marks set, erases
abbrev pub counts_line : ℕ → Counts → List ℕ
counts_line refusal c = hex_text refusal 2 ++ (hex_text c.programs 8 ++ (hex_text c.marks 8 ++ (hex_text c.erases 8 ++ feed)))

-- a value found and the pages read
abbrev pub found_line : ℕ → ℕ → List ℕ
found_line value pages = hex_text 0 2 ++ (hex_text value 8 ++ short_line pages)

-- a value and the pages read when found, 04 and the pages read when absent, a refusal alone
abbrev pub value_line : Option ℕ → ℕ → List ℕ
value_line (Some value) pages = found_line value pages
value_line None pages = hex_text 4 2 ++ short_line pages

abbrev pub look_line : Result Look Refusal → List ℕ
look_line (Ok l) = value_line l.value l.pages
look_line (Err e) = short_line (number_of e)

-- the free pages, the first of them and the erases of the block, or a refusal
abbrev pub report_line : Result Report Refusal → List ℕ
report_line (Ok r) = hex_text 0 2 ++ (hex_text r.free 2 ++ (hex_text r.first 2 ++ (hex_text r.erases 16 ++ feed)))
report_line (Err e) = short_line (number_of e)

-- bytes, two digits each
abbrev pub bytes_text : List ℕ → List ℕ
bytes_text bs = flat (λ b. hex_text b 2) bs

-- the bytes of a part that is shown
abbrev pub shown_line : List ℕ → List ℕ
shown_line bs = hex_text 0 2 ++ (bytes_text bs ++ feed)
