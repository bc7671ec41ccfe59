-- What the answers of the code are in the requirement's numbers and values.
use Rattle.std.specs.Prelude.{ℕ, Option, Some, None, Result, Ok, Err}
use Rattle.chip.specs.declared.progress.Counts.{Counts}
use Rattle.chip.specs.Counts.{nothing}
use Rattle.promise.specs.Plain as P
use Rattle.store.specs.declared.answer.Look.{Look}
use Rattle.store.specs.declared.answer.Refusal.{Refusal}
use Rattle.store.specs.declared.answer.Refusal.TheVariants.{Size, Off, Full, Absent, Nodes, Last, Blank, Layout, Shape, Cut, Thin}
use Rattle.store.specs.declared.answer.Report.{Report}

-- 1 size, 2 off, 3 sixteen are pending, 4 absent, 5 node numbers used up, 6 commit numbers used up, 7 no standing page,
-- 8 the layout, 9 the tree, 10 power gone, 12 a thin tree
abbrev pub number_of : Refusal → ℕ
number_of Size = 1
number_of Off = 2
number_of Full = 3
number_of Absent = 4
number_of Nodes = 5
number_of Last = 6
number_of Blank = 7
number_of Layout = 8
number_of Shape = 9
number_of Cut = 10
number_of Thin = 12

-- accepted or refused
abbrev pub Answer : Type 0
Answer = Result (Unit {0}) Refusal

abbrev pub answer_of : Answer → P.Answer
answer_of (Ok u) = P.accepted
answer_of (Err e) = P.refuses (number_of e)

-- the number of a refusal, 0 for none
abbrev pub refusal_in : P.Answer → ℕ
refusal_in (P.refuses n) = n
refusal_in P.accepted = 0
refusal_in (P.tells vs) = 0

-- the number of the refusal of an answer, 0 where it is Ok, whatever it gives
abbrev pub refusal_number : {A : Type 0} → Result A Refusal → ℕ
refusal_number (Ok x) = 0
refusal_number (Err e) = number_of e

-- what a step tells: accepted, with the value that a look up found, or refused
abbrev pub Told : Type 0
Told = Result (Option ℕ) Refusal

abbrev pub found_of : Option ℕ → P.Answer
found_of (Some v) = P.finds v
found_of None = P.accepted

abbrev pub step_answer : Told → P.Answer
step_answer (Ok t) = found_of t
step_answer (Err e) = P.refuses (number_of e)

-- the value that a look up found, or its refusal
abbrev pub value_of : Option ℕ → P.Answer
value_of (Some v) = P.finds v
value_of None = P.refuses 4

abbrev pub look_of : Result Look Refusal → P.Answer
look_of (Ok l) = value_of l.value
look_of (Err e) = P.refuses (number_of e)

-- the pages read that it tells, with a value or with 4
abbrev pub pages_told : Result Look Refusal → ℕ
pages_told (Ok l) = l.pages
pages_told (Err e) = 0

-- the refusal of a block report, 0 for none
abbrev pub report_refusal : Result Report Refusal → ℕ
report_refusal (Ok r) = 0
report_refusal (Err e) = number_of e

-- the free pages and the first free page that it tells
abbrev pub free_told : Result Report Refusal → ℕ
free_told (Ok r) = r.free
free_told (Err e) = 0

abbrev pub first_told : Result Report Refusal → ℕ
first_told (Ok r) = r.first
first_told (Err e) = 0

-- and the erases of the block
abbrev pub erases_told : Result Report Refusal → ℕ
erases_told (Ok r) = r.erases
erases_told (Err e) = 0

-- what a forecast answers, and the operations that it tells: none with a refusal
abbrev pub forecast_answer : Result Counts Refusal → Answer
forecast_answer (Ok ops) = Ok tt
forecast_answer (Err e) = Err e

abbrev pub ops_foretold : Result Counts Refusal → Counts
ops_foretold (Ok ops) = ops
ops_foretold (Err e) = nothing
