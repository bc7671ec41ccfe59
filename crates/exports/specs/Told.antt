-- What look up and block report tell in numbers: the refusal, 0 for none, and two or three numbers, 0 where there are none.
use Rattle.std.specs.Prelude.{ℕ, get_or, Result}
use Rattle.promise.specs.Plain.{Answer, refuses, accepted, tells}
use Rattle.store.specs.Answers.{refusal_in, look_of, pages_told, report_refusal, free_told, first_told, erases_told}
use Rattle.store.specs.declared.answer.Look.{Look}
use Rattle.store.specs.declared.answer.Refusal.{Refusal}
use Rattle.store.specs.declared.answer.Report.{Report}
use Rattle.exports.specs.declared.finds.Told.{Told}
use Rattle.exports.specs.declared.finds.Reported.{Reported}

-- the value that an answer tells, 0 for none
abbrev pub value_in : Answer → ℕ
value_in (refuses n) = 0
value_in accepted = 0
value_in (tells vs) = get_or vs 0 0

abbrev pub look_told : Result Look Refusal → Told
look_told l = record { refusal = refusal_in (look_of l); first = value_in (look_of l); second = pages_told l }

abbrev pub report_told : Result Report Refusal → Reported
report_told r = record { refusal = report_refusal r; free = free_told r; first = first_told r; erases = erases_told r }
