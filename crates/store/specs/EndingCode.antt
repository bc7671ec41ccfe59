-- What format, mount and commit give back after their operations.
use Rattle.std.specs.Prelude.{cond, Ok, Err}
use Rattle.chip.specs.declared.progress.Counts.{Counts}
use Rattle.chip.specs.declared.progress.Progress.{Progress}
use Rattle.chip.specs.Power.{is_gone}
use Rattle.store.specs.declared.answer.Refusal.{Refusal}
use Rattle.store.specs.declared.answer.Refusal.TheVariants.{Cut}
use Rattle.store.specs.declared.state.State.{State}
use Rattle.store.specs.declared.state.Wrote.{Wrote}
use Rattle.store.specs.State.{turned_off}

-- refused after operations of these counts: the state is off
abbrev pub refused_with : Refusal → Counts → State → Wrote
refused_with e c s = record { answer = Err e; ops = c; state = turned_off s }

-- accepted after operations of these counts
abbrev pub accepted_with : Counts → State → Wrote
accepted_with c s = record { answer = Ok tt; ops = c; state = s }

-- after operations that came so far: the state m where all is done, and the state s, off, where they are cut
abbrev pub ended_with : Progress → State → State → Wrote
ended_with r s m = cond (is_gone r.left) (refused_with Cut r.done s) (accepted_with r.done m)
