use Rattle.frames.specs.Frames.{answer_text}
use Rattle.frames.proofs.text.answer_text.Goals as goal

pub returns-in-Some : goal.returns-in-Some
unfolding answer_text
returns-in-Some c = rw (c.in-Ok.is, c.in-Some.is) c.found_text.ensures

pub returns-in-None : goal.returns-in-None
unfolding answer_text
returns-in-None c = rw (c.in-Ok.is, c.in-None.is) c.short_text.ensures

pub returns-in-Err : goal.returns-in-Err
unfolding answer_text
returns-in-Err c = rw c.in-Err.is (rw c.from.ensures at c.short_text-in-Err.ensures)
