use mathlib.Core.Path.{ap, ◌∙◌}
use Rattle.std.specs.Prelude.{option_and_then}
use Rattle.frames.specs.Frames.{framed}
use Rattle.frames.proofs.FrameLaws.{too_long, in_full}
use Rattle.frames.proofs.frame.frame_of.Goals as goal

pub returns-in_err-bytes : goal.returns-in_err-bytes
returns-in_err-bytes c = rw c.from_residual.ensures (too_long c.args.line c.in_err-bytes.ensures)

pub returns-in_err-fields_of : goal.returns-in_err-fields_of
returns-in_err-fields_of c =
    rw c.from_residual-in_err-fields_of.ensures (in_full c.args.line _ _ c.in_ok-bytes.ensures (ap (option_and_then framed) c.in_err-fields_of.ensures))

pub returns : goal.returns
returns c = in_full c.args.line _ _ c.in_ok-bytes.ensures (c.call_of.ensures ∙ ap (option_and_then framed) c.in_ok-fields_of.ensures)
