use Rattle.std.proofs.Common.{of_calls}
use Rattle.chip.specs.Chip.{pages_of}
use Rattle.contents.specs.ContentsCode.{is_read}
use Rattle.contents.proofs.MeasureLaws.{measured}
use Rattle.contents.proofs.measure.measure.Goals as goal

pub returns : goal.returns
returns c = measured c.args.nodes.geometry c.args.nodes.limit c.args.oldest (pages_of c.args.nodes.geometry c.args.nodes.image.now) c.args.nodes.lens.now c.args.nodes.slots.now c.args.count c.args.buffer.now c.args.parts.now c.args.forms.now _
    c.args.wholes.now _ c.args.olds.now _ c.args.units.now _ c.requires.0 c.requires.1 c.requires.2 c.told-olds c.mark_olds.ensures (c.read_nodes.ensures (is_read c.args.parts.now c.mark_olds.new.olds) (λ n r h e. search of_calls)) c.mark_forms.ensures
