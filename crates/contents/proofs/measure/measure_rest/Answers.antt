use Rattle.std.proofs.Common.{of_calls}
use mathlib.Core.Bool.{not}
use native.Mathlib.Omega.{arith}
use Rattle.chip.specs.Chip.{pages_of}
use Rattle.contents.specs.ContentsCode.{contents_in, is_read}
use Rattle.contents.proofs.MeasureLaws.{all_read, fills_ones}
use Rattle.contents.proofs.measure.measure_rest.Goals as goal

pub returns : goal.returns
returns c = all_read c.args.nodes.limit (contents_in c.args.nodes.geometry c.args.nodes.limit (pages_of c.args.nodes.geometry c.args.nodes.image.now) c.args.nodes.lens.now c.args.nodes.slots.now c.args.count c.args.buffer.now)
    c.args.parts.now c.args.forms.now _ c.args.wholes.now _ c.args.olds.now c.args.units.now _ c.told-forms c.told-wholes c.requires.1 (c.read_nodes.ensures (λ n. not (is_read c.args.parts.now c.args.olds.now n)) (λ n r h e. search of_calls))
    (fills_ones c.args.nodes.limit c.args.forms.now c.fill.new.self (omega (arith, c.told-forms)) (c.fill.ensures.after (λ y e. e)))
