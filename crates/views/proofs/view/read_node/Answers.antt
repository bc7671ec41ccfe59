use mathlib.Core.Path.{ap, ◌∙◌}
use Rattle.views.specs.Stored.{buffer_view}
use Rattle.views.proofs.ViewSteps.{counted, renamed, handed}
use Rattle.views.proofs.view.read_node.Goals as goal

pub returns : goal.returns
returns c = record {
  view = handed c.buffer_view-t.result _ _ _ c.whole-folded.result
      (renamed c.buffer_view-t.result _ _ _ _ c.buffer_view-t.ensures (ap (buffer_view c.args.nodes.limit c.args.number c.args.count c.args.buffer.now) c.slots_view-s.ensures.is))
      c.whole-folded.ensures;
  length = c.counted_pages-pages.ensures.0
      ∙ counted c.args.nodes.geometry c.args.nodes.limit _ c.args.nodes.lens.now c.args.nodes.slots.now c.args.number c.slots_view-s.result.stage _ c.used_slots-used.result
      c.slots_view-s.ensures.is c.used_slots-used.ensures.0;
  few = c.counted_pages-pages.ensures.1;
}
