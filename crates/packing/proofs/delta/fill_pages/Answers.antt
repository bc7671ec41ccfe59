use lib.ListN.{take}
use Rattle.journal.specs.PlanCode.{packing_of}
use mathlib.Core.Path.{sym, ◌∙◌}
use Rattle.packing.proofs.FillArrays.{keeps_both, keeps_short, fills_delta_lem}
use Rattle.packing.proofs.delta.fill_pages.Goals as goal

pub widen_all-requires : goal.widen_all-requires
widen_all-requires c = (c.requires.3, c.requires.0, c.requires.1, c.requires.2, c.requires.5, c.requires.6, c.requires.7)

pub fill_all-requires : goal.fill_all-requires
fill_all-requires c = (c.requires.4, c.requires.0, c.requires.1, c.requires.5, c.widen_all.ensures.ready)

pub widen_all-requires-2 : goal.widen_all-requires-2
widen_all-requires-2 c = (
  c.requires.3,
  c.requires.0,
  c.requires.1,
  c.requires.2,
  c.requires.5,
  c.fill_all.ensures.ready,
  keeps_short c.args.limit c.args.wholes.now c.args.parts.now (keeps_both c.widen_all.ensures.keeps c.fill_all.ensures.keeps) c.requires.7,
)

pub widen_all-requires-3 : goal.widen_all-requires-3
widen_all-requires-3 c = (
  c.requires.3,
  c.requires.0,
  c.requires.1,
  c.requires.2,
  c.requires.5,
  c.widen_all-2.ensures.ready,
  keeps_short c.args.limit c.args.wholes.now c.args.parts.now
      (keeps_both c.widen_all.ensures.keeps (keeps_both c.fill_all.ensures.keeps c.widen_all-2.ensures.keeps)) c.requires.7,
)

pub shape_of-forms : goal.shape_of-forms
shape_of-forms c = c.widen_all-3.ensures.ready.marks ∙ sym c.requires.6.marks

pub shape_of-targets : goal.shape_of-targets
shape_of-targets c = c.widen_all-3.ensures.ready.nodes ∙ sym c.requires.6.nodes

pub shape_of-rooms : goal.shape_of-rooms
shape_of-rooms c = c.widen_all-3.ensures.ready.pages ∙ sym c.requires.6.pages

pub returns : goal.returns
returns c = fills_delta_lem c.args.wholes.now c.args.parts.now c.args.lens.now c.args.olds.now c.args.limit
    (packing_of (take c.args.count c.args.rooms.now) c.args.targets.now c.args.forms.now) c.widen_all.ensures c.fill_all.ensures c.widen_all-2.ensures c.widen_all-3.ensures
