use Rattle.views.proofs.TableLaws.{page_noted}
use Rattle.views.proofs.table.note_page.Goals as goal

pub returns : goal.returns
returns c = page_noted c.args.limit c.args.place c.read_half-count.result c.args.page.now c.args.lens.now c.args.slots.now _ _ _ c.read_half-count.ensures.0 c.note_units.ensures
