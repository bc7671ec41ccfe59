use mathlib.Core.Path.{ap, ◌∙◌}
use Rattle.store.specs.declared.state.WroteParts.{WroteParts}
use Rattle.store.specs.Parts.{joined, wrote_with}
use Rattle.store.proofs.EndingLaws.{ended_cut, ended_done}
use Rattle.store.proofs.ending.ended.Goals as goal

pub returns-then-gone : goal.returns-then-gone
returns-then-gone c buffer = let s = joined c.args.numbers buffer c.args.lens.now c.args.slots.now c.args.erases.now in
    let m = joined c.args.after buffer c.args.new_lens.now c.args.new_slots.now c.args.new_erases.now in
    ap (λ (q : WroteParts). wrote_with q buffer c.args.lens.now c.args.slots.now c.args.erases.now) c.cut.ensures
    ∙ ended_cut c.args.reached s m c.gone.result c.gone.ensures c.if-gone.true

pub returns : goal.returns
returns c buffer = let s = joined c.args.numbers buffer c.args.lens.now c.args.slots.now c.args.erases.now in
    let m = joined c.args.after buffer c.args.new_lens.now c.args.new_slots.now c.args.new_erases.now in
    ended_done c.args.reached s m c.gone.result c.gone.ensures c.if-gone.false
