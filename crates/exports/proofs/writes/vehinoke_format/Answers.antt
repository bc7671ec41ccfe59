use Rattle.chip.specs.Geometry.{Nand}
use Rattle.exports.proofs.CallLaws.{named_part, unnamed_part}
use Rattle.exports.proofs.ExactLaws.{format_narrow}
use Rattle.store.specs.Ensured.{Formats}
use Rattle.exports.proofs.writes.vehinoke_format.Goals as goal

pub returns-then-part-gt1 : goal.returns-then-part-gt1
returns-then-part-gt1 c = unnamed_part (λ (n : Nand). Formats n c.args.allowance c.args.torn.now) c.args.part c.if-part-gt1.true c.args.numbers.now c.args.free.now c.args.lens.now c.args.slots.now c.args.erases.now c.args.image.now _ _ c.no_part.ensures

pub returns : goal.returns
returns c = named_part c.args.numbers.now c.args.free.now c.load_free-n.result c.load_free-n.ensures (λ (n : Nand). Formats n c.args.allowance c.args.torn.now) c.args.part c.part_in-nand.result c.part_in-nand.ensures
    c.if-part-gt1.false c.args.lens.now c.args.slots.now c.args.erases.now c.args.image.now c.format_lent-w.result _ _ _ _ _ _ _ _ c.give_free.ensures.0 c.give_free.ensures.1
    (format_narrow c.part_in-nand.result c.args.allowance c.args.torn.now _ c.args.image.now _ _) c.format_lent-w.ensures
