use Rattle.exports.proofs.CallLaws.{reported}
use Rattle.exports.proofs.finds.vehinoke_block_report.Goals as goal

pub returns : goal.returns
returns c = reported c.args.numbers.now _ c.load-n.result c.load-n.ensures c.args.block c.args.erases.now c.args.image.now
    c.block_report_lent.result c.report_told-t.result c.report_told-t.ensures c.block_report_lent.ensures
