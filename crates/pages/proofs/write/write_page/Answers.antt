use Rattle.pages.proofs.WriteLaws.{written_steps}
use Rattle.pages.proofs.write.write_page.Goals as goal

pub returns : goal.returns
returns c = written_steps c.args.geometry c.args.torn.now c.args.bytes.now c.args.progress c.after-used.result c.after-filled.result c.after.result
    c.set_mark.result c.program.result c.set_mark-2.result c.args.page.now _ _ _
    c.after-used.ensures c.after-filled.ensures c.after.ensures c.set_mark.ensures c.program.ensures c.set_mark-2.ensures
