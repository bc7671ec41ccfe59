use Rattle.std.proofs.Common.{sym, ◌∙◌}
use Rattle.journal.proofs.MountCode.{page_read, retire_none, retire_one_lem}
use Rattle.journal.proofs.mount.retire_at.Goals as goal

pub returns-then-is_of : goal.returns-then-is_of
returns-then-is_of c =
    retire_one_lem c.args.geometry c.args.torn.now c.args.commit c.args.at _ c.args.progress c.set_mark.result c.args.image.now _
    (page_read c.args.geometry c.args.commit c.args.at c.args.image.now c.requires.0 ∙ sym c.is_of.ensures ∙ c.if-is_of.true) c.set_mark.ensures

pub returns-else-is_of : goal.returns-else-is_of
returns-else-is_of c =
    retire_none c.args.geometry c.args.torn.now c.args.commit c.args.at _ c.args.progress c.args.image.now
    (page_read c.args.geometry c.args.commit c.args.at c.args.image.now c.requires.0 ∙ sym c.is_of.ensures ∙ c.if-is_of.false)
