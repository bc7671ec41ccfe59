use borrow.Author.Tests.{not-true, not-false}
use Rattle.views.proofs.ReadLaws.{refused_units, read_table}
use Rattle.views.proofs.read.read_nodes.Goals as goal

pub returns-then-not-note_all : goal.returns-then-not-note_all
returns-then-not-note_all c = λ v xs st ek. refused_units c.args.geometry c.args.image.now c.requires.1 v xs st c.args.limit _ _ _ _ _ c.note_all.result ek c.clear.ensures c.note_all.ensures (not-true _ c.if-not-note_all.true-raw)

pub returns : goal.returns
returns c = λ v xs st ek. read_table c.args.geometry c.args.image.now c.requires.1 v xs st c.args.limit _ _ _ _ _ c.note_all.result ek c.clear.ensures c.note_all.ensures
    (not-false _ c.if-not-note_all.false-raw) c.requires.4 c.all_well.result c.all_well.ensures
