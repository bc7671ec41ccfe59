use Rattle.views.proofs.FoldLaws.{left_out, not_full_delete, spoilt}
use Rattle.views.proofs.fold.delete.Goals as goal

pub returns-in-Full : goal.returns-in-Full
returns-in-Full c = left_out c.args.s c.args.keys.now c.args.values.now _ _ c.args.key c.take_out-len.result c.in-Full.is c.take_out-len.ensures c.requires.2

pub returns-in_default : goal.returns-in_default
returns-in_default c = spoilt c.spoil.result c.args.keys.now c.args.values.now _ c.requires.0 c.requires.1 c.spoil.ensures (not_full_delete c.args.s.stage _ c.args.key c.in_default.not-Full)
