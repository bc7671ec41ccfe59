use Rattle.views.proofs.FoldLaws.{entered, not_full_insert, overfull, spoilt}
use Rattle.views.proofs.fold.insert.Goals as goal

pub returns-then-len-le16 : goal.returns-then-len-le16
returns-then-len-le16 c = entered c.args.s c.args.keys.now c.args.values.now _ _ c.args.key c.args.value c.put-len.result c.in-Full.is c.put-len.ensures c.if-len-le16.true

pub returns-else-len-le16 : goal.returns-else-len-le16
returns-else-len-le16 c = overfull c.args.s c.args.keys.now c.args.values.now _ _ c.spoil.result c.args.key c.args.value c.put-len.result c.in-Full.is c.put-len.ensures
    c.if-len-le16.false c.spoil.ensures

pub returns-in_default : goal.returns-in_default
returns-in_default c = spoilt c.spoil-in_default.result c.args.keys.now c.args.values.now _ c.requires.0 c.requires.1 c.spoil-in_default.ensures (not_full_insert c.args.s.stage _ c.args.key c.args.value c.in_default.not-Full)
