use Rattle.contents.proofs.OwnLaws.{own_here, own_other}
use Rattle.contents.proofs.own.own_unit.Goals as goal

pub returns-then-read_half-number : goal.returns-then-read_half-number
returns-then-read_half-number c = own_here c.args.limit c.args.number c.read_half.result c.args.bytes.now c.decode_unit.result c.read_half.ensures.0 c.if-read_half-number.true c.decode_unit.ensures

pub returns : goal.returns
returns c = own_other c.args.limit c.args.number c.read_half.result c.args.bytes.now c.read_half.ensures.0 c.if-read_half-number.false
