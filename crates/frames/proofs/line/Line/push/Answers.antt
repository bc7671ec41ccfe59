use Rattle.std.proofs.Common.{rules, ◌≡◌, length}
use Rattle.frames.proofs.LineLaws.{pushed, passed}
use Rattle.frames.proofs.line.Line.push.Goals as goal

pub returns-then-self-lt18 : goal.returns-then-self-lt18
returns-then-self-lt18 c = let s : length c.args.self.now.bytes ≡ 18 = search rules in pushed c.args.self.now c.args.byte s c.if-self-lt18.true

pub returns-else-self-lt18 : goal.returns-else-self-lt18
returns-else-self-lt18 c = let s : length c.args.self.now.bytes ≡ 18 = search rules in passed c.args.self.now c.args.byte s c.if-self-lt18.false
