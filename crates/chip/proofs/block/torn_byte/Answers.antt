use Rattle.std.proofs.Common.{sym, ◌∙◌}
use Rattle.chip.proofs.PageLaws.{torn_data, torn_spare, mend_other}
use Rattle.chip.proofs.block.torn_byte.Goals as goal
use Rattle.chip.proofs.block.torn_byte.Goals.{else-geometry-i-via-then-geometry-i+else-byte-eq0, else-geometry-i-via-else-geometry-i}

pub returns-then-byte-eq0 : goal.returns-then-byte-eq0
returns-then-byte-eq0 c = sym (torn_spare c.args.geometry c.args.torn.now c.requires.0 c.args.i c.if-geometry-i.true c.requires.1 ∙ rw c.if-byte-eq0.true)

pub returns-else-geometry-i : goal.returns-else-geometry-i
returns-else-geometry-i c =
    elim c.else-geometry-i.branch [
      | else-geometry-i-via-then-geometry-i+else-byte-eq0 w ↦ sym (torn_spare c.args.geometry c.args.torn.now c.requires.0 c.args.i w.if-geometry-i.true c.requires.1 ∙ mend_other _ w.if-byte-eq0.false)
      | else-geometry-i-via-else-geometry-i w ↦ sym (torn_data c.args.geometry c.args.torn.now c.requires.0 c.args.i w.if-geometry-i.false)
    ]
