use Rattle.std.proofs.Common.{sym, ◌∙◌, eq-eqb, ne_eqb}
use Rattle.chip.proofs.BlockLaws.{blank_block}
use Rattle.chip.proofs.block.erase.Goals as goal
use Rattle.chip.proofs.block.erase.Goals.{in-Whole, in-Torn+then-torn-ne0, in-Torn+else-torn-ne0, in-Nothing}

pub returns : goal.returns
returns c = record {
  told = c.tell.ensures;
  left = elim c.match-next.branch [
    | in-Whole w ↦ rw (w.block-is, sym c.next.ensures ∙ w.in-Whole.is) (w.fill.ensures.after (λ y e. e) ∙ blank_block c.args.geometry c.args.block.now c.requires.0)
    | in-Torn+then-torn-ne0 w ↦ rw (w.block-is, sym c.next.ensures ∙ w.in-Torn.is, ne_eqb _ _ w.if-torn-ne0.true) w.fill_torn.ensures
    | in-Torn+else-torn-ne0 w ↦ rw (w.block-is, sym c.next.ensures ∙ w.in-Torn.is, eq-eqb _ _ w.if-torn-ne0.false)
    | in-Nothing w ↦ rw (w.block-is, sym c.next.ensures ∙ w.in-Nothing.is)
  ];
}
