use Rattle.std.proofs.Common.{◌≤◌, length, sym, ap, ◌∙◌, arith}
use lib.Count.{ones, count_trailing_zeros}
use Rattle.chip.specs.Page.{is_free}
use Rattle.chip.specs.Chip.{pages_of}
use Rattle.chip.proofs.SetLaws.{ones_set, trailing_set, first_none}
use Rattle.chip.proofs.ImageLaws.{block_length}
use Rattle.chip.proofs.block.free_pages.Goals as goal
use Rattle.chip.proofs.block.free_pages.Goals.{then-free-eq0, else-free-eq0}

pub returns : goal.returns
returns c = let ps = pages_of c.args.geometry c.args.block.now in
    let n = block_length c.args.geometry c.args.block.now c.requires.1 c.requires.0 in
    let few : length ps ≤ 64 = omega (arith, n, c.requires.1) in (
      ap ones c.free_set-free.ensures ∙ ones_set is_free ps,
      elim c.if-free-eq0.branch [
        | then-free-eq0 w ↦ w.first-is ∙ sym (first_none is_free ps (sym c.free_set-free.ensures ∙ w.if-free-eq0.true) ∙ n)
        | else-free-eq0 w ↦ w.first-is ∙ ap (count_trailing_zeros 64) c.free_set-free.ensures ∙ trailing_set is_free 64 ps few (λ e. w.if-free-eq0.false (c.free_set-free.ensures ∙ e))
      ],
    )
