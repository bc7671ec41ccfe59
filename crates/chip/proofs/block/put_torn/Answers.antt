use Rattle.std.proofs.Common.{ℕ, List, set, ◌∙◌, ap₂, arith}
use Rattle.lists.proofs.Parts.{copy_more, copy_done}
use Rattle.chip.specs.Geometry.{page_size}
use Rattle.chip.specs.Page.{torn_page}
use Rattle.chip.proofs.PageLaws.{length_torn}
use Rattle.chip.proofs.block.put_torn.Goals as goal

pub loop-i-preserved : goal.loop-i-preserved
loop-i-preserved c = let t = torn_page c.args.geometry c.args.torn.now in
    ap₂ (λ (p : List ℕ) (x : ℕ). set p c.loop-i.i x) c.loop-i.invariant c.torn_byte.ensures
    ∙ copy_more c.args.page.now t c.loop-i.i 0 (omega (arith, c.requires)) (omega (arith, length_torn c.args.geometry c.args.torn.now c.requires.1))

pub returns : goal.returns
returns c = copy_done c.args.page.now (torn_page c.args.geometry c.args.torn.now) c.loop-i.page c.loop-i.i (page_size c.args.geometry) c.loop-i.invariant (omega arith)
    c.requires.0 (length_torn c.args.geometry c.args.torn.now c.requires.1)
