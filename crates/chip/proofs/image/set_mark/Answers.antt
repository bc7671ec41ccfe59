use Rattle.std.proofs.Common.{◌≡◌, ℕ, ◌+◌, ◌*◌, ◌/◌, ◌≤◌, length, get_or, refl, ◌∙◌}
use Rattle.lists.specs.Lists.{part}
use Rattle.lists.proofs.Parts.{length_part}
use Rattle.chip.specs.Geometry.{page_size}
use Rattle.chip.specs.Page.{marked}
use Rattle.chip.specs.Chip.{mark}
use Rattle.chip.proofs.PageLaws.{length_marked}
use Rattle.chip.proofs.ImageLaws.{page_stepped}
use Rattle.chip.proofs.Sizes.{page_end, whole_pages}
use Rattle.chip.proofs.image.set_mark.Goals as goal

pub returns : goal.returns
returns c =
    let ends : c.args.at * page_size c.args.geometry + page_size c.args.geometry ≤ length c.args.image.now = page_end c.args.geometry (length c.args.image.now) c.args.at c.requires.0 in
    let size : ℕ = page_size c.args.geometry in
    let x = part (c.args.at * size) size c.args.image.now in
    let len : length x ≡ size = length_part c.args.image.now (c.args.at * size) size ends in
    page_stepped c.args.geometry c.args.image.now (length c.args.image.now / size) refl (whole_pages c.args.geometry (length c.args.image.now) c.requires.1) c.args.torn.now
    (mark c.args.at c.args.mark) c.args.at (marked c.args.geometry c.args.mark 0) (marked c.args.geometry c.args.mark (get_or c.args.torn.now 0 0)) (λ ps. refl) (λ ps. refl)
    c.requires.0 (length_marked c.args.geometry c.args.mark 0 x ∙ len) (length_marked c.args.geometry c.args.mark (get_or c.args.torn.now 0 0) x ∙ len)
    c.args.progress c.after.result c.set_mark-told.result _ c.after.ensures c.set_mark-told.ensures
