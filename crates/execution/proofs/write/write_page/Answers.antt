use Rattle.std.proofs.Common.{◌≡◌, length, ◌∙◌, arith, rules}
use Rattle.plan.proofs.PlaceLaws.{take_at_all}
use Rattle.execution.proofs.WriteLaws.{front_in, lent_front, writes_page}
use Rattle.execution.proofs.write.write_page.Goals as goal

pub slice_bounds-put_page-end : goal.slice_bounds-put_page-end
slice_bounds-put_page-end c =
    let size : length c.build_page.new.page ≡ c.args.part.pages.geometry.area = c.build_page.auto.page ∙ search rules in
    front_in _ c.build_page.new.page _ size

pub put_page-requires : goal.put_page-requires
put_page-requires c = let i = take_at_all c.args.places.now c.args.part.pages.total c.args.part.index (omega (arith, c.told-places, c.requires)) c.requires.3 c.requires.6 in
    (i, c.requires.0, search rules, c.requires.1, c.requires.5, c.requires.7)

pub returns : goal.returns
returns c =
    let size : length c.build_page.new.page ≡ c.args.part.pages.geometry.area = c.build_page.auto.page ∙ search rules in
    writes_page c.args.part.pages c.args.targets.now c.args.sizes.now c.args.units.now c.args.torn.now c.args.places.now c.args.part.index
    c.requires.4 c.requires.3 c.args.progress c.put_page.result _ _ _ _ _ _ _ _ c.build_page.ensures
    (lent_front c.args.part.pages.geometry.area c.build_page.new.page _ size) c.put_page.ensures.0 c.put_page.ensures.1
