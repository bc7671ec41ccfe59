use mathlib.Core.Path.{◌≡◌, sym, ap, ◌∙◌}
use Prim.Native.Nat.{ℕ, ◌+◌, ◌*◌, ◌/◌, ◌<◌, ◌≤◌}
use native.Mathlib.Nat.{add-sub_cancel_left}
use native.Mathlib.Omega.{arith}
use lib.ListN.{length}
use Rattle.lists.specs.Lists.{part}
use Rattle.chip.specs.Geometry.{page_size}
use Rattle.chip.proofs.Sizes.{Size, chip_found, page_end, blocks_pages, pages_most_lem}
use Rattle.pages.specs.Show.{shown_units}
use Rattle.pages.proofs.ShowLaws.{refused_1, refused_4, accepted, shown_none, shown_some}
use Rattle.pages.proofs.show.show.Goals as goal

pub returns-in_default : goal.returns-in_default
returns-in_default c = let r = refused_1 c.args.geometry c.args.image.now c.args.at (sym c.in_default.is ∙ c.blocks_of.ensures) in
    record { shown = sym r.1; number = sym r.0 }

pub overflow_mul-blocks : goal.overflow_mul-blocks
overflow_mul-blocks c =
    let sized : Size c.args.geometry (length c.args.image.now) c.in-Some.blocks = chip_found c.args.geometry (length c.args.image.now) c.in-Some.blocks (sym c.in-Some.is ∙ c.blocks_of.ensures) in
    omega (arith, pages_most_lem c.args.geometry c.requires c.in-Some.blocks sized.most)

pub returns-then-p-blocks : goal.returns-then-p-blocks
returns-then-p-blocks c = let r = refused_4 c.args.geometry c.args.image.now c.args.at c.in-Some.blocks (sym c.in-Some.is ∙ c.blocks_of.ensures) c.if-p-blocks.true in
    record { shown = sym r.1; number = sym r.0 }

pub overflow_mul-a : goal.overflow_mul-a
overflow_mul-a c =
    let sized : Size c.args.geometry (length c.args.image.now) c.in-Some.blocks = chip_found c.args.geometry (length c.args.image.now) c.in-Some.blocks (sym c.in-Some.is ∙ c.blocks_of.ensures) in
    let on : c.args.at < length c.args.image.now / page_size c.args.geometry = omega (arith, blocks_pages c.args.geometry c.requires (length c.args.image.now) c.in-Some.blocks (sym sized.bytes), c.if-p-blocks.false) in
    let ends : c.args.at * page_size c.args.geometry + page_size c.args.geometry ≤ length c.args.image.now = page_end c.args.geometry (length c.args.image.now) c.args.at on in
    omega (arith, ends)

pub overflow_add-e : goal.overflow_add-e
overflow_add-e c =
    let sized : Size c.args.geometry (length c.args.image.now) c.in-Some.blocks = chip_found c.args.geometry (length c.args.image.now) c.in-Some.blocks (sym c.in-Some.is ∙ c.blocks_of.ensures) in
    let on : c.args.at < length c.args.image.now / page_size c.args.geometry = omega (arith, blocks_pages c.args.geometry c.requires (length c.args.image.now) c.in-Some.blocks (sym sized.bytes), c.if-p-blocks.false) in
    let ends : c.args.at * page_size c.args.geometry + page_size c.args.geometry ≤ length c.args.image.now = page_end c.args.geometry (length c.args.image.now) c.args.at on in
    omega (arith, ends)

pub slice_bounds-shown_units-end : goal.slice_bounds-shown_units-end
slice_bounds-shown_units-end c =
    let sized : Size c.args.geometry (length c.args.image.now) c.in-Some.blocks = chip_found c.args.geometry (length c.args.image.now) c.in-Some.blocks (sym c.in-Some.is ∙ c.blocks_of.ensures) in
    let on : c.args.at < length c.args.image.now / page_size c.args.geometry = omega (arith, blocks_pages c.args.geometry c.requires (length c.args.image.now) c.in-Some.blocks (sym sized.bytes), c.if-p-blocks.false) in
    let ends : c.args.at * page_size c.args.geometry + page_size c.args.geometry ≤ length c.args.image.now = page_end c.args.geometry (length c.args.image.now) c.args.at on in
    omega (arith, ends)

pub returns-then-units-eq0 : goal.returns-then-units-eq0
returns-then-units-eq0 c =
    let sized : Size c.args.geometry (length c.args.image.now) c.in-Some.blocks = chip_found c.args.geometry (length c.args.image.now) c.in-Some.blocks (sym c.in-Some.is ∙ c.blocks_of.ensures) in
    let on : c.args.at < length c.args.image.now / page_size c.args.geometry = omega (arith, blocks_pages c.args.geometry c.requires (length c.args.image.now) c.in-Some.blocks (sym sized.bytes), c.if-p-blocks.false) in
    let shows : c.shown_units-units.result ≡ shown_units c.args.geometry (part (c.args.at * page_size c.args.geometry) (page_size c.args.geometry) c.args.image.now) = let s = page_size c.args.geometry in c.shown_units-units.ensures.0 ∙ ap (λ (n : ℕ). shown_units c.args.geometry (part (c.args.at * s) n c.args.image.now)) (add-sub_cancel_left (c.args.at * s) s) in record {
      shown = sym (shown_none c.args.geometry c.args.image.now c.args.at c.in-Some.blocks (sym c.in-Some.is ∙ c.blocks_of.ensures) c.if-p-blocks.false c.shown_units-units.result on shows c.if-units-eq0.true);
      number = sym (accepted c.args.geometry c.args.image.now c.args.at c.in-Some.blocks (sym c.in-Some.is ∙ c.blocks_of.ensures) c.if-p-blocks.false c.shown_units-units.result on shows);
    }

pub overflow_add-start : goal.overflow_add-start
overflow_add-start c =
    let sized : Size c.args.geometry (length c.args.image.now) c.in-Some.blocks = chip_found c.args.geometry (length c.args.image.now) c.in-Some.blocks (sym c.in-Some.is ∙ c.blocks_of.ensures) in
    let on : c.args.at < length c.args.image.now / page_size c.args.geometry = omega (arith, blocks_pages c.args.geometry c.requires (length c.args.image.now) c.in-Some.blocks (sym sized.bytes), c.if-p-blocks.false) in
    let ends : c.args.at * page_size c.args.geometry + page_size c.args.geometry ≤ length c.args.image.now = page_end c.args.geometry (length c.args.image.now) c.args.at on in
    omega (arith, ends)

pub overflow_add-end : goal.overflow_add-end
overflow_add-end c =
    let sized : Size c.args.geometry (length c.args.image.now) c.in-Some.blocks = chip_found c.args.geometry (length c.args.image.now) c.in-Some.blocks (sym c.in-Some.is ∙ c.blocks_of.ensures) in
    let on : c.args.at < length c.args.image.now / page_size c.args.geometry = omega (arith, blocks_pages c.args.geometry c.requires (length c.args.image.now) c.in-Some.blocks (sym sized.bytes), c.if-p-blocks.false) in
    let ends : c.args.at * page_size c.args.geometry + page_size c.args.geometry ≤ length c.args.image.now = page_end c.args.geometry (length c.args.image.now) c.args.at on in
    omega (arith, ends)

pub slice_bounds-result-end-2 : goal.slice_bounds-result-end-2
slice_bounds-result-end-2 c =
    let sized : Size c.args.geometry (length c.args.image.now) c.in-Some.blocks = chip_found c.args.geometry (length c.args.image.now) c.in-Some.blocks (sym c.in-Some.is ∙ c.blocks_of.ensures) in
    let on : c.args.at < length c.args.image.now / page_size c.args.geometry = omega (arith, blocks_pages c.args.geometry c.requires (length c.args.image.now) c.in-Some.blocks (sym sized.bytes), c.if-p-blocks.false) in
    let ends : c.args.at * page_size c.args.geometry + page_size c.args.geometry ≤ length c.args.image.now = page_end c.args.geometry (length c.args.image.now) c.args.at on in
    omega (arith, ends)

pub returns : goal.returns
returns c =
    let sized : Size c.args.geometry (length c.args.image.now) c.in-Some.blocks = chip_found c.args.geometry (length c.args.image.now) c.in-Some.blocks (sym c.in-Some.is ∙ c.blocks_of.ensures) in
    let on : c.args.at < length c.args.image.now / page_size c.args.geometry = omega (arith, blocks_pages c.args.geometry c.requires (length c.args.image.now) c.in-Some.blocks (sym sized.bytes), c.if-p-blocks.false) in
    let shows : c.shown_units-units.result ≡ shown_units c.args.geometry (part (c.args.at * page_size c.args.geometry) (page_size c.args.geometry) c.args.image.now) = let s = page_size c.args.geometry in c.shown_units-units.ensures.0 ∙ ap (λ (n : ℕ). shown_units c.args.geometry (part (c.args.at * s) n c.args.image.now)) (add-sub_cancel_left (c.args.at * s) s) in
    let s = page_size c.args.geometry in record {
      shown = ap (λ (n : ℕ). part (c.args.at * s + 8) n c.args.image.now) (add-sub_cancel_left (c.args.at * s + 8) (12 * c.shown_units-units.result))
          ∙ shown_some c.args.geometry c.args.image.now c.args.at c.in-Some.blocks (sym c.in-Some.is ∙ c.blocks_of.ensures) c.if-p-blocks.false c.shown_units-units.result on shows c.if-units-eq0.false;
      number = sym (accepted c.args.geometry c.args.image.now c.args.at c.in-Some.blocks (sym c.in-Some.is ∙ c.blocks_of.ensures) c.if-p-blocks.false c.shown_units-units.result on shows);
    }
