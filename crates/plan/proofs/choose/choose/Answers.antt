use mathlib.Core.Path.{◌≡◌, sym, ◌∙◌}
use native.Mathlib.Omega.{arith}
use Prim.Native.Nat.{ℕ, ◌≤◌, ◌<◌, ◌+◌, ◌*◌}
use lib.ListN.{length}
use Rattle.chip.specs.Chip.{pages_of}
use Rattle.plan.specs.PlacesCode.{free_pages}
use borrow.Author.Tests.{leb-false, leb-true}
use Rattle.contents.specs.ContentsCode.{contents_in}
use Rattle.plan.proofs.ChooseLaws.{chose_delta, chose_nothing, chose_snapshot, count_delta, count_snapshot, delta_short, held_delta, held_snapshot}
use borrow.Author.Rules.{rules}
use Rattle.plan.proofs.choose.choose.Goals as goal

few_pages : {r limit : ℕ} → limit ≤ 256 → r ≤ 2 * limit → r + 1 < 18446744073709551616
few_pages h k = omega arith

pub pack_delta-d-requires : goal.pack_delta-d-requires
pack_delta-d-requires c =
    let slots-long : length c.args.nodes.slots.now ≡ 1024 = search rules in
    let g = c.args.nodes.geometry in (
      c.requires.1,
      delta_short g c.args.nodes.fits.nodes c.args.nodes.limit c.args.oldest (pages_of g c.args.nodes.image.now) c.args.nodes.lens.now c.args.nodes.slots.now c.args.count c.args.buffer.now _ _ _ _ _ _
          c.requires.1 slots-long c.tally.ensures c.measure.ensures,
    )

pub overflow_add-d : goal.overflow_add-d
overflow_add-d c = let b = few_pages c.requires.1 c.pack_delta-d.ensures.packs.few in
    search (rules, b)

pub has_places-requires : goal.has_places-requires
has_places-requires c = (c.requires.3, c.requires.4, c.requires.5, c.args.nodes.fits)

pub keep_written-requires : goal.keep_written-requires
keep_written-requires c = (c.requires.0, c.requires.1)

pub returns-then-has_places : goal.returns-then-has_places
returns-then-has_places c =
    let slots-long : length c.args.nodes.slots.now ≡ 1024 = search rules in
    let g = c.args.nodes.geometry in
    let limit = c.args.nodes.limit in
    let ps = pages_of g c.args.nodes.image.now in
    λ us first. chose_delta g limit (length (free_pages g ps c.args.room.head) + c.args.room.others * g.pages) (length (free_pages g ps c.args.room.head) + c.args.room.spare * g.pages) us (contents_in g limit ps c.args.nodes.lens.now c.args.nodes.slots.now c.args.count c.args.buffer.now) _ _ _ _
    (held_delta g c.args.nodes.fits.nodes limit c.args.oldest ps c.args.nodes.lens.now c.args.nodes.slots.now c.args.count c.args.buffer.now _ _ _ _ _ _
    c.requires.1 slots-long c.tally.ensures c.measure.ensures us first _ _ _ _ c.pack_delta-d.ensures _ _ c.keep_written.ensures)
    (leb-true _ _ (sym c.has_places.ensures ∙ c.if-has_places.true))

pub measure_rest-requires : goal.measure_rest-requires
measure_rest-requires c = (c.requires.1, c.measure.ensures.kept)

pub pack_nodes-s-requires : goal.pack_nodes-s-requires
pack_nodes-s-requires c = c.requires.1

pub overflow_add-s : goal.overflow_add-s
overflow_add-s c = let b = few_pages c.requires.1 c.pack_nodes-s.ensures.few in
    search (rules, b)

pub has_places-requires-2 : goal.has_places-requires-2
has_places-requires-2 c = (c.requires.3, c.requires.4, c.requires.6, c.args.nodes.fits)

pub keep_written-requires-then-has_places-2 : goal.keep_written-requires-then-has_places-2
keep_written-requires-then-has_places-2 c = (c.requires.0, c.requires.1)

pub returns-then-has_places-2 : goal.returns-then-has_places-2
returns-then-has_places-2 c =
    let slots-long : length c.args.nodes.slots.now ≡ 1024 = search rules in
    let g = c.args.nodes.geometry in
    let limit = c.args.nodes.limit in
    let ps = pages_of g c.args.nodes.image.now in
    let N = contents_in g limit ps c.args.nodes.lens.now c.args.nodes.slots.now c.args.count c.args.buffer.now in
    λ us first. chose_snapshot g limit (length (free_pages g ps c.args.room.head) + c.args.room.others * g.pages) (length (free_pages g ps c.args.room.head) + c.args.room.spare * g.pages) us N _
    (count_delta g c.args.nodes.fits.nodes limit c.args.oldest ps c.args.nodes.lens.now c.args.nodes.slots.now c.args.count c.args.buffer.now _ _ _ _ _ _
    c.requires.1 slots-long c.tally.ensures c.measure.ensures us first _ _ _ _ c.pack_delta-d.ensures) (leb-false _ _ (sym c.has_places.ensures ∙ c.if-has_places.false)) _ _ _ _
    (held_snapshot g c.args.nodes.fits.nodes limit ps c.args.nodes.lens.now c.args.nodes.slots.now c.args.count c.args.buffer.now _ _ _ _ _
    c.requires.1 c.tally.ensures c.measure_rest.ensures _ _ _ c.pack_nodes-s.ensures _ _ c.keep_written-then-has_places-2.ensures)
    (leb-true _ _ (sym c.has_places-2.ensures ∙ c.if-has_places-2.true))

pub returns : goal.returns
returns c =
    let slots-long : length c.args.nodes.slots.now ≡ 1024 = search rules in
    let g = c.args.nodes.geometry in
    let limit = c.args.nodes.limit in
    let ps = pages_of g c.args.nodes.image.now in
    let N = contents_in g limit ps c.args.nodes.lens.now c.args.nodes.slots.now c.args.count c.args.buffer.now in
    λ us first. chose_nothing g limit (length (free_pages g ps c.args.room.head) + c.args.room.others * g.pages) (length (free_pages g ps c.args.room.head) + c.args.room.spare * g.pages) us N _
    (count_delta g c.args.nodes.fits.nodes limit c.args.oldest ps c.args.nodes.lens.now c.args.nodes.slots.now c.args.count c.args.buffer.now _ _ _ _ _ _
    c.requires.1 slots-long c.tally.ensures c.measure.ensures us first _ _ _ _ c.pack_delta-d.ensures) (leb-false _ _ (sym c.has_places.ensures ∙ c.if-has_places.false)) _ _ _ _
    (count_snapshot g c.args.nodes.fits.nodes limit ps c.args.nodes.lens.now c.args.nodes.slots.now c.args.count c.args.buffer.now _ _ _ _ _
    c.requires.1 c.tally.ensures c.measure_rest.ensures _ _ _ c.pack_nodes-s.ensures)
    (leb-false _ _ (sym c.has_places-2.ensures ∙ c.if-has_places-2.false))
