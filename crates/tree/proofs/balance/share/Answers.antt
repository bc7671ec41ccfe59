use Rattle.tree.proofs.BalanceLaws.{share_left, share_right, share_full}
use Rattle.views.specs.NodeCode.{entries_of}
use Rattle.views.proofs.NodeLaws.{length_entries}
use mathlib.Core.Path.{◌≡◌}
use lib.ListN.{length}
use native.Mathlib.Omega.{arith}
use borrow.Author.Rules.{rules}
use Rattle.tree.proofs.balance.share.Goals as goal

pub returns-then-not-has_room : goal.returns-then-not-has_room
returns-then-not-has_room c =
    let size-x : length (entries_of c.args.x) ≡ c.args.x.len = length_entries c.args.x (search rules) (search rules) (omega (arith, c.requires)) in
    let size-y : length (entries_of c.args.y) ≡ c.args.y.len = length_entries c.args.y (search rules) (search rules) (omega (arith, c.requires)) in
    share_full c.args.pair c.args.len c.args.x c.args.y size-x size-y c.args.count c.args.buffer.now c.keep.result c.requires.0 c.keep.ensures
    (c.has_room.ensures.full c.if-not-has_room.true)

pub to_left-used-requires : goal.to_left-used-requires
to_left-used-requires c = let f = c.has_room.ensures.fits c.if-not-has_room.false in
    (omega (arith, c.requires, c.if-x-y.true), c.requires.2, f.0, f.1)

pub returns-then-x-y : goal.returns-then-x-y
returns-then-x-y c =
    let size-x : length (entries_of c.args.x) ≡ c.args.x.len = length_entries c.args.x (search rules) (search rules) (omega (arith, c.requires)) in
    let size-y : length (entries_of c.args.y) ≡ c.args.y.len = length_entries c.args.y (search rules) (search rules) (omega (arith, c.requires)) in
    share_left c.args.pair c.args.len c.args.x c.args.y size-x size-y c.args.count c.args.buffer.now _ c.to_left-used.result c.keep-then-x-y.result
    (c.has_room.ensures.fits c.if-not-has_room.false).0 c.keep-then-x-y.ensures c.if-x-y.true c.to_left-used.ensures

pub to_right-used-requires : goal.to_right-used-requires
to_right-used-requires c = let f = c.has_room.ensures.fits c.if-not-has_room.false in
    (omega (arith, c.requires, c.if-x-y.false), c.requires.1, f.0, f.1)

pub returns : goal.returns
returns c =
    let size-x : length (entries_of c.args.x) ≡ c.args.x.len = length_entries c.args.x (search rules) (search rules) (omega (arith, c.requires)) in
    let size-y : length (entries_of c.args.y) ≡ c.args.y.len = length_entries c.args.y (search rules) (search rules) (omega (arith, c.requires)) in
    share_right c.args.pair c.args.len c.args.x c.args.y size-x size-y c.args.count c.args.buffer.now _ c.to_right-used.result c.keep-2.result
    (c.has_room.ensures.fits c.if-not-has_room.false).0 c.keep-2.ensures c.if-x-y.false c.to_right-used.ensures
