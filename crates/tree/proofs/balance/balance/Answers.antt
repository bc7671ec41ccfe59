use Rattle.tree.proofs.BalanceLaws.{balance_share, balance_full, balance_join}
use Rattle.views.specs.NodeCode.{entries_of}
use Rattle.views.proofs.NodeLaws.{length_entries}
use mathlib.Core.Path.{◌≡◌, refl}
use lib.ListN.{length}
use native.Mathlib.Omega.{arith}
use borrow.Author.Rules.{rules}
use Rattle.tree.proofs.balance.balance.Goals as goal

pub returns-then-both-gt16 : goal.returns-then-both-gt16
returns-then-both-gt16 c =
    let size-x : length (entries_of c.args.x) ≡ c.args.x.len = length_entries c.args.x (search rules) (search rules) (omega (arith, c.requires)) in
    let size-y : length (entries_of c.args.y) ≡ c.args.y.len = length_entries c.args.y (search rules) (search rules) (omega (arith, c.requires)) in
    balance_share c.args.pair c.args.len c.args.x c.args.y size-x size-y c.args.count c.args.buffer.now c.args.free.now _ c.share.result c.if-both-gt16.true c.share.ensures

pub returns-then-not-has_room : goal.returns-then-not-has_room
returns-then-not-has_room c =
    let size-x : length (entries_of c.args.x) ≡ c.args.x.len = length_entries c.args.x (search rules) (search rules) (omega (arith, c.requires)) in
    let size-y : length (entries_of c.args.y) ≡ c.args.y.len = length_entries c.args.y (search rules) (search rules) (omega (arith, c.requires)) in
    balance_full c.args.pair c.args.len c.args.x c.args.y size-x size-y c.args.count c.if-both-gt16.false c.args.buffer.now c.args.free.now c.keep.result c.requires.0 c.keep.ensures
    (c.has_room.ensures.full c.if-not-has_room.true)

pub join-used-requires : goal.join-used-requires
join-used-requires c = let f = c.has_room.ensures.fits c.if-not-has_room.false in
    (c.requires.2, omega (arith, f.0), f.1)

pub returns : goal.returns
returns c =
    let size-x : length (entries_of c.args.x) ≡ c.args.x.len = length_entries c.args.x (search rules) (search rules) (omega (arith, c.requires)) in
    let size-y : length (entries_of c.args.y) ≡ c.args.y.len = length_entries c.args.y (search rules) (search rules) (omega (arith, c.requires)) in
    balance_join c.args.pair c.args.len c.args.x c.args.y size-x size-y c.args.count c.if-both-gt16.false c.args.buffer.now c.args.free.now _ _ c.join-used.result _ c.join-used.ensures.0 c.join-used.ensures.1
    (c.has_room.ensures.fits c.if-not-has_room.false).0 refl refl refl
