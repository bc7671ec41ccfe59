use native.Mathlib.Omega.{arith}
use lib.ListN.{length}
use Rattle.store.proofs.SizeLaws.{on_chip}
use Rattle.store.proofs.AnswerLaws.{passed_up}
use Rattle.store.proofs.CheckLaws.{refused_checks, stands_room, stands_numbered, stands_condemned, stands_tree}
use Rattle.store.proofs.check.check.Goals as goal

pub settle-requires : goal.settle-requires
settle-requires c = let o = on_chip c.args.geometry c.requires.1 c.args.blocks (length c.args.image.now) c.requires.0 in
    (o.0, o.1, c.requires.1)

pub returns-in_err-first : goal.returns-in_err-first
returns-in_err-first c = rw (passed_up c.from_residual.result _ c.from_residual.ensures.1)
    (refused_checks c.args.geometry c.args.image.now c.settle.new.order c.in_err-first.field-0.0 (rw c.in_err-first.was at c.settle.ensures))

pub judge-requires : goal.judge-requires
judge-requires c =
    let room = stands_room c.args.geometry c.requires.1 c.args.image.now c.settle.new.order c.in_ok-first.field-0 c.args.blocks c.requires.0 (λ i. omega (arith, c.type_inv.image i))
    (rw c.in_ok-first.was at c.settle.ensures) in
    let o = on_chip c.args.geometry c.requires.1 c.args.blocks (length c.args.image.now) c.requires.0 in
    (o.0, o.1, room.1, omega arith, omega (arith, c.requires.0.most), c.requires.1)

pub returns-in_err-thin : goal.returns-in_err-thin
returns-in_err-thin c = rw (passed_up c.from_residual-in_err-thin.result c.in_err-thin.field-0.0 c.from_residual-in_err-thin.ensures.1)
    (stands_condemned c.args.geometry c.requires.1 c.args.image.now c.settle.new.order c.in_ok-first.field-0 c.args.blocks c.requires.0 (λ i. omega (arith, c.type_inv.image i))
    (rw c.in_ok-first.was at c.settle.ensures) c.judge.new.lens c.judge.new.slots c.judge.new.free _ (rw c.in_err-thin.was at c.judge.ensures))

pub passed-requires : goal.passed-requires
passed-requires c =
    stands_numbered c.args.geometry c.requires.1 c.args.image.now c.settle.new.order c.in_ok-first.field-0 c.args.blocks c.requires.0 (λ i. omega (arith, c.type_inv.image i))
    (rw c.in_ok-first.was at c.settle.ensures)

pub returns : goal.returns
returns c = rw c.passed.ensures
    (stands_tree c.args.geometry c.requires.1 c.args.image.now c.settle.new.order c.in_ok-first.field-0 c.args.blocks c.requires.0 (λ i. omega (arith, c.type_inv.image i))
    (rw c.in_ok-first.was at c.settle.ensures) c.judge.new.lens c.judge.new.slots c.judge.new.free c.in_ok-thin.thin (rw c.in_ok-thin.was at c.judge.ensures))
