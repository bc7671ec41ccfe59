use mathlib.Core.Path.{◌≡◌, refl, sym, subst}
use mathlib.Core.List.{List}
use Prim.Native.Nat.{ℕ, ◌<◌, ◌≤◌, ◌*◌}
use native.Mathlib.Omega.{arith}
use lib.ListN.{length}
use Rattle.std.specs.Prelude.{Err}
use Rattle.chip.specs.Geometry.{geometry_of}
use Rattle.promise.specs.Plain.{admission, insertion}
use Rattle.promise.proofs.Proper.{insert_proper}
use Rattle.tree.specs.Step6.{top}
use Rattle.store.specs.declared.answer.Refusal.TheVariants.{Nodes}
use Rattle.store.specs.AdmitCode.{ChipOf}
use Rattle.store.specs.Parts.{joined, updated_with}
use Rattle.store.specs.UpdateCode.{InsertsIn}
use Rattle.store.proofs.AnswerLaws.{passed_up}
use Rattle.store.proofs.UpdateLaws.{insert_many, insert_five, insert_accepted}
use Rattle.store.proofs.UpdateTests.{updates_refused, updates_pass, updates_done, refused_for, passed_for}
use borrow.Author.Rules.{rules}
use Rattle.store.proofs.update.insert_tested.Goals as goal

pub returns-in_err-update_tests : goal.returns-in_err-update_tests
returns-in_err-update_tests c erases =
    let s = joined c.args.numbers c.args.buffer.now c.args.lens.now c.args.slots.now erases in
    let e = (rw c.in_err-update_tests.was at c.update_tests.ensures) in
    rw (passed_up c.from_residual.result c.in_err-update_tests.field-0.0 c.from_residual.ensures.1) (updates_refused (insertion c.args.key c.args.value) s c.args.image.now _ e refl (refused_for _ _ e))

pub returns-then-numbers-gt-UNITS : goal.returns-then-numbers-gt-UNITS
returns-then-numbers-gt-UNITS c erases =
    let s = joined c.args.numbers c.args.buffer.now c.args.lens.now c.args.slots.now erases in
    let past : ((0 ≡ admission (geometry_of c.args.numbers.nand) c.args.numbers.on c.args.numbers.blocks (length c.args.image.now)) × ChipOf (geometry_of c.args.numbers.nand) c.args.numbers.blocks (length c.args.image.now) × (c.args.numbers.pending < 16)) = updates_pass (geometry_of c.args.numbers.nand) c.args.numbers.on c.args.numbers.blocks c.args.numbers.pending (length c.args.image.now) (passed_for _ (rw c.in_ok-update_tests.was at c.update_tests.ensures)) in
    updates_done (insertion c.args.key c.args.value) s c.args.image.now _ past.0 (insert_proper c.args.key c.args.value) past.2
    (insert_many s c.args.image.now past.2 c.if-numbers-gt-UNITS.true c.args.key c.args.value)

pub nodes_of-nodes-requires : goal.nodes_of-nodes-requires
nodes_of-nodes-requires c =
    let past : ((0 ≡ admission (geometry_of c.args.numbers.nand) c.args.numbers.on c.args.numbers.blocks (length c.args.image.now)) × ChipOf (geometry_of c.args.numbers.nand) c.args.numbers.blocks (length c.args.image.now) × (c.args.numbers.pending < 16)) = updates_pass (geometry_of c.args.numbers.nand) c.args.numbers.on c.args.numbers.blocks c.args.numbers.pending (length c.args.image.now) (passed_for _ (rw c.in_ok-update_tests.was at c.update_tests.ensures)) in
    past.1

pub insert-requires : goal.insert-requires
insert-requires c =
    let past : ((0 ≡ admission (geometry_of c.args.numbers.nand) c.args.numbers.on c.args.numbers.blocks (length c.args.image.now)) × ChipOf (geometry_of c.args.numbers.nand) c.args.numbers.blocks (length c.args.image.now) × (c.args.numbers.pending < 16)) = updates_pass (geometry_of c.args.numbers.nand) c.args.numbers.on c.args.numbers.blocks c.args.numbers.pending (length c.args.image.now) (passed_for _ (rw c.in_ok-update_tests.was at c.update_tests.ensures)) in
    (omega (arith, past.1.most, c.nodes_of-nodes.ensures.1), omega (arith, c.if-numbers-gt-UNITS.false))

pub returns-in_default : goal.returns-in_default
returns-in_default c erases =
    let s = joined c.args.numbers c.args.buffer.now c.args.lens.now c.args.slots.now erases in
    let past : ((0 ≡ admission (geometry_of c.args.numbers.nand) c.args.numbers.on c.args.numbers.blocks (length c.args.image.now)) × ChipOf (geometry_of c.args.numbers.nand) c.args.numbers.blocks (length c.args.image.now) × (c.args.numbers.pending < 16)) = updates_pass (geometry_of c.args.numbers.nand) c.args.numbers.on c.args.numbers.blocks c.args.numbers.pending (length c.args.image.now) (passed_for _ (rw c.in_ok-update_tests.was at c.update_tests.ensures)) in
    let hk : c.args.key < top = search rules in
    let hv : c.args.value < top = search rules in
    let hl : 8 * c.args.numbers.blocks ≤ 256 = omega (arith, past.1.most) in
    let w = c.nodes_of-nodes.ensures in
    updates_done (insertion c.args.key c.args.value) s c.args.image.now _ past.0 (insert_proper c.args.key c.args.value) past.2
    (subst (λ (new : List ℕ). InsertsIn c.args.key c.args.value s c.args.image.now (updated_with (record { answer = Err Nodes; numbers = c.args.numbers }) new c.args.lens.now c.args.slots.now erases))
    (sym c.in_default.ensures.stays.0)
    (insert_five s c.args.image.now past.2 c.args.key c.args.value hk hv hl _ _ (rw (w.0, w.1, w.2, w.3, w.4) at c.in_default.ensures)))

pub overflow_add-n : goal.overflow_add-n
overflow_add-n c =
    let past : ((0 ≡ admission (geometry_of c.args.numbers.nand) c.args.numbers.on c.args.numbers.blocks (length c.args.image.now)) × ChipOf (geometry_of c.args.numbers.nand) c.args.numbers.blocks (length c.args.image.now) × (c.args.numbers.pending < 16)) = updates_pass (geometry_of c.args.numbers.nand) c.args.numbers.on c.args.numbers.blocks c.args.numbers.pending (length c.args.image.now) (passed_for _ (rw c.in_ok-update_tests.was at c.update_tests.ensures)) in
    record { fits = omega (arith, past.2) }

pub returns : goal.returns
returns c erases =
    let s = joined c.args.numbers c.args.buffer.now c.args.lens.now c.args.slots.now erases in
    let past : ((0 ≡ admission (geometry_of c.args.numbers.nand) c.args.numbers.on c.args.numbers.blocks (length c.args.image.now)) × ChipOf (geometry_of c.args.numbers.nand) c.args.numbers.blocks (length c.args.image.now) × (c.args.numbers.pending < 16)) = updates_pass (geometry_of c.args.numbers.nand) c.args.numbers.on c.args.numbers.blocks c.args.numbers.pending (length c.args.image.now) (passed_for _ (rw c.in_ok-update_tests.was at c.update_tests.ensures)) in
    let hk : c.args.key < top = search rules in
    let hv : c.args.value < top = search rules in
    let hl : 8 * c.args.numbers.blocks ≤ 256 = omega (arith, past.1.most) in
    let w = c.nodes_of-nodes.ensures in
    updates_done (insertion c.args.key c.args.value) s c.args.image.now _ past.0 (insert_proper c.args.key c.args.value) past.2
    (insert_accepted s c.args.image.now past.2 c.args.key c.args.value hk hv hl _ _ c.in-Some.used (rw (w.0, w.1, w.2, w.3, w.4) at c.in-Some.ensures))
