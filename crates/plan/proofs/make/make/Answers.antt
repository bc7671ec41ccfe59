use mathlib.Core.Path.{◌≡◌, refl, ap, ap₂, ◌∙◌}
use mathlib.Core.List.{List}
use Prim.Native.Nat.{ℕ, ◌+◌, ◌*◌, ◌<◌, ◌≤◌}
use native.Mathlib.Omega.{arith}
use lib.ListN.{length}
use Rattle.chip.specs.Geometry.{Geometry}
use Rattle.chip.specs.Page.{Page}
use Rattle.chip.specs.Chip.{pages_of}
use Rattle.plan.specs.PlacesCode.{free_pages}
use Rattle.chip.proofs.Sizes.{block_on_chip, blocks_whole}
use Rattle.plan.proofs.SurveyLaws.{survey_spare}
use Rattle.plan.proofs.MakeLaws.{made_empty, made_nothing, made_plan, pages_few, pages_fit}
use Rattle.plan.proofs.make.make.Goals as goal

low : {a b : ℕ} → a < b → b ≤ 32 → a ≤ 32
low h k = omega arith

room-size : (g : Geometry) (ps : List Page) {h h' o o' : ℕ} → h ≡ h' → o ≡ o' → length (free_pages g ps h) + o * g.pages ≡ length (free_pages g ps h') + o' * g.pages
room-size g ps e i = ap₂ (λ (h o : ℕ). length (free_pages g ps h) + o * g.pages) e i

some : {n : ℕ} → (n ≡ 0 → ⊥) → 0 < n
some h = omega arith

pub invariant_of-nodes : goal.invariant_of-nodes
invariant_of-nodes c = record { fits = c.requires.4; whole = blocks_whole c.args.basis.geometry (length c.args.image.now) c.args.basis.blocks c.requires.0 }

pub choose-requires : goal.choose-requires
choose-requires c = let len = length c.args.image.now in (
  c.requires.3,
  omega (arith, c.requires.2),
  λ b e. let on = c.survey-ground.ensures.below b e in omega (arith, on, c.requires.2),
  rw c.room_of-room.ensures.0 (block_on_chip c.args.basis.geometry c.requires.4 c.args.basis.blocks c.survey-ground.result.head len c.requires.0 c.survey-ground.ensures.on),
  omega (arith, c.room_of-room.ensures.0, c.survey-ground.ensures.on, c.requires.2),
  omega (arith, c.room_of-room.ensures.1, c.survey-ground.ensures.few, c.requires.2),
  omega (arith, c.room_of-room.ensures.2, c.survey-ground.ensures.few, c.requires.2),
)

pub returns-in_err-pages : goal.returns-in_err-pages
returns-in_err-pages c = let ps = pages_of c.args.basis.geometry c.args.image.now in
    let w = room-size c.args.basis.geometry ps c.room_of-room.ensures.0 c.room_of-room.ensures.1 in
    let v = room-size c.args.basis.geometry ps c.room_of-room.ensures.0 c.room_of-room.ensures.2 in
    rw c.from_residual.ensures (made_nothing c.survey-ground.ensures _ _ w v c.args.basis.count c.args.buffer.now _ _ _ _ c.in_err-pages.ensures refl)

pub returns-then-pages-eq0 : goal.returns-then-pages-eq0
returns-then-pages-eq0 c = let ps = pages_of c.args.basis.geometry c.args.image.now in
    let w = room-size c.args.basis.geometry ps c.room_of-room.ensures.0 c.room_of-room.ensures.1 in
    let v = room-size c.args.basis.geometry ps c.room_of-room.ensures.0 c.room_of-room.ensures.2 in
    made_empty c.survey-ground.ensures _ _ w v c.args.basis.count c.args.buffer.now _ _ _ _ c.in_ok-pages.ensures refl c.if-pages-eq0.true

pub lay-requires : goal.lay-requires
lay-requires c = let ps = pages_of c.args.basis.geometry c.args.image.now in
    let w = room-size c.args.basis.geometry ps c.room_of-room.ensures.0 c.room_of-room.ensures.1 in
    let v = room-size c.args.basis.geometry ps c.room_of-room.ensures.0 c.room_of-room.ensures.2 in (
      c.requires.0,
      c.requires.2,
      c.survey-ground.ensures.on,
      low c.survey-ground.ensures.few c.requires.2,
      pages_few c.survey-ground.ensures _ _ w v c.args.basis.count c.args.buffer.now _ _ _ _ c.in_ok-pages.ensures refl (omega (arith, c.requires.2)),
      pages_fit c.survey-ground.ensures _ _ w v c.args.basis.count c.args.buffer.now _ _ _ _ c.in_ok-pages.ensures refl,
      survey_spare c.survey-ground.ensures c.survey-ground.result.unused (omega arith),
      ap length c.survey-ground.ensures.list ∙ c.survey-ground.ensures.size,
      c.requires.4,
    )

pub returns : goal.returns
returns c = let ps = pages_of c.args.basis.geometry c.args.image.now in
    let w = room-size c.args.basis.geometry ps c.room_of-room.ensures.0 c.room_of-room.ensures.1 in
    let v = room-size c.args.basis.geometry ps c.room_of-room.ensures.0 c.room_of-room.ensures.2 in
    made_plan c.survey-ground.ensures _ _ w v c.args.basis.count c.args.buffer.now _ _ _ _ c.in_ok-pages.ensures refl (some c.if-pages-eq0.false) _ c.lay.ensures
