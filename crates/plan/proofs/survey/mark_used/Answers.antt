use mathlib.Core.Path.{◌≡◌, sym, ap, ◌∙◌}
use mathlib.Core.Bool.{Bool, false}
use mathlib.Core.List.{List, foldl}
use Prim.Native.Nat.{ℕ, ◌/◌}
use native.Mathlib.Nat.{zero-div}
use lib.ListN.{length, replicate}
use Rattle.std.specs.Prelude.{Option}
use Rattle.lists.specs.Lists.{flat}
use Rattle.chip.specs.Geometry.{Geometry, Fits}
use Rattle.chip.specs.Chip.{pages_of}
use Rattle.pages.specs.Steps.{live_from, ordered}
use Rattle.views.specs.Stored.{stored_list}
use Rattle.journal.specs.Plan.{count_from, head_block}
use Rattle.plan.specs.declared.survey.Newest.{Newest}
use Rattle.plan.specs.SurveyCode.{mark, mark_held, LooksAtAll, Marked}
use Rattle.plan.proofs.LastLaws.{last_place_lem, place_of}
use Rattle.plan.proofs.MarkLaws.{length_marks, marked_all}
use Rattle.chip.proofs.Sizes.{pages_pos}
use Rattle.plan.proofs.survey.mark_used.Goals as goal

pub look_all-requires : goal.look_all-requires
look_all-requires c = (ap length c.mark_lists.ensures ∙ length_marks c.args.geometry (pages_pos c.args.geometry c.requires.4) (flat (stored_list c.args.lens.now c.args.slots.now) (count_from 0 c.args.limit)) c.args.marks.now ∙ ap length c.requires.3, c.requires.4)

-- what both passes say of the head and of the marks
used : (g : Geometry) (limit : ℕ) (lens slots : List ℕ) (commit : ℕ) (image : List ℕ) (m₀ m₁ m₂ : List Bool) (z : Option Newest) → Fits g → m₀ ≡ replicate 32 false
    → m₁ ≡ foldl (mark g) m₀ (flat (stored_list lens slots) (count_from 0 limit)) → LooksAtAll g commit (pages_of g image) m₁ z m₂
    → (place_of z / g.pages ≡ head_block g (pages_of g image)) × Marked g limit lens slots commit (pages_of g image) m₂
used g limit lens slots commit image m₀ m₁ m₂ z f e h k =
    let ps = pages_of g image in
    let xs = live_from g 0 ps in (
      ap (λ (z : Option Newest). place_of z / g.pages) k.newest ∙ ap (λ (n : ℕ). n / g.pages) (sym (last_place_lem (ordered xs))),
      marked_all g (pages_pos g f) limit lens slots commit ps _
          (k.marks ∙ ap (mark_held g commit xs) (h ∙ ap (λ (m : List Bool). foldl (mark g) m (flat (stored_list lens slots) (count_from 0 limit))) e)),
    )

pub returns-in-Some : goal.returns-in-Some
returns-in-Some c =
    let u = used c.args.geometry c.args.limit c.args.lens.now c.args.slots.now c.args.commit c.args.image.now c.args.marks.now c.mark_lists.new.marks c.look_all.new.marks _ c.requires.4 c.requires.3 c.mark_lists.ensures c.look_all.ensures in
    (ap (λ (z : Option Newest). place_of z / c.args.geometry.pages) (sym c.in-Some.is) ∙ u.0, u.1)

pub returns-in-None : goal.returns-in-None
returns-in-None c =
    let u = used c.args.geometry c.args.limit c.args.lens.now c.args.slots.now c.args.commit c.args.image.now c.args.marks.now c.mark_lists.new.marks c.look_all.new.marks _ c.requires.4 c.requires.3 c.mark_lists.ensures c.look_all.ensures in
    (sym (zero-div c.args.geometry.pages) ∙ ap (λ (z : Option Newest). place_of z / c.args.geometry.pages) (sym c.in-None.is) ∙ u.0, u.1)
