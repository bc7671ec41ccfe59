-- A page written by three operations: as a run on the chip, what a cut leaves, and when the page is live. Assumes nothing.
use mathlib.Core.Path.{◌≡◌, refl, sym, ap, ap₂, ◌∙◌}
use mathlib.Core.List.{List, ◌∷◌}
use Prim.Native.Nat.{ℕ, zero, suc}
use native.Mathlib.Omega.{arith}
use lib.ListN.{length, take, get_or}
use lib.Seq.{length-take-le}
use Rattle.lists.specs.Lists.{modify}
use Rattle.lists.proofs.Places.{modify_modify}
use Rattle.chip.specs.declared.page.Mark.{Mark}
use Rattle.chip.specs.declared.page.Mark.TheVariants.{Used, Valid}
use Rattle.chip.specs.declared.operation.Kind.{Kind}
use Rattle.chip.specs.declared.operation.Kind.TheVariants as K
use Rattle.chip.specs.declared.operation.Operation.{Operation}
use Rattle.chip.specs.declared.power.Power.{Power}
use Rattle.chip.specs.declared.power.Power.TheVariants.{Left, Gone}
use Rattle.chip.specs.declared.progress.Counts.{Counts}
use Rattle.chip.specs.declared.progress.Progress.{Progress}
use Rattle.chip.specs.Geometry.{Geometry, page_size}
use Rattle.chip.specs.Power.{spend, outcome, effect}
use Rattle.chip.specs.Page.{Page, marked, programmed}
use Rattle.chip.specs.Chip.{run, pages_of}
use Rattle.chip.specs.RunCode.{counted_all, progressed, tell_of, wholes, Operated, Ran}
use Rattle.chip.proofs.CountLaws.{wholes_none}
use Rattle.chip.proofs.ImageLaws.{effect_has, effect_modify}
use Rattle.chip.proofs.PageLaws.{length_marked, length_programmed}
use Rattle.pages.specs.Write.{writes}
use Rattle.pages.specs.WriteCode.{marked_by, programmed_by, written, spent3, write_kinds, PageWritten}

-- an operation of kind k told
abbrev told : Kind → Progress → Progress
told k p = progressed p.done (tell_of k p.left)

three_told : (c : Counts) (p : Power)
    → (told K.Mark (told K.Program (told K.Mark (record { left = p; done = c })))).done ≡ counted_all c (wholes p write_kinds)
three_told c (Left zero) = refl
three_told c (Left (suc zero)) = refl
three_told c (Left (suc (suc zero))) = refl
three_told c (Left (suc (suc (suc n)))) = ap (counted_all c) (ap (λ (l : List Kind). K.Mark ∷ K.Program ∷ K.Mark ∷ l) (sym (wholes_none (Left n))))
three_told c Gone = refl

module _ (g : Geometry) (torn bytes : List ℕ) where
  -- three operations on one part, one after the other
  pub written_steps : (p q r s : Progress) (u v w : Operation) (x y z last : Page)
      → q ≡ progressed p.done u → r ≡ progressed q.done v → s ≡ progressed r.done w
      → Operated K.Mark p.left u y (marked g Used 0 x) (marked g Used (get_or torn 0 0) x) x
      → Operated K.Program q.left v z (programmed g bytes y) (programmed g (take g.area torn) y) y
      → Operated K.Mark r.left w last (marked g Valid 0 z) (marked g Valid (get_or torn 0 0) z) z
      → PageWritten g torn bytes p s x last
  unfolding written
  written_steps p q r s u v w x y z last eq er es a b c =
      let one : q ≡ told K.Mark p = eq ∙ ap (progressed p.done) a.told in
      let two : r ≡ told K.Program (told K.Mark p) = er ∙ ap (progressed q.done) b.told ∙ ap (told K.Program) one in
      let three : s ≡ told K.Mark (told K.Program (told K.Mark p)) = es ∙ ap (progressed r.done) c.told ∙ ap (told K.Mark) two in
      let first : q.left ≡ spend p.left = ap (λ (x : Progress). x.left) one in
      let second : r.left ≡ spend (spend p.left) = ap (λ (x : Progress). x.left) two in
      record {
        power = ap (λ (x : Progress). x.left) three;
        page = c.left ∙ ap₂ (marked_by g torn Valid) second (b.left ∙ ap₂ (programmed_by g torn bytes) first a.left);
        told = ap (λ (x : Progress). x.done) three ∙ three_told p.done p.left;
      }

  -- as a run of operations on the chip
  pub run_writes : (n : ℕ) (p : Power) (ps : List Page)
      → run g torn (record { power = p; pages = ps }) (writes n bytes) ≡ record { power = spent3 p; pages = modify n (written g torn bytes p) ps }
  unfolding run written
  run_writes n p ps =
      let u : Page → Page = marked_by g torn Used p in
      let d : Page → Page = programmed_by g torn bytes (spend p) in
      let v : Page → Page = marked_by g torn Valid (spend (spend p)) in
      let used : List Page → List Page = λ (xs : List Page). effect p (modify n (marked g Used 0) xs) (modify n (marked g Used (get_or torn 0 0)) xs) xs in
      let prog : List Page → List Page = λ (xs : List Page). effect (spend p) (modify n (programmed g bytes) xs) (modify n (programmed g (take g.area torn)) xs) xs in
      let vald : List Page → List Page = λ (xs : List Page). effect (spend (spend p)) (modify n (marked g Valid 0) xs) (modify n (marked g Valid (get_or torn 0 0)) xs) xs in
      ap (λ (qs : List Page). record { power = spent3 p; pages = qs })
      (ap (λ (xs : List Page). vald (prog xs)) (sym (effect_modify (outcome p) n (marked g Used 0) (marked g Used (get_or torn 0 0)) ps))
      ∙ ap vald (sym (effect_modify (outcome (spend p)) n (programmed g bytes) (programmed g (take g.area torn)) (modify n u ps)))
      ∙ sym (effect_modify (outcome (spend (spend p))) n (marked g Valid 0) (marked g Valid (get_or torn 0 0)) (modify n d (modify n u ps)))
      ∙ ap (modify n v) (modify_modify n u d ps)
      ∙ modify_modify n (λ (x : Page). d (u x)) v ps)

  -- a page of an image written is a run on the image
  pub written_ran : (n : ℕ) (p r : Progress) (before after : List ℕ) → r.left ≡ spent3 p.left → r.done ≡ counted_all p.done (wholes p.left write_kinds)
      → pages_of g after ≡ modify n (written g torn bytes p.left) (pages_of g before) → length after ≡ length before → Ran g torn (writes n bytes) p r before after
  written_ran n p r before after e t q h =
      record {
        is =
            ap₂ (λ (s : Power) (ps : List Page). record { power = s; pages = ps }) e q
            ∙ sym (run_writes n p.left (pages_of g before));
        size = h;
        told = t;
      }

  module _ (lb : length bytes ≡ g.area) (lt : length torn ≡ page_size g) where
    marked_size : (m : Mark) (p : Power) (x : Page) → length x ≡ page_size g → length (marked_by g torn m p x) ≡ page_size g
    marked_size m p x h =
        effect_has (λ (z : Page). length z ≡ page_size g) (outcome p) (marked g m 0 x) (marked g m (get_or torn 0 0) x) x
        (length_marked g m 0 x ∙ h) (length_marked g m (get_or torn 0 0) x ∙ h) h

    front : length (take g.area torn) ≡ g.area
    front = length-take-le g.area torn (omega arith)

    programmed_size : (p : Power) (x : Page) → length x ≡ page_size g → length (programmed_by g torn bytes p x) ≡ page_size g
    programmed_size p x h =
        effect_has (λ (z : Page). length z ≡ page_size g) (outcome p) (programmed g bytes x) (programmed g (take g.area torn) x) x
        (length_programmed g bytes x lb (omega arith) ∙ h) (length_programmed g (take g.area torn) x front (omega arith) ∙ h) h

    pub length_written : (p : Power) (x : Page) → length x ≡ page_size g → length (written g torn bytes p x) ≡ page_size g
    unfolding written
    length_written p x h =
        marked_size Valid (spend (spend p)) (programmed_by g torn bytes (spend p) (marked_by g torn Used p x))
        (programmed_size (spend p) (marked_by g torn Used p x) (marked_size Used p x h))
