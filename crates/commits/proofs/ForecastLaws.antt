-- The forecast of a commit tells the operations of the plan that is read, by kind. Assumes nothing.
use mathlib.Core.Path.{◌≡◌, sym, ap₂, ◌∙◌}
use mathlib.Core.List.{List}
use Prim.Native.Nat.{ℕ, ◌*◌}
use Rattle.std.proofs.Common.{None, Option, Some}
use Rattle.std.proofs.lemmas.Option.{none-some, same_Some}
use Rattle.chip.specs.Geometry.{Geometry}
use Rattle.chip.specs.Page.{Page}
use Rattle.journal.proofs.KindLaws.{commit_kinds}
use Rattle.plan.specs.declared.make.Plan as M
use Rattle.plan.specs.MakeCode.{Makes, MakesPlan}
use Rattle.commits.specs.ExecuteCode.{Costs, plan_read}
use Rattle.commits.proofs.ExecuteLaws.{read_erases, read_none, read_pages, read_some}

module _ {g : Geometry} {limit B : ℕ} {lens slots : List ℕ} {count : ℕ} {bytes : List ℕ} {G : ℕ} {ps : List Page} {targets sizes units : List ℕ} {o : Option M.Plan}
    (m : Makes g limit B lens slots count bytes G ps targets sizes units o) where
  pub forecasts_none : o ≡ None → Costs g limit B lens slots count bytes G ps None
  forecasts_none z = record { stuck = sym (read_none m z); all = λ q e. absurd (none-some q e) }

module _ {g : Geometry} {limit B : ℕ} {lens slots : List ℕ} {count : ℕ} {bytes : List ℕ} {G : ℕ} {ps : List Page} {targets sizes units : List ℕ} {r : M.Plan}
    (m : MakesPlan g limit B lens slots count bytes G ps targets sizes units r) where
  -- a data program and two marks for each page, and the erases
  pub forecasts_some : Costs g limit B lens slots count bytes G ps (Some (record { programs = r.pages; marks = 2 * r.pages; erases = r.erases }))
  forecasts_some =
      record {
        stuck = sym (read_some m);
        all = λ q e. sym (same_Some _ q e) ∙ sym (commit_kinds g G (plan_read g limit B lens slots count bytes G ps)
            ∙ ap₂ (λ (n k : ℕ). record { programs = n; marks = 2 * n; erases = k }) (read_pages m) (read_erases m));
      }
