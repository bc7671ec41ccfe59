-- A rebuild carried out, by its plan, its marks and its commit. Assumes nothing.
use mathlib.Core.Path.{subst, sym}
use mathlib.Core.List.{List}
use Prim.Native.Nat.{ℕ, ◌*◌}
use Rattle.std.specs.Prelude.{Option}
use Rattle.lists.specs.Lists.{All}
use Rattle.chip.specs.declared.progress.Progress.{Progress}
use Rattle.chip.specs.Geometry.{Geometry}
use Rattle.chip.specs.Chip.{pages_of}
use Rattle.chip.specs.RunCode.{Ran}
use Rattle.chip.proofs.Runs.{ran_append}
use Rattle.views.specs.Table.{events}
use Rattle.views.specs.PassCode.{Turned}
use Rattle.tree.specs.Tree.{Table}
use Rattle.journal.specs.MountCode.{marks_of}
use Rattle.journal.specs.Commit.{ValidSheet}
use Rattle.journal.specs.Plan as P
use Rattle.plan.specs.declared.make.Plan.{Plan}
use Rattle.execution.specs.ExecutionCode.{CarriesOut, named_plan}
use Rattle.renewal.specs.MakeCode.{MakesRebuild, anew_of}
use Rattle.renewal.specs.RenewCode.{plan_for, CarriesRebuild}

module _ (g : Geometry) (B : ℕ) (t : Table) (G : ℕ) (v : Option ℕ) (torn : List ℕ) (p q r : Progress) (xs ys zs l s u w targets sizes units free : List ℕ) (plan : Plan)
    (made : MakesRebuild g B t (pages_of g xs) targets sizes units free plan) (marked : Ran g torn (marks_of g v (pages_of g xs)) p q xs ys)
    (written : CarriesOut g (8 * B) G plan targets sizes units torn q r ys zs l s u w) where
  -- the plan that the arrays name is that of the rebuild
  abbrev named : P.Plan
  named = named_plan (8 * B) (anew_of t) targets plan

  pub renewed : CarriesRebuild g B t G v torn p r xs zs l s u w free
  renewed =
      record {
        ran =
            ran_append g torn (marks_of g v (pages_of g xs)) (P.ops_of g G (plan_for g B t (pages_of g xs))) p q r xs ys zs marked
            (subst (λ (n : P.Plan). Ran g torn (P.ops_of g G n) q r ys zs) made.plan (written.ran (anew_of t) made.holds));
        turned = λ h.
            subst (λ (n : P.Plan). Turned (events (8 * B) (P.news_of g G n)) l s u w) made.plan
            (written.turned (anew_of t) made.holds (subst (λ (n : P.Plan). All (ValidSheet g (8 * B)) n.written) (sym made.plan) h));
        numbers = made.numbers;
      }
