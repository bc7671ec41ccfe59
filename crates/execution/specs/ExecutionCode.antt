-- What the execution of a commit ensures on any image: the operations of the plan that the arrays name, and the node table that the commit leaves.
use Rattle.std.specs.Prelude.{◌≡◌, ℕ, List, length, take}
use Rattle.lists.specs.Lists.{All, tab}
use Rattle.chip.specs.declared.progress.Progress.{Progress}
use Rattle.chip.specs.Geometry.{Geometry}
use Rattle.chip.specs.RunCode.{Ran}
use Rattle.pages.specs.declared.unit.Update.{Update}
use Rattle.views.specs.Table.{events}
use Rattle.views.specs.PassCode.{Turned}
use Rattle.journal.specs.Admissible.{page_packs}
use Rattle.journal.specs.Commit.{ValidSheet}
use Rattle.journal.specs.Plan as P
use Rattle.journal.specs.PlanCode.{target_in}
use Rattle.plan.specs.declared.make.Plan.{Plan}
use Rattle.execution.specs.WriteCode.{Holds}

-- the plan that the arrays name, where f is what is written of each node
abbrev pub plan_in : ℕ → (ℕ → List Update) → List ℕ → List ℕ → ℕ → List ℕ → ℕ → P.Plan
plan_in limit f targets places pages erased erases =
    record { erased = take erases erased; written = P.sheets (take pages places) (tab 0 pages (page_packs f (target_in targets) limit)) }

-- the same by the code's plan
abbrev pub named_plan : ℕ → (ℕ → List Update) → List ℕ → Plan → P.Plan
named_plan limit f targets plan = plan_in limit f targets plan.places plan.pages plan.erased plan.erases

-- commit G + 1 carried out as far as the power goes, for every f that the arrays hold: its operations done; and its pages noted where their units obey the layout.
-- The arrays l and s become u and v
pub record CarriesOut (g : Geometry) (limit G : ℕ) (plan : Plan) (targets sizes units torn : List ℕ) (p reached : Progress) (before after l s u v : List ℕ) : Type 0 where
  pub size : length after ≡ length before
  pub ran : (f : ℕ → List Update) → Holds g limit f targets sizes units plan.pages
      → Ran g torn (P.ops_of g G (named_plan limit f targets plan)) p reached before after
  pub turned : (f : ℕ → List Update) → Holds g limit f targets sizes units plan.pages → All (ValidSheet g limit) (named_plan limit f targets plan).written
      → Turned (events limit (P.news_of g G (named_plan limit f targets plan))) l s u v
