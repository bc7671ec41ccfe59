-- What a rebuild carried out ensures: the marks of the void pages, then the commit of its plan, as far as the power goes; the node table and the free numbers that it leaves.
use Rattle.std.specs.Prelude.{◌≡◌, List, ◌++◌, ℕ, ◌*◌, Option}
use Rattle.lists.specs.Lists.{All}
use Rattle.chip.specs.declared.progress.Progress.{Progress}
use Rattle.chip.specs.Geometry.{Geometry}
use Rattle.chip.specs.Page.{Page}
use Rattle.chip.specs.Chip.{pages_of}
use Rattle.chip.specs.RunCode.{Ran}
use Rattle.views.specs.Table.{events}
use Rattle.views.specs.PassCode.{Turned}
use Rattle.tree.specs.Tree.{Table, at}
use Rattle.tree.specs.Free.{free_numbers}
use Rattle.tree.specs.Rebuild.{rebuild}
use Rattle.journal.specs.MountCode.{marks_of}
use Rattle.journal.specs.Commit.{ValidSheet}
use Rattle.journal.specs.Plan.{Plan, news_of, ops_of}
use Rattle.journal.specs.Rebuild.{rebuild_plan}

-- the plan of the rebuild of tree t on a chip of B blocks
abbrev pub plan_for : Geometry → ℕ → Table → List Page → Plan
plan_for g B t ps = rebuild_plan g (8 * B) B ps (at (rebuild t))

-- commit G + 1, where v is the commit of the void pages, if there are any; the arrays l and s become u and w
pub record CarriesRebuild (g : Geometry) (B : ℕ) (t : Table) (G : ℕ) (v : Option ℕ) (torn : List ℕ) (p reached : Progress) (before after l s u w free : List ℕ) : Type 0 where
  pub ran : Ran g torn (marks_of g v (pages_of g before) ++ ops_of g G (plan_for g B t (pages_of g before))) p reached before after
  pub turned : All (ValidSheet g (8 * B)) (plan_for g B t (pages_of g before)).written → Turned (events (8 * B) (news_of g G (plan_for g B t (pages_of g before)))) l s u w
  pub numbers : free ≡ free_numbers (rebuild t)
