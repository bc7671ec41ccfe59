-- What the execution of a commit ensures, and its forecast: the operations of the plan, and the node table and the figures of the blocks that the commit leaves.
use Rattle.std.specs.Prelude.{◌≡◌, true, ℕ, suc, ◌*◌, ◌^◌, ◌<◌, ◌≤◌, length, Some, Option, is_none, IsSome}
use Rattle.std.specs.Option.{ForNone, ForSome}
use mathlib.Core.List.{List, [], map, foldl}
use Rattle.lists.specs.Lists.{All}
use Rattle.chip.specs.declared.progress.Progress.{Progress}
use Rattle.chip.specs.declared.progress.Counts.{Counts}
use Rattle.chip.specs.Geometry.{Geometry, page_size}
use Rattle.chip.specs.Page.{Page}
use Rattle.chip.specs.Counts.{counts_of}
use Rattle.chip.specs.Chip.{kinds_of, pages_of}
use Rattle.chip.specs.Erases.{figures_after}
use Rattle.chip.specs.RunCode.{Ran}
use Rattle.pages.specs.declared.unit.Unit as U
use Rattle.pages.specs.Units.{Valid, decodes}
use Rattle.pages.specs.Steps.{live_from, ordered, stand, steps}
use Rattle.views.specs.Table.{Node, events, is_whole, meaning, means, turn}
use Rattle.views.specs.Groups.{present}
use Rattle.views.specs.Stored.{Stores}
use Rattle.journal.specs.Plan.{Plan, head_block, is_empty, news_of, node_at, ops_of, plan_on, stuck}
use Rattle.journal.specs.Admissible.{Contents, all_packs}
use Rattle.journal.specs.Policy as Policy
use Rattle.journal.specs.Policy.{Decision, follow}
use Rattle.contents.specs.ContentsCode.{contents_in}
use Rattle.plan.specs.MakeCode.{decision_of, unused_of}

-- ---- the plan of commit G + 1, read from image and arrays, whatever these hold
-- the decision over the contents N, on the head and the unused blocks un
abbrev pub plan_over : Geometry → ℕ → List Page → List ℕ → Contents → Decision → Plan
plan_over g limit ps un N Policy.nothing = stuck
plan_over g limit ps un N (follow A) = plan_on g ps (head_block g ps) un (all_packs N A limit)

unfoldable pub plan_read : Geometry → ℕ → ℕ → List ℕ → List ℕ → ℕ → List ℕ → ℕ → List Page → Plan
plan_read g limit B lens slots count bytes G ps =
    plan_over g limit ps (unused_of g limit B lens slots G ps) (contents_in g limit ps lens slots count bytes) (decision_of g limit B lens slots count bytes G ps)

-- the image means the table tb and the commit number c, with no void page; the arrays hold the lists of tb, and the buffer holds the units us
pub record HoldsTable (g : Geometry) (limit : ℕ) (ps : List Page) (lens slots : List ℕ) (count : ℕ) (bytes : List ℕ)
    (tb : List Node) (c : ℕ) (us : List U.Unit) : Type 0 where
  pub is : meaning g limit ps ≡ means tb c
  pub clean : steps g ps ≡ stand [] (ordered (live_from g 0 ps))
  pub lists : (n : ℕ) → n < limit → Stores lens slots n (node_at tb n).pages
  pub units : decodes limit count bytes ≡ map Some us
  pub few : count ≤ 960

-- what a plan is made of: these, on an image of B blocks whose bytes are below 256; the units obey the layout, and no view after them is broken
pub record Plannable (g : Geometry) (limit B : ℕ) (lens slots : List ℕ) (count : ℕ) (buffer : List ℕ) (ps : List Page) (tb : List Node) (G : ℕ) (us : List U.Unit) : Type 0 where
  pub held : HoldsTable g limit ps lens slots count buffer tb G us
  pub limits : limit ≡ 8 * B
  pub number : suc G < 2 ^ 32
  pub long : length ps ≡ B * g.pages
  pub sizes : All (λ (x : Page). length x ≡ page_size g) ps
  pub bytes : All (λ (x : Page). All (λ (b : ℕ). b < 256) x) ps
  pub some : 0 < length us
  pub valid : All (Valid limit) us
  pub whole : (n : ℕ) → n < limit → is_whole (present n (node_at tb n).now us) ≡ true

-- on any arrays: it is stuck, None, where the plan that is read has no page, and then the image is as it was; else the operations of that plan are done as far as the power
-- goes, and the figures worn are those after them. On arrays that hold a table and units the pages of the plan are noted too. The arrays l and s become r and t
pub record Executes (g : Geometry) (limit B : ℕ) (lens slots : List ℕ) (count : ℕ) (buffer : List ℕ) (G : ℕ) (torn : List ℕ) (p : Progress)
    (before after l s r t worn worn' : List ℕ) (e : Option Progress) : Type 0 where
  pub size : length after ≡ length before
  pub stuck : is_none e ≡ is_empty (plan_read g limit B lens slots count buffer G (pages_of g before)).written
  pub still : ForNone e (after ≡ before)
  pub ran : ForSome e (λ (reached : Progress). Ran g torn (ops_of g G (plan_read g limit B lens slots count buffer G (pages_of g before))) p reached before after)
  pub figures : IsSome e → worn' ≡ figures_after (ops_of g G (plan_read g limit B lens slots count buffer G (pages_of g before))) worn
  pub lists : (tb : List Node) (us : List U.Unit) → Plannable g limit B lens slots count buffer (pages_of g before) tb G us → l ≡ lens → s ≡ slots
      → IsSome e → (n : ℕ) → n < limit
      → Stores r t n (foldl (turn n) (node_at tb n) (events limit (news_of g G (plan_read g limit B lens slots count buffer G (pages_of g before))))).pages

-- the forecast of a commit, on any arrays: stuck, None, where that plan has no page; else its operations by kind
pub record Costs (g : Geometry) (limit B : ℕ) (lens slots : List ℕ) (count : ℕ) (buffer : List ℕ) (G : ℕ) (ps : List Page) (r : Option Counts) : Type 0 where
  pub stuck : is_none r ≡ is_empty (plan_read g limit B lens slots count buffer G ps).written
  pub all : ForSome r (λ (ops : Counts). ops ≡ counts_of (kinds_of (ops_of g G (plan_read g limit B lens slots count buffer G ps))))
