-- The plan that is read from image and arrays is the plan of the policy over any table whose lists they hold, and contents that are the same. Assumes nothing.
use mathlib.Core.Path.{◌≡◌, refl, ap, ap₂, ◌∙◌}
use mathlib.Core.List.{List, reverse}
use Prim.Native.Nat.{ℕ, ◌<◌}
use lib.ListN.{length}
use Rattle.chip.specs.Geometry.{Geometry}
use Rattle.chip.specs.Page.{Page}
use Rattle.pages.specs.Steps.{live_from}
use Rattle.views.specs.Table.{Node}
use Rattle.views.specs.Stored.{stored_list}
use Rattle.journal.specs.Plan.{head_block, node_at, plan_on, spare_blocks}
use Rattle.journal.specs.Admissible.{Contents, all_packs, unused_blocks}
use Rattle.journal.specs.Policy.{Decision, decide, decide_on, follow, nothing, plan_by, used_blocks}
use Rattle.journal.proofs.ContentsLaws.{SameContents, decide_same, plan_by_same}
use Rattle.contents.specs.ContentsCode.{contents_in}
use Rattle.plan.specs.MakeCode.{decision_of, unused_of, used_of}
use Rattle.plan.proofs.SurveyLaws.{around_is, unused_is}
use Rattle.commits.specs.ExecuteCode.{plan_over, plan_read}

module _ (g : Geometry) (limit B : ℕ) (lens slots : List ℕ) (count : ℕ) (bytes : List ℕ) (G : ℕ) (ps : List Page) (tb : List Node) (size : length tb ≡ limit)
    (lists : (n : ℕ) → n < limit → stored_list lens slots n ≡ reverse (node_at tb n).pages) (M : Contents) where
  abbrev N : Contents
  N = contents_in g limit ps lens slots count bytes

  -- blocks are those of the table
  un_is : unused_of g limit B lens slots G ps ≡ unused_blocks g B ps tb G
  un_is = unused_is g limit lens slots G (live_from g 0 ps) tb size lists B (head_block g ps)

  us_is : used_of g limit B lens slots G ps ≡ used_blocks g B ps tb G
  us_is = around_is g limit lens slots G (live_from g 0 ps) tb size lists B (head_block g ps)

  decision_is : decision_of g limit B lens slots count bytes G ps ≡ decide g limit B ps tb G N
  decision_is = ap₂ (λ (xs ys : List ℕ). decide_on g limit (spare_blocks g B) ps (head_block g ps) xs ys N) un_is us_is

  over_is : (D : Decision) → plan_over g limit ps (unused_of g limit B lens slots G ps) N D ≡ plan_by g limit B ps tb G N D
  over_is nothing = refl
  over_is (follow A) = ap (λ (bs : List ℕ). plan_on g ps (head_block g ps) bs (all_packs N A limit)) un_is

  pub read_plan : SameContents limit N M → plan_read g limit B lens slots count bytes G ps ≡ plan_by g limit B ps tb G M (decide g limit B ps tb G M)
  unfolding plan_read
  read_plan same =
      over_is (decision_of g limit B lens slots count bytes G ps) ∙ ap (plan_by g limit B ps tb G N) decision_is
      ∙ plan_by_same g limit B ps tb G N M (decide g limit B ps tb G N) (decide g limit B ps tb G M) same
      (decide_same g limit (spare_blocks g B) ps (head_block g ps) (unused_blocks g B ps tb G) (used_blocks g B ps tb G) N M same)
