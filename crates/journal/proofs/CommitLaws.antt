-- The cut law of a commit: from what the image means, for every allowance and torn bytes, the old meaning or the new one. Assumes nothing.
use mathlib.Core.Path.{◌≡◌, ◌∙◌}
use mathlib.Core.Bool.{cond}
use mathlib.Core.List.{List, foldl}
use Prim.Native.Nat.{ℕ, suc, ◌≤◌}
use lib.ListN.{length, get_or}
use borrow.Author.Tests.{le-leb}
use Rattle.lists.specs.Lists.{All, At, tab}
use Rattle.chip.specs.Geometry.{Geometry}
use Rattle.chip.specs.Page.{Page, blank}
use Rattle.chip.specs.Chip.{run}
use Rattle.chip.proofs.Runs.{with_power, run_parts}
use Rattle.chip.specs.Power.{takes_effect}
use Rattle.pages.specs.Steps.{Live}
use Rattle.views.specs.Table.{events, Node, turn, means, meaning}
use Rattle.views.proofs.Meanings.{in_order, Kept, node_in, opened}
use Rattle.views.proofs.Rooms.{Unlisted, Outside}
use Rattle.views.proofs.ViewLaws.{Apart}
use Rattle.journal.specs.Commit.{commit_ops, cleared}
use Rattle.journal.proofs.CommitBuilt.{NextCommit}
use Rattle.journal.proofs.CommitCut.{cut, cut_clean}

-- bs: blocks to erase that no list names and that hold no page of commit c; news: the pages of commit c + 1, in order of their index,
-- each at a place of its own that is free after the erases
module _ (g : Geometry) (limit : ℕ) (torn : List ℕ) (spare : 3 ≤ g.spare) (lt : g.area ≤ length torn)
    (ps : List Page) (tb : List Node) (c : ℕ) (k : Kept g limit ps tb c) (bs : List ℕ) (news : List Live)
    (unlisted : All (Unlisted g limit (node_in g limit ps)) bs) (outside : All (Outside g c (in_order g ps)) bs)
    (plan : NextCommit g limit (node_in g limit ps) c news) (apart : Apart news)
    (free : All (λ (x : Live). At x.place (blank g) (cleared g bs ps)) news) where
  -- the table of the new commit: each node by its units in the new pages
  abbrev pub new_table : List Node
  new_table = tab 0 limit (λ (n : ℕ). foldl (turn n) (node_in g limit ps n) (events limit news))

  -- the cut law, for every allowance n
  pub cut_law : (n : ℕ) → meaning g limit (run g torn (with_power n ps) (commit_ops bs news)).pages
      ≡ cond (takes_effect (get_or torn 0 0) n (length (commit_ops bs news))) (means new_table (suc c)) (means tb c)
  cut_law n =
      let o = opened g limit ps tb c k in
      rw (run_parts g torn n ps (commit_ops bs news), o.tables)
      (cut g limit torn spare lt (node_in g limit ps) c o.z o.well news plan apart bs o.s n ps o.good o.order unlisted
      (rw (← o.order) outside) free)

  -- with enough power: the new meaning
  pub finished : (n : ℕ) → length (commit_ops bs news) ≤ n
      → meaning g limit (run g torn (with_power n ps) (commit_ops bs news)).pages ≡ means new_table (suc c)
  finished n h = cut_law n ∙ rw (le-leb (length (commit_ops bs news)) n h)

  -- finished, no page is void: the next call may rely on it
  pub finished_kept : (n : ℕ) → length (commit_ops bs news) ≤ n
      → Kept g limit (run g torn (with_power n ps) (commit_ops bs news)).pages new_table (suc c)
  finished_kept n l =
      let o = opened g limit ps tb c k in
      record {
        is = finished n l;
        clean = rw (run_parts g torn n ps (commit_ops bs news))
            (cut_clean g limit torn spare lt (node_in g limit ps) c o.z o.well news plan apart bs o.s n ps l o.good o.order unlisted
            (rw (← o.order) outside) free);
      }
