-- What the code reads from arrays that hold a table: its lists, and the contents of its nodes. Assumes nothing.
use mathlib.Core.Path.{◌≡◌, sym, ap, ◌∙◌}
use mathlib.Core.List.{List, reverse}
use Prim.Native.Nat.{ℕ, ◌<◌, ◌≤◌}
use lib.ListN.{length, length-reverse}
use Rattle.lists.specs.Lists.{any}
use Rattle.chip.specs.Geometry.{Geometry}
use Rattle.chip.specs.Page.{Page}
use Rattle.chip.specs.Chip.{in_block}
use Rattle.pages.specs.declared.unit.Unit as U
use Rattle.views.specs.Table.{Node, fresh}
use Rattle.views.specs.Stored.{Stores, list_view, stored_list}
use Rattle.views.proofs.Groups.{well_is}
use Rattle.views.proofs.Meanings.{Kept, kept_node, kept_size, kept_well, node_in}
use Rattle.views.proofs.ViewLaws.{view_stored}
use Rattle.journal.specs.Plan.{node_at}
use Rattle.journal.specs.Admissible.{contents_of}
use Rattle.journal.proofs.ContentsLaws.{SameContents}
use Rattle.contents.specs.ContentsCode.{contents_in}
use Rattle.contents.proofs.OwnLaws.{after_is, own_is}
use Rattle.plan.proofs.SurveyLaws.{any_reverse}
use Rattle.commits.specs.ExecuteCode.{HoldsTable}

module _ {g : Geometry} {limit : ℕ} {ps : List Page} {lens slots : List ℕ} {count : ℕ} {bytes : List ℕ} {tb : List Node} {G : ℕ} {us : List U.Unit}
    (h : HoldsTable g limit ps lens slots count bytes tb G us) where
  held_kept : Kept g limit ps tb G
  held_kept = record { is = h.is; clean = h.clean }

  -- ---- node n: its list is short, its view is read from the pages of its list
  held_node : (n : ℕ) → n < limit → node_at tb n ≡ node_in g limit ps n
  held_node n l = kept_node g limit ps tb G held_kept n fresh l

  held_short : (n : ℕ) → n < limit → length (node_at tb n).pages ≤ 4
  held_short n l =
      let e : node_in g limit ps n ≡ node_at tb n = sym (held_node n l) in
      let w = (well_is (node_in g limit ps n) (kept_well g limit ps tb G held_kept n l)).1 in
      rw e at w

  held_view : (n : ℕ) → n < limit → list_view g limit ps n (stored_list lens slots n) ≡ (node_at tb n).now
  held_view n l =
      let e = held_node n l in
      let s : Stores lens slots n (node_in g limit ps n).pages = (rw e at (h.lists n l)) in
      view_stored g limit ps tb G held_kept n lens slots l s ∙ ap (λ (s : Node). s.now) (sym e)

  pub held_list : (n : ℕ) → n < limit → stored_list lens slots n ≡ reverse (node_at tb n).pages
  held_list n l = (h.lists n l).pages (held_short n l)

  -- ---- the contents
  pub held_contents : SameContents limit (contents_in g limit ps lens slots count bytes) (contents_of (node_at tb) us)
  held_contents =
      record {
        after = λ n l. after_is limit n count bytes us h.units g ps lens slots (node_at tb n).now h.few (held_view n l);
        buffered = λ n l. own_is limit n count bytes us h.units;
        listed = λ n l. record {
          size = ap length (held_list n l) ∙ length-reverse (node_at tb n).pages;
          blocks = λ f b. ap (λ (xs : List ℕ). any (in_block f b) xs) (held_list n l) ∙ any_reverse (in_block f b) (node_at tb n).pages;
        };
      }

  pub held_size : length tb ≡ limit
  held_size = kept_size g limit ps tb G held_kept
